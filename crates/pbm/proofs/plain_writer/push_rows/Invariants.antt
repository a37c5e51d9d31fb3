-- The rows so far were added.
use Rattle.std.proofs.Common.{◌≡◌, ◌+◌, ◌-◌, ◌*◌, ◌≤◌, ◌++◌, length, vec_len, vec_capacity}
use Rattle.std.specs.List.{range_with_len, flat_map}
use Rattle.pbm.specs.Writing.{plain_digit, row_length}
use Rattle.pbm.proofs.plain_writer.push_rows.Given as goal

abbrev pub invariant-rows : goal.invariant-rows
invariant-rows l = record {
  order : l.from ≤ l.y;
  text : l.out.items ≡ l.fn.out.items ++ flat_map (plain_digit l.bitmap)
      (range_with_len (l.from * l.bitmap.width) ((l.y - l.from) * l.bitmap.width));
  added : vec_len l.out ≡ vec_len l.fn.out + (l.y - l.from) * row_length l.bitmap.width;
  room : vec_capacity l.fn.out ≤ vec_capacity l.out;
  digits : length l.digits ≡ 4096;
}
