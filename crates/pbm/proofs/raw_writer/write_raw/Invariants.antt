-- The rows so far were added.
use Rattle.std.proofs.Common.{◌≡◌, ◌+◌, ◌*◌, ◌≤◌, ◌++◌, length, map, vec_len, vec_capacity}
use Rattle.std.specs.List.{range_with_len}
use Rattle.pbm.specs.Image.{bytes_across}
use Rattle.pbm.specs.Writing.{raw_byte}
use Rattle.pbm.proofs.raw_writer.write_raw.Given as goal

abbrev pub invariant-rows : goal.invariant-rows
invariant-rows l = record {
  text : l.out.items ≡ l.initial.out.items ++ map (raw_byte l.bitmap)
      (range_with_len 0 (l.y * bytes_across l.bitmap.width));
  added : vec_len l.out ≡ vec_len l.initial.out + l.y * bytes_across l.bitmap.width;
  room : vec_capacity l.initial.out ≤ vec_capacity l.out;
  row : length l.row ≡ 512;
}
