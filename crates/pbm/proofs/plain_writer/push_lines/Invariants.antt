-- The lines so far were added; each has 70 digits.
use Rattle.std.proofs.Common.{◌≡◌, ◌+◌, ◌-◌, ◌*◌, ◌%◌, ◌≤◌, ◌++◌, length, vec_len, vec_capacity}
use Rattle.std.specs.List.{range_with_len, flat_map}
use Rattle.pbm.specs.Writing.{plain_digit, row_length}
use Rattle.pbm.proofs.plain_writer.push_lines.Given as goal

abbrev pub invariant-lines : goal.invariant-lines
invariant-lines l = record {
  text : l.out.items ≡ l.fn.out.items ++ flat_map (plain_digit l.bitmap)
      (range_with_len (l.y * l.bitmap.width) l.start);
  within : l.start ≤ length l.digits;
  aligned : l.start % 70 ≡ 0;
  added : vec_len l.out ≡ vec_len l.fn.out + row_length l.start;
  room : vec_capacity l.fn.out ≤ vec_capacity l.out;
}

abbrev pub decreases-lines : goal.decreases-lines
decreases-lines l = length l.digits - l.start
