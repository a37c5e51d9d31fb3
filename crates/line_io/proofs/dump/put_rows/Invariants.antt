-- The lines of the rows so far were written.
use Rattle.std.proofs.Common.{◌-◌, ◌≡◌, ◌*◌, ◌≤◌, vec_capacity}
use Rattle.std.specs.List.{range_with_len, flat_map}
use Rattle.pbm.specs.Writing.{plain_digit}
use Rattle.line_io.specs.Wire.{HasWritten}
use Rattle.line_io.proofs.dump.put_rows.Given as goal

abbrev pub invariant-pieces : goal.invariant-pieces
invariant-pieces g l = record {
  side : l.height ≡ l.bitmap.height;
  rows : l.y ≤ l.bitmap.height;
  room : 65536 ≤ vec_capacity l.piece;
  written : HasWritten (g.S.Stream.wire l.fn.stream)
      (flat_map (plain_digit l.bitmap) (range_with_len 0 (l.y * l.bitmap.width)))
      (g.S.Stream.wire l.stream);
}

abbrev pub decreases-pieces : goal.decreases-pieces
decreases-pieces g l = l.height - l.y
