-- A dump, and its rows, which are written in pieces.
use Rattle.std.proofs.Common.{◌≡◌, ℕ, ◌-◌, ◌*◌, ◌<◌, ◌≤◌, List, ◌++◌, length, Result, refl, arith}
use Rattle.std.specs.List.{range_with_len, flat_map}
use Rattle.metric.specs.Wire.{Wire}
use Rattle.metric.specs.declared.stream.WriteFault.{WriteFault}
use Rattle.bits.specs.Cells.{Cells}
use Rattle.pbm.specs.Writing.{plain_digit, plain_text}
use Rattle.pbm.proofs.Ranges.{flat_map-rows}
use Rattle.lines.specs.declared.answer.Answer.TheVariants as answers
use Rattle.lines.specs.Replies.{reply_line}
use Rattle.line_io.specs.Saying.{IsDumped}
use Rattle.line_io.specs.Wire.{HasNotWritten, HasPut, HasWritten}
use Rattle.line_io.proofs.Wires.{failed_first, failed_on, written_on}

-- the number of an image's bytes and then the image, as far as they were written, are a dump
pub dumped : (cells : Cells) (count : ℕ) (put : Result (Unit {0}) WriteFault) (old new : Wire)
    → count ≡ length (plain_text cells)
    → HasPut put old (reply_line (answers.Dumped count) ++ plain_text cells) new
    → IsDumped cells put old new
dumped cells count put old new is written = record {
  answer = answers.Dumped count;
  body = plain_text cells;
  is_dump = (refl, is);
  put = written;
}

-- the lines of the first rows are their digits, one row after another
abbrev pub rows_text : Cells → ℕ → List ℕ
rows_text cells y = flat_map (plain_digit cells) (range_with_len 0 (y * cells.width))

-- once the lines of the first rows, and of some rows more, were written, the lines of all these
-- were
pub rows_on : (cells : Cells) (old between new : Wire) (from to : ℕ) (piece : List ℕ) → from < to
    → piece ≡ flat_map (plain_digit cells)
    (range_with_len (from * cells.width) ((to - from) * cells.width))
    → HasWritten old (rows_text cells from) between → HasWritten between piece new
    → HasWritten old (rows_text cells to) new
rows_on cells old between new from to piece order is first next =
    rw (← flat_map-rows (plain_digit cells) cells.width from to (omega arith), ← is)
    (written_on old between new (rows_text cells from) piece first next)

-- where the write of the lines of some rows failed, the write of the lines of all rows failed
pub rows_failed : (cells : Cells) (old between new : Wire) (from to all : ℕ) (piece : List ℕ)
    → from < to → to ≤ all
    → piece ≡ flat_map (plain_digit cells)
    (range_with_len (from * cells.width) ((to - from) * cells.width))
    → HasWritten old (rows_text cells from) between → HasNotWritten between piece new
    → HasNotWritten old (rows_text cells all) new
rows_failed cells old between new from to all piece order within is first next =
    let failed = failed_on old between new (rows_text cells from) piece first next in
    rw (← flat_map-rows (plain_digit cells) cells.width to all within) (failed_first old new
    (rows_text cells to) _ (rw (
      ← flat_map-rows (plain_digit cells) cells.width from to
          (omega arith),
      ← is,
    ) failed))
