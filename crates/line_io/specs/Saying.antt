-- What is written as a last text, and as a dump: this project's own rule.
use Rattle.std.specs.Prelude.{◌≡◌, ℕ, ◌⊎◌, List, [], ◌++◌, length, Result}
use Rattle.metric.specs.declared.refusal.Refusal.TheVariants.{Memory}
use Rattle.metric.specs.declared.stream.WriteFault.{WriteFault}
use Rattle.metric.specs.Wire.{Wire}
use Rattle.bits.specs.Cells.{Cells}
use Rattle.pbm.specs.Writing.{plain_text}
use Rattle.lines.specs.declared.answer.Answer.{Answer}
use Rattle.lines.specs.declared.answer.Answer.TheVariants as answers
use Rattle.lines.specs.Replies.{reply_line}
use Rattle.line_io.specs.declared.end.End.{End}
use Rattle.line_io.specs.declared.end.End.TheVariants as ends
use Rattle.line_io.specs.Wire.{HasNotWritten, HasPut, HasWritten}

-- a last text was written, and the stream ends as planned, or a write failed
abbrev pub HasSaid : End → End → Wire → List ℕ → Wire → Type 0
HasSaid planned end old text new =
    ((end ≡ planned) × HasWritten old text new)
    ⊎ ((end ≡ ends.WriteFailed) × HasNotWritten old text new)

-- a bitmap's dump is the number of bytes of its plain image and then the image, or out of memory
abbrev pub IsDump : Cells → Answer → List ℕ → Type 0
IsDump cells (answers.Dumped n) body = (body ≡ plain_text cells) × (n ≡ length body)
IsDump cells answer body = (answer ≡ answers.Refused Memory) × (body ≡ [])

-- a bitmap's dump was written: its plain image after its number of bytes, or out of memory
pub record IsDumped (cells : Cells) (written : Result (Unit {0}) WriteFault)
    (wire wire_after : Wire) : Type 0 where
  pub answer : Answer
  pub body : List ℕ
  pub is_dump : IsDump cells answer body
  pub put : HasPut written wire (reply_line answer ++ body) wire_after
