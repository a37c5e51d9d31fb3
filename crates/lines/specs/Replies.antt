-- The reply lines: this project's own rule. Numbers are plain decimal; those of an obstacle's
-- position have a `-` if they are negative. Single blanks separate the words, and each line ends in
-- LF.
use Rattle.std.specs.Prelude.{ℕ, List, [], ◌∷◌, ◌++◌, codes, Some, None}
use Rattle.std.specs.Fmt.{decimal, signed_decimal}
use Rattle.metric.specs.Refusal.{refusal_text}
use Rattle.metric.specs.declared.cell.Cell.{Cell}
use Rattle.metric.specs.declared.near.Near.{Near}
use Rattle.metric.specs.declared.spot.Spot.{Spot}
use Rattle.events.specs.declared.command.Reply.{Reply}
use Rattle.events.specs.declared.command.Reply.TheVariants.{Painted, Published, Reverted}
use Rattle.events.specs.declared.command.Reply.TheVariants.{Collected, Checkpointed}
use Rattle.lines.specs.declared.answer.Answer.{Answer}
use Rattle.lines.specs.declared.answer.Answer.TheVariants as answers

-- a cell is written as its column and its row
abbrev pub cell_text : Cell → List ℕ
cell_text cell = decimal cell.x ++ (32 ∷ decimal cell.y)

-- an obstacle's position is written as its column and its row, each with a `-` if it is negative
abbrev pub spot_text : Spot → List ℕ
spot_text spot = signed_decimal spot.x ++ (32 ∷ signed_decimal spot.y)

-- a near obstacle is written as its distance and its position
abbrev pub near_text : Near → List ℕ
near_text near = codes "OK " ++ (decimal near.dist ++ (32 ∷ spot_text near.cell))

-- a least distance is written with the cell that has it and its obstacle
abbrev pub found_text : Cell × Near → List ℕ
found_text found =
    codes "OK " ++ (decimal found.1.dist
    ++ (32 ∷ (cell_text found.0 ++ (32 ∷ spot_text found.1.cell))))

-- the numbers after `OK`, each after a blank
abbrev pub numbers_text : List ℕ → List ℕ
numbers_text [] = []
numbers_text (number ∷ numbers) = (32 ∷ decimal number) ++ numbers_text numbers

-- the numbers in the reply to a command: its place, and its details
abbrev pub numbers_of : Reply → List ℕ
numbers_of (Painted place changed) = place ∷ changed ∷ []
numbers_of (Published place version) = place ∷ version ∷ []
numbers_of (Reverted place) = place ∷ []
numbers_of (Collected place floor freed kept) = place ∷ floor ∷ freed ∷ []
numbers_of (Checkpointed place) = place ∷ []

-- the text of a reply with one number
abbrev pub one_text : ℕ → List ℕ
one_text number = codes "OK" ++ numbers_text (number ∷ [])

-- the text of an answer, without the LF; the bytes of a dump aren't part of it
abbrev pub answer_text : Answer → List ℕ
answer_text (answers.Near None) = codes "NONE"
answer_text (answers.Near (Some near)) = near_text near
answer_text (answers.Found None) = codes "NONE"
answer_text (answers.Found (Some found)) = found_text found
answer_text (answers.Clear None) = codes "OK CLEAR"
answer_text (answers.Clear (Some found)) = found_text found
answer_text (answers.Done reply) = codes "OK" ++ numbers_text (numbers_of reply)
answer_text (answers.Version version) = one_text version
answer_text (answers.Dumped bytes) = one_text bytes
answer_text answers.Bye = codes "BYE"
answer_text (answers.Refused refusal) = refusal_text refusal

-- a reply line is the answer's text and LF
abbrev pub reply_line : Answer → List ℕ
reply_line answer = answer_text answer ++ 10 ∷ []
