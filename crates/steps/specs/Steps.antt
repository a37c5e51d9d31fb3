-- What steps answers to a text: this project's own rule. The first line opens a world.
-- Each line after it is done in that world, and gets one answer line.
use Rattle.std.specs.Prelude.{◌≡◌, ◌≤◌, ℕ, ◌⊎◌, List, [], ◌∷◌, ◌++◌, replicate, codes, Option}
use Rattle.std.specs.Prelude.{Result, Ok, Err, IsErr, IsOk}
use Rattle.std.specs.Fmt.{decimal}
use Rattle.std.specs.List.{flat_map}
use Rattle.metric.specs.Refusal.{refusal_text}
use Rattle.metric.specs.Stream.{AreAll, Appends, AppendsFront}
use Rattle.metric.specs.declared.refusal.Refusal.{Refusal}
use Rattle.metric.specs.declared.refusal.Refusal.TheVariants as refusals
use Rattle.events.specs.Runs.{IsOpened, IsRun, SafeStep}
use Rattle.events.specs.Steps.{steps_left}
use Rattle.events.specs.Views.{State}
use Rattle.events.specs.Words.{tiles}
use Rattle.events.specs.declared.event.Event.{Event}
use Rattle.events.specs.declared.event.Event.TheVariants as events
use Rattle.events.specs.declared.event.NotEnabled.{NotEnabled}
use Rattle.events.specs.declared.event.StepReply.{StepReply}
use Rattle.steps.specs.declared.steps.opening.OpenLine.{OpenLine}
use Rattle.steps.specs.Opening.{base_opened, later_lines, opened_by}
use Rattle.steps.specs.StepAnswers.{step_text}
use Rattle.steps.specs.StepLines.{StepSaid, EventView, bad, event, keeps, refused}
use Rattle.steps.specs.StepLines.{step_said, told_event}
use Rattle.words.specs.TextLines.{lines_of}

-- the current command has at least this many steps left, and this is at least one
pub record CanKeep (count : ℕ) (w : State) : Type 0 where
  pub some : 1 ≤ count
  pub left : count ≤ steps_left w w.keeper.hand

-- the keeper does this many steps in order, and the last has this answer
pub record Keeps (count : ℕ) (old : State) (answer : Result StepReply NotEnabled) (new : State) :
    Type 0 where
  pub before : List (Result StepReply NotEnabled)
  pub run : IsRun old (replicate count events.Keep) (before ++ answer ∷ []) new

-- not all of this many steps are enabled, and none is done
pub record KeepsNone (count : ℕ) (old : State) (answer : Result StepReply NotEnabled)
    (new : State) : Type 0 where
  pub cannot : CanKeep count old → ⊥
  pub answer_is : IsErr answer
  pub same : new ≡ old

-- the keeper does this many steps if all of them are enabled, and none otherwise
abbrev pub KeepsAll : ℕ → State → Result StepReply NotEnabled → State → Type 0
KeepsAll count old answer new =
    (CanKeep count old × Keeps count old answer new) ⊎ KeepsNone count old answer new

-- the event is done, and this is the text of its answer
pub record IsStepText (told : EventView) (old : State) (text : List ℕ) (new : State) : Type 0 where
  pub done : Event
  pub answer : Result StepReply NotEnabled
  pub told_is : told_event done ≡ told
  pub step : SafeStep old done answer new
  pub text_is : text ≡ step_text answer

-- the keeper does this many steps, and this is the text of the last one's answer
pub record IsKeepsText (count : ℕ) (old : State) (text : List ℕ) (new : State) : Type 0 where
  pub answer : Result StepReply NotEnabled
  pub steps : KeepsAll count old answer new
  pub text_is : text ≡ step_text answer

-- a line that says this has this answer, and leaves this state
abbrev pub IsAnswered : StepSaid → State → List ℕ → State → Type 0
IsAnswered (event told) old text new = IsStepText told old text new
IsAnswered (keeps count) old text new = IsKeepsText count old text new
IsAnswered (refused refusal) old text new = (text ≡ refusal_text refusal) × (new ≡ old)
IsAnswered bad old text new = (text ≡ codes "BAD LINE") × (new ≡ old)

-- the lines are done in order, and these are the texts of their answers
abbrev pub AreAnswered : State → List (List ℕ) → List (List ℕ) → State → Type 0
AreAnswered old [] [] new = new ≡ old
AreAnswered old [] (text ∷ texts) new = ⊥
AreAnswered old (line ∷ lines) [] new = ⊥
AreAnswered old (line ∷ lines) (text ∷ texts) new =
    (mid : State) × IsAnswered (step_said line) old text mid × AreAnswered mid lines texts new

-- lines are written with an LF at the end of each
unfoldable pub written_lines : List (List ℕ) → List ℕ
written_lines lines = flat_map (λ line. line ++ 10 ∷ []) lines

-- the text of a world has its number of positions, and then an answer line for each line in turn
pub record IsWorldText (start : State) (positions : ℕ) (lines : List (List ℕ)) (text : List ℕ) :
    Type 0 where
  pub last : State
  pub answers : List (List ℕ)
  pub answered : AreAnswered start lines answers last
  pub text_is : text ≡ written_lines ((codes "OPENED " ++ decimal positions) ∷ answers)

-- a world was opened with this, and the text is its own
pub record AreSteps (opening : OpenLine) (lines : List (List ℕ)) (text : List ℕ) (status : ℕ) :
    Type 0 where
  pub start : State
  pub opened : IsOpened (base_opened opening) start
  pub text_is : IsWorldText start (tiles (base_opened opening)) lines text
  pub status_is : status ≡ 0

-- the text is only the line of this refusal, with status 1
pub record IsOneRefusal (refusal : Refusal) (text : List ℕ) (status : ℕ) : Type 0 where
  pub text_is : text ≡ refusal_text refusal ++ 10 ∷ []
  pub status_is : status ≡ 1

-- an answer to what the first line opens, or why it doesn't, and to these lines after it
abbrev pub IsAnswerOf : Result OpenLine Refusal → List (List ℕ) → List ℕ → ℕ → Type 0
IsAnswerOf (Ok opening) lines text status = AreSteps opening lines text status
IsAnswerOf (Err refusal) lines text status = IsOneRefusal refusal text status

-- an answer to a text, with these lines after the first; or out of memory to open its world
abbrev pub IsStepsAnswer : List ℕ → List (List ℕ) → List ℕ → ℕ → Type 0
IsStepsAnswer bytes heard text status =
    IsAnswerOf (opened_by (lines_of bytes)) heard text status
    ⊎ (IsOk (opened_by (lines_of bytes)) × IsOneRefusal refusals.Memory text status)

-- an answer to these bytes was wholly written
pub record IsAnsweredWhole (bytes : List ℕ) (held_before held_after : Option (List ℕ))
    (status : ℕ) : Type 0 where
  pub text : List ℕ
  pub answer : IsStepsAnswer bytes (later_lines (lines_of bytes)) text status
  pub written : Appends held_before text held_after

-- a prefix of an answer to these bytes was written; its lines are a prefix of those after the first
pub record IsBegun (bytes : List ℕ) (held_before held_after : Option (List ℕ)) : Type 0 where
  pub heard : List (List ℕ)
  pub unheard : List (List ℕ)
  pub text : List ℕ
  pub status : ℕ
  pub lines_are : later_lines (lines_of bytes) ≡ heard ++ unheard
  pub answer : IsStepsAnswer bytes heard text status
  pub written : AppendsFront held_before text held_after

-- the line for out of memory
abbrev pub memory_line : List ℕ
memory_line = refusal_text refusals.Memory ++ 10 ∷ []

-- an answer to all the reader's bytes was wholly written, or that memory ran out reading them
pub record AnswersText (unread held_before held_after : Option (List ℕ)) (status : ℕ) : Type 0 where
  pub bytes : List ℕ
  pub all : AreAll unread bytes
  pub whole : IsAnsweredWhole bytes held_before held_after status
      ⊎ (Appends held_before memory_line held_after × (status ≡ 1))

-- a prefix was written: of an answer to all of the reader's bytes, or of the line for out of memory
pub record BeginsToAnswerText (unread held_before held_after : Option (List ℕ)) : Type 0 where
  pub bytes : List ℕ
  pub all : AreAll unread bytes
  pub begun : IsBegun bytes held_before held_after ⊎ AppendsFront held_before memory_line held_after
