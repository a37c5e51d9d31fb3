-- What the program does with its words and its streams: this project's own rule.
use Rattle.std.specs.Prelude.{◌≡◌, ℕ, List, Option, Result, Ok, Err}
use Rattle.command_line.specs.CommandLine.{IsSaidBy}
use Rattle.command_line.specs.Told.{Begins, IsFaultTold}
use Rattle.command_line.specs.declared.arguments.Fault.{Fault}
use Rattle.command_line.specs.declared.arguments.Options.{Options}
use Rattle.command_line.specs.declared.arguments.Options.TheVariants.{Dist, Steps}
use Rattle.engines.specs.dist.Dist.{AnswersImage as AnswersDist, BeginsToAnswerImage as BeginsDist}
use Rattle.steps.specs.Steps.{AnswersText as AnswersSteps, BeginsToAnswerText as BeginsSteps}

-- an answer of the engine that the options name was wholly written; none if it needs the network
abbrev pub AnswersAs : Options → Option (List ℕ) → Option (List ℕ) → Option (List ℕ) → ℕ → Type 0
AnswersAs (Dist options) unread before after status = AnswersDist options unread before after status
AnswersAs Steps unread before after status = AnswersSteps unread before after status
AnswersAs other unread before after status = (after ≡ before) × (status ≡ 1)

-- a prefix of an answer of the engine that the options name was written
abbrev pub BeginsAs : Options → Option (List ℕ) → Option (List ℕ) → Option (List ℕ) → Type 0
BeginsAs (Dist options) unread before after = BeginsDist options unread before after
BeginsAs Steps unread before after = BeginsSteps unread before after
BeginsAs other unread before after = ⊥

-- this is done if the words say so
abbrev pub IsDoneFor : Result Options Fault → Option (List ℕ) → Option (List ℕ) → Option (List ℕ)
    → Option (List ℕ) → Option (List ℕ) → ℕ → Type 0
IsDoneFor (Ok options) unread before after errors_before errors_after status =
    AnswersAs options unread before after status × (errors_after ≡ errors_before)
IsDoneFor (Err fault) unread before after errors_before errors_after status =
    IsFaultTold fault before after errors_before errors_after status

-- what a run of the program on these words has written if no call of a stream failed
pub record IsRunOf (words : List (List ℕ))
    (unread before after errors_before errors_after : Option (List ℕ)) (status : ℕ) : Type 0 where
  pub said : Result Options Fault
  pub said_by : IsSaidBy words said
  pub done : IsDoneFor said unread before after errors_before errors_after status

-- a prefix of what the words ask for was written
abbrev pub BeginsFor : Result Options Fault → Option (List ℕ) → Option (List ℕ) → Option (List ℕ)
    → Type 0
BeginsFor (Ok options) unread before after = BeginsAs options unread before after
BeginsFor (Err fault) unread before after = Begins before after

-- what a run on these words has begun to write if a write to standard output failed
pub record BeginsRunOf (words : List (List ℕ)) (unread before after : Option (List ℕ)) :
    Type 0 where
  pub said : Result Options Fault
  pub said_by : IsSaidBy words said
  pub begun : BeginsFor said unread before after
