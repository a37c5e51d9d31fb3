-- The reply to a query line on a bitmap: this project's own rule.
use Rattle.std.specs.Prelude.{◌≡◌, ℕ, ◌⊎◌, List, Option, Some, Result, Ok, Err}
use Rattle.metric.specs.Kind.{distance_of}
use Rattle.metric.specs.declared.edge.Edge.{Edge}
use Rattle.metric.specs.declared.refusal.Refusal.{Refusal}
use Rattle.metric.specs.declared.refusal.Refusal.TheVariants.{Memory, UnknownCommand}
use Rattle.bits.specs.Cells.{Cells}
use Rattle.lines.specs.Asked.{QueryView, HasPoints, metric_asked}
use Rattle.lines.specs.Said.{LineView, asked, said, verb_in}
use Rattle.lines.specs.declared.answer.Answer.{Answer}
use Rattle.lines.specs.declared.answer.Answer.TheVariants.{Refused}
use Rattle.lines.specs.declared.verb.Verb.{Verb}
use Rattle.lines.specs.declared.verb.Verb.TheVariants as verbs
use Rattle.answering.specs.Queries.{IsAnswerBy}

-- what a line of the protocol asks; a name that isn't a query's is unknown, whatever its arguments
abbrev pub query_said : Option Verb → Result LineView Refusal → Result QueryView Refusal
query_said (Some (verbs.Ask kind)) (Ok (asked query)) = Ok query
query_said (Some (verbs.Ask kind)) (Err refusal) = Err refusal
query_said other line = Err UnknownCommand

-- a query line asks what its words say
abbrev pub asked_in : List ℕ → Result QueryView Refusal
asked_in line = query_said (verb_in line) (said line)

-- the answer to what a line asks, or to its refusal, by its metric; or out of memory for its points
abbrev pub IsReplyTo : Cells → Edge → Result QueryView Refusal → Answer → Type 0
IsReplyTo cells edge (Ok query) answer =
    IsAnswerBy (distance_of (metric_asked query)) cells edge query answer
    ⊎ (HasPoints query × (answer ≡ Refused Memory))
IsReplyTo cells edge (Err refusal) answer = answer ≡ Refused refusal

-- the status of an answer: a refusal has 1
abbrev pub status_of : Answer → ℕ
status_of (Refused refusal) = 1
status_of answer = 0
