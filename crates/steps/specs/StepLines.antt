-- What a line of steps says: this project's own rule. The first word is a letter, and numbers
-- follow it; after `C` a command line follows.
use Rattle.std.specs.Prelude.{ℕ, List, [], ◌∷◌, Option, Some, None, Result, Ok, Err, bytes_eq}
use Rattle.std.specs.Prelude.{codes, option_map, unwrap_or, if◌then◌else◌}
use Rattle.metric.specs.declared.refusal.Refusal.{Refusal}
use Rattle.events.specs.declared.event.Event.{Event}
use Rattle.events.specs.declared.event.Event.TheVariants as events
use Rattle.words.specs.Numbers.{numbers, number_pair, number_triple, only_number}
use Rattle.lines.specs.Said as protocol
use Rattle.lines.specs.Said.{first_verb, said_of}
use Rattle.lines.specs.Told.{CommandView, told_by}
use Rattle.words.specs.Words.{words}
use Rattle.lines.specs.declared.verb.Verb.{Verb}
use Rattle.lines.specs.declared.verb.Verb.TheVariants as verbs
use Rattle.steps.specs.declared.steps.line.Letter.{Letter}
use Rattle.steps.specs.declared.steps.line.Letter.TheVariants as letters
use Rattle.steps.specs.declared.steps.line.StepLine.{StepLine}
use Rattle.steps.specs.declared.steps.line.StepLine.TheVariants as lines

-- a line says one of these events
pub data EventView : Type 0 where
  announce : (reader : ℕ) → EventView
  load : (reader : ℕ) → EventView
  look_map : (reader position : ℕ) → EventView
  look_tile : (reader block row : ℕ) → EventView
  leave : (reader : ℕ) → EventView
  confirm : (reader : ℕ) → EventView
  order : CommandView → EventView
  keep : EventView

-- what a line says for an event of the program
abbrev pub told_event : Event → EventView
told_event (events.Announce reader) = announce reader
told_event (events.Load reader) = load reader
told_event (events.LookMap reader position) = look_map reader position
told_event (events.LookTile reader block row) = look_tile reader block row
told_event (events.Leave reader) = leave reader
told_event (events.Confirm reader) = confirm reader
told_event (events.Order command) = order (told_by command)
told_event events.Keep = keep

-- a line says an event, several steps of the keeper, a refused command, or nothing known
pub data StepSaid : Type 0 where
  event : EventView → StepSaid
  keeps : (count : ℕ) → StepSaid
  refused : Refusal → StepSaid
  bad : StepSaid

-- what a line of the program says
abbrev pub step_said_by : StepLine → StepSaid
step_said_by (lines.Event e) = event (told_event e)
step_said_by (lines.Keep count) = keeps count
step_said_by (lines.Refused refusal) = refused refusal
step_said_by lines.Bad = bad

-- each kind of step has a letter
abbrev pub letter_named : List ℕ → Option Letter
letter_named word =
    if bytes_eq word (codes "A") then Some letters.Announce
    else if bytes_eq word (codes "L") then Some letters.Load
    else if bytes_eq word (codes "M") then Some letters.LookMap
    else if bytes_eq word (codes "T") then Some letters.LookTile
    else if bytes_eq word (codes "V") then Some letters.Leave
    else if bytes_eq word (codes "E") then Some letters.Confirm
    else if bytes_eq word (codes "C") then Some letters.Order
    else if bytes_eq word (codes "K") then Some letters.Keep
    else None

-- what a line of the protocol says if it is a command to the keeper; any other says nothing known
abbrev pub order_said : Option Verb → Result protocol.LineView Refusal → StepSaid
order_said (Some (verbs.Order named)) (Ok (protocol.told command)) = event (order command)
order_said (Some (verbs.Order named)) (Err refusal) = refused refusal
order_said other line = bad

-- what a letter with the words after it says; a wrong number or form of them says nothing known
abbrev pub letter_said : Letter → List (List ℕ) → StepSaid
letter_said letters.Announce words =
    unwrap_or (option_map (λ reader. event (announce reader)) (only_number (numbers words))) bad
letter_said letters.Load words =
    unwrap_or (option_map (λ reader. event (load reader)) (only_number (numbers words))) bad
letter_said letters.LookMap words =
    unwrap_or (option_map (λ n. event (look_map n.0 n.1)) (number_pair (numbers words))) bad
letter_said letters.LookTile words =
    unwrap_or (option_map (λ n. event (look_tile n.0 n.1 n.2)) (number_triple (numbers words))) bad
letter_said letters.Leave words =
    unwrap_or (option_map (λ reader. event (leave reader)) (only_number (numbers words))) bad
letter_said letters.Confirm words =
    unwrap_or (option_map (λ reader. event (confirm reader)) (only_number (numbers words))) bad
letter_said letters.Order words = order_said (first_verb words) (said_of words)
letter_said letters.Keep words =
    unwrap_or (option_map (λ count. keeps count) (only_number (numbers words))) bad

-- what the words of a line say, by the letter and the words after it
abbrev pub step_of : List (List ℕ) → StepSaid
step_of [] = bad
step_of (word ∷ others) =
    elim (letter_named word) as (λ _. StepSaid)
    [ None ↦ bad | Some letter ↦ letter_said letter others ]

-- a line says what its words say
unfoldable pub step_said : List ℕ → StepSaid
step_said line = step_of (words line)
