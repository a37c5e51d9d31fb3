-- What a line of the protocol says: this project's own rule. Words are separated by exactly one
-- blank, and the first one is the command, in capital letters. A line without a known command is
-- refused as such, whatever else it contains; then arguments of the wrong number or form; then a
-- path of no points or over 1000.
use Rattle.std.specs.Prelude.{ℕ, List, [], ◌∷◌, Option, Some, None, Result, Ok, Err, bytes_eq}
use Rattle.std.specs.Prelude.{codes, option_map, if◌then◌else◌}
use Rattle.metric.specs.declared.refusal.Refusal.{Refusal}
use Rattle.metric.specs.declared.refusal.Refusal.TheVariants.{UnknownCommand}
use Rattle.lines.specs.declared.line.Line.{Line}
use Rattle.lines.specs.declared.line.Line.TheVariants as lines
use Rattle.lines.specs.declared.verb.Verb.{Verb}
use Rattle.lines.specs.declared.verb.Verb.TheVariants as verbs
use Rattle.lines.specs.Asked as queries
use Rattle.lines.specs.Asked.{QueryView, arguments_asked, asked_by, or_bad, query_named}
use Rattle.words.specs.Numbers.{coordinate, number_triple, numbers}
use Rattle.lines.specs.Told.{CommandView, alone, order_named, order_told, told_by}
use Rattle.words.specs.Words.{words}

-- a line says a command to the keeper, a stamp, a pin or its end, a query, a dump, or the end
pub data LineView : Type 0 where
  told : CommandView → LineView
  stamp : (x y n : ℕ) → LineView
  pin : LineView
  unpin : LineView
  asked : QueryView → LineView
  dump : LineView
  quit : LineView

-- what a line of the program says
abbrev pub said_by : Line → LineView
said_by (lines.Command command) = told (told_by command)
said_by (lines.Stamp x y n) = stamp x y n
said_by lines.Pin = pin
said_by lines.Unpin = unpin
said_by (lines.Query query) = asked (asked_by query)
said_by lines.Dump = dump
said_by lines.Quit = quit

-- a line has a query with points, which need memory
abbrev pub SaysPoints : LineView → Type 0
SaysPoints (asked query) = queries.HasPoints query
SaysPoints other = ⊥

-- each command that is neither an order nor a query has a name
abbrev pub bare_named : List ℕ → Option Verb
bare_named word =
    if bytes_eq word (codes "STAMP") then Some verbs.Stamp
    else if bytes_eq word (codes "PIN") then Some verbs.Pin
    else if bytes_eq word (codes "UNPIN") then Some verbs.Unpin
    else if bytes_eq word (codes "DUMP") then Some verbs.Dump
    else if bytes_eq word (codes "QUIT") then Some verbs.Quit
    else None

-- each command has a name in capital letters: orders, queries and the others
abbrev pub verb_named : List ℕ → Option Verb
verb_named word =
    elim (order_named word) as (λ _. Option Verb) [
      | Some order ↦ Some (verbs.Order order)
      | None ↦ elim (query_named word) as (λ _. Option Verb)
          [ Some kind ↦ Some (verbs.Ask kind) | None ↦ bare_named word ]
    ]

-- the first of some words is the name of the command
abbrev pub first_verb : List (List ℕ) → Option Verb
first_verb [] = None
first_verb (word ∷ others) = verb_named word

-- the command that a line names, whatever follows it
unfoldable pub verb_in : List ℕ → Option Verb
verb_in bytes = first_verb (words bytes)

-- three numbers give a stamp's position and its number of bytes
abbrev pub stamp_of : ℕ × ℕ × ℕ → LineView
stamp_of (x, y, n) = stamp (coordinate x) (coordinate y) n

-- a query says what it asks, or why it is refused
abbrev pub said_by_query : Result QueryView Refusal → Result LineView Refusal
said_by_query (Ok query) = Ok (asked query)
said_by_query (Err refusal) = Err refusal

-- what a command with the words after its name says
abbrev pub verb_said : Verb → List (List ℕ) → Result LineView Refusal
verb_said (verbs.Order order) words =
    or_bad (option_map (λ command. told command) (order_told order words))
verb_said (verbs.Ask kind) words = said_by_query (arguments_asked kind words)
verb_said verbs.Stamp words = or_bad (option_map stamp_of (number_triple (numbers words)))
verb_said verbs.Pin words = or_bad (alone pin words)
verb_said verbs.Unpin words = or_bad (alone unpin words)
verb_said verbs.Dump words = or_bad (alone dump words)
verb_said verbs.Quit words = or_bad (alone quit words)

-- what the words of a line say
abbrev pub said_of : List (List ℕ) → Result LineView Refusal
said_of [] = Err UnknownCommand
said_of (word ∷ arguments) =
    elim (verb_named word) as (λ _. Result LineView Refusal)
    [ None ↦ Err UnknownCommand | Some verb ↦ verb_said verb arguments ]

-- what a line says, without its LF and the CR before it
unfoldable pub said : List ℕ → Result LineView Refusal
said bytes = said_of (words bytes)
