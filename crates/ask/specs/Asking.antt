-- The lines of `ask`, and the bytes that they count: this project's own rule.
use Rattle.std.specs.Prelude.{ℕ, List, nat_le, Option, Some, Result, Ok, if◌then◌else◌}
use Rattle.metric.specs.declared.refusal.Refusal.{Refusal}
use Rattle.lines.specs.Said.{LineView, said, stamp, verb_in}
use Rattle.lines.specs.declared.verb.Verb.{Verb}
use Rattle.lines.specs.declared.verb.Verb.TheVariants as verbs
use Rattle.streams.specs.Counted.{IsCounted}

-- how many bytes a server reads after a line: those of a valid stamp, if they aren't too many
abbrev pub bytes_behind : Option Verb → Result LineView Refusal → ℕ
bytes_behind (Some verbs.Stamp) (Ok (stamp x y n)) = if nat_le n 17100000 then n else 0
bytes_behind other line = 0

-- how many bytes a server reads after a line
abbrev pub counted_by : List ℕ → ℕ
counted_by line = bytes_behind (verb_in line) (said line)

-- a request is a line with its LF, and the bytes that a server reads after it
abbrev pub IsRequest : List ℕ → Type 0
IsRequest = IsCounted counted_by
