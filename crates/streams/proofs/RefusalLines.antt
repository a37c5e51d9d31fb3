-- Two texts that are written one after the other are written in part where a write fails.
use Rattle.std.proofs.Common.{ℕ, List, [], ◌++◌, Option, ap, ◌∙◌, append_assoc}
use Rattle.std.proofs.lemmas.List.{append-nil}
use Rattle.metric.specs.Stream.{Appends, AppendsFront}
use Rattle.metric.proofs.Appending.{AppendsFront-more}

-- a prefix of the first text is a prefix of both
pub front_first : (before after : Option (List ℕ)) (first second : List ℕ)
    → AppendsFront before first after → AppendsFront before (first ++ second) after
front_first before after first second part = record {
  front = part.front;
  back = part.back ++ second;
  whole = ap (λ t. t ++ second) part.whole ∙ append_assoc part.front part.back second;
  appended = part.appended;
}

-- the first text, and a prefix of the second, are a prefix of both
pub front_second : (before between after : Option (List ℕ)) (first second : List ℕ)
    → Appends before first between → AppendsFront between second after
    → AppendsFront before (first ++ second) after
front_second before between after first second one two =
    rw (← append-nil second) (AppendsFront-more before between after first second [] one two)
