-- The lines of refusals without numbers, out of memory, and network faults: this project's own
-- rule.
use Rattle.std.specs.Prelude.{ℕ, List, [], ◌∷◌, ◌++◌, codes, Option, Some, None}
use Rattle.std.specs.Borrow.{Bor}
use Rattle.metric.specs.Refusal.{refusal_text}
use Rattle.metric.specs.declared.refusal.Refusal.{Refusal}
use Rattle.metric.specs.declared.refusal.Refusal.TheVariants as refusals

-- the line of the refusal has no number
abbrev pub HasWordsAlone : Refusal → Type 0
HasWordsAlone (refusals.BlocksFull needed free) = ⊥
HasWordsAlone (refusals.Crooked index) = ⊥
HasWordsAlone other = Unit {0}

-- a name after a title, if there is one
abbrev pub name_text : Option (Bor (List ℕ)) → List ℕ
name_text None = []
name_text (Some name) = 32 ∷ name.now

-- the line for a network fault
abbrev pub net_text : List ℕ
net_text = codes "FAULT net" ++ 10 ∷ []

-- the line for out of memory
abbrev pub memory_text : List ℕ
memory_text = refusal_text refusals.Memory ++ 10 ∷ []
