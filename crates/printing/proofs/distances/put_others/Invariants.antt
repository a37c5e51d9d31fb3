-- The text of the distances in front of the rest is put, and takes no more than 25 bytes for each.
use Rattle.std.proofs.Common.{◌≡◌, ◌+◌, ◌*◌, ◌≤◌, ◌∷◌, ◌++◌, ℕ, List, length}
use Rattle.std.specs.List.{flat_map}
use Rattle.printing.specs.Measured.{distance_text}
use Rattle.printing.specs.Putting.{Puts}
use Rattle.printing.proofs.distances.put_others.Given as goal

-- the distances before the rest are put, each after a blank
pub record ArePut (old new distances rest : List ℕ) (at end : ℕ) : Type 0 where
  pub front : List ℕ
  pub whole : distances ≡ front ++ rest
  pub text : Puts old at (flat_map (λ distance. 32 ∷ distance_text distance) front) new end
  pub end_is : end ≤ at + 25 * length front

-- some distances are put, and the rest isn't
abbrev pub invariant-fours : goal.invariant-fours
invariant-fours l = ArePut l.fn.text l.text l.distances l.rest l.at l.end

abbrev pub decreases-fours : goal.decreases-fours
decreases-fours l = length l.rest
