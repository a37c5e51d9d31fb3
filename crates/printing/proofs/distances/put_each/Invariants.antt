-- The text of the distances so far is put, and takes no more than 25 bytes for each.
use Rattle.std.proofs.Common.{◌+◌, ◌*◌, ◌≤◌, ◌∷◌, take}
use Rattle.std.specs.List.{flat_map}
use Rattle.printing.specs.Measured.{distance_text}
use Rattle.printing.specs.Putting.{Puts}
use Rattle.printing.proofs.distances.put_each.Given as goal

-- the distances so far are put, each after a blank
abbrev pub invariant-distances : goal.invariant-distances
invariant-distances l = record {
  text : Puts l.fn.text l.at
      (flat_map (λ distance. 32 ∷ distance_text distance) (take l.distance-index l.distances))
      l.text
      l.end;
  end : l.end ≤ l.at + 25 * l.distance-index;
}
