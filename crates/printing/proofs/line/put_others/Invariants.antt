-- The text of the entries so far is put, and takes no more than 25 bytes for each.
use Rattle.std.proofs.Common.{◌+◌, ◌*◌, ◌≤◌, ◌∷◌, take, true}
use Rattle.std.specs.List.{flat_map}
use Rattle.printing.specs.Putting.{Puts}
use Rattle.printing.specs.Table.{entry_text}
use Rattle.printing.proofs.line.put_others.Given as goal

-- the entries so far are put, each after a blank
abbrev pub invariant-entries : goal.invariant-entries
invariant-entries l = record {
  text : Puts l.fn.text l.at
      (flat_map (λ near. 32 ∷ entry_text true near) (take l.near-index l.nears)) l.text l.end;
  end : l.end ≤ l.at + 25 * l.near-index;
}
