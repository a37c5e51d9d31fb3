-- The cells so far have no obstacle, and all others are as before.
use Rattle.std.proofs.Common.{◌≡◌, ℕ, ◌<◌, ◌≤◌, ◌⊎◌, slice_index_or}
use Rattle.envelope.proofs.fill.fill_none.Given as goal

-- the cells so far have none, and all others are as before
abbrev pub invariant-loop-x : goal.invariant-loop-x
invariant-loop-x g l = record {
  none : (x : ℕ) → l.from ≤ x → x < l.x
      → slice_index_or l.answers x g.A.CellValue.unset ≡ g.A.CellValue.unset;
  others : (x : ℕ) → (x < l.from) ⊎ (l.end ≤ x)
      → slice_index_or l.answers x g.A.CellValue.unset
      ≡ slice_index_or l.fn.answers x g.A.CellValue.unset;
}
