-- The bands so far have a bit where all of their tiles have a mark.
use Rattle.libclearmap.proofs.Names.{◌≡◌, ℕ, ◌<◌, get_or, bit_at}
use Rattle.libclearmap.proofs.marks.blank_bands.Given as goal

abbrev pub invariant-bands : goal.invariant-bands
invariant-bands l = record {
  some : (band tile : ℕ) → band < l.band → tile < 64 → bit_at (get_or l.marks band 0) tile ≡ 0
      → bit_at l.bands band ≡ 0;
  none : (band : ℕ) → band < 64 → ((tile : ℕ) → tile < 64
      → bit_at (get_or l.marks band 0) tile ≡ 1) → bit_at l.bands band ≡ 1;
}
