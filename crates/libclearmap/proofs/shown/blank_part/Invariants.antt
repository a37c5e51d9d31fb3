-- The rows so far are blank there.
use Rattle.libclearmap.proofs.Names.{◌≡◌, ℕ, ◌+◌, ◌*◌, ◌/◌, ◌<◌, ◌≤◌, ◌⊎◌, length, get_or}
use Rattle.libclearmap.proofs.shown.blank_part.Given as goal

abbrev pub invariant-rows : goal.invariant-rows
invariant-rows l = record {
  long : length l.words ≡ length l.fn.words;
  none : (y k : ℕ) → l.top ≤ y → y < l.y → l.first ≤ k → k < l.end
      → get_or l.words (y * l.map.stride + k) 0 ≡ 0;
  others : (k : ℕ) → ((y : ℕ) → y < l.map.height → y / 64 ≡ l.band
      → (k < y * l.map.stride + l.first) ⊎ (y * l.map.stride + l.end ≤ k))
      → get_or l.words k 0 ≡ get_or l.fn.words k 0;
}
