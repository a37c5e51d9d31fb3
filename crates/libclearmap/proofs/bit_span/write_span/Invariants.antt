-- The words so far are written.
use Rattle.libclearmap.proofs.Names.{◌≡◌, ℕ, ◌+◌, ◌*◌, ◌<◌, ◌≤◌, ◌⊎◌, length, get_or, bit_at, cond}
use Rattle.libclearmap.proofs.bit_span.write_span.Given as goal

abbrev pub invariant-words : goal.invariant-words
invariant-words l = record {
  long : length l.words ≡ length l.fn.words;
  inside : (k i : ℕ) → k < l.index → i < 64 → l.from ≤ 64 * k + i → 64 * k + i < l.to
      → bit_at (get_or l.words (l.start + k) 0) i ≡ cond l.value 1 0;
  outside : (k i : ℕ) → i < 64 → (64 * k + i < l.from) ⊎ (l.to ≤ 64 * k + i)
      → bit_at (get_or l.words (l.start + k) 0) i ≡ bit_at (get_or l.fn.words (l.start + k) 0) i;
  ahead : (k : ℕ) → l.index ≤ k
      → get_or l.words (l.start + k) 0 ≡ get_or l.fn.words (l.start + k) 0;
  others : (k : ℕ) → (k < l.start) ⊎ (64 * l.start + l.to ≤ 64 * k)
      → get_or l.words k 0 ≡ get_or l.fn.words k 0;
}
