-- The cells so far are written.
use Rattle.libclearmap.proofs.Names.{◌≡◌, ◌<◌, ◌≤◌, ◌+◌, ◌⊎◌, ℕ, get_or, length, if◌then◌else◌}
use Rattle.libclearmap.proofs.Names.{is_bit}
use Rattle.libclearmap.proofs.unpack.unpack_word.Given as goal

abbrev pub invariant-bits : goal.invariant-bits
invariant-bits l = record {
  long : length l.bytes ≡ length l.fn.bytes;
  cells : (k : ℕ) → k < l.i
      → get_or l.bytes (l.start + k) 0
      ≡ (if is_bit l.word k then l.shades.obstacle else l.shades.free);
  others : (k : ℕ) → (k < l.start) ⊎ (l.start + l.count ≤ k)
      → get_or l.bytes k 0 ≡ get_or l.fn.bytes k 0;
}
