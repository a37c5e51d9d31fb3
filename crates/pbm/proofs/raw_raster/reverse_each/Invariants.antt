-- The bytes before the next one are reversed.
use Rattle.std.proofs.Common.{◌≡◌, ℕ, ◌<◌, get_or, length}
use Rattle.std.specs.Int.{reverse_bits_onto}
use Rattle.pbm.proofs.raw_raster.reverse_each.Given as goal

abbrev pub invariant-bytes : goal.invariant-bytes
invariant-bytes l = record {
  len : length l.reversed ≡ length l.fn.reversed;
  each : (k : ℕ) → k < l.place
      → get_or l.reversed k 0 ≡ reverse_bits_onto 8 (get_or l.bytes k 0) 0;
}
