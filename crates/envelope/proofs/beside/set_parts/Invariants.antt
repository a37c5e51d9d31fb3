-- The columns so far have their parts, and all other places stand for no obstacle.
use Rattle.std.proofs.Common.{◌≡◌, ℕ, ◌+◌, ◌<◌, ◌≤◌, ◌⊎◌, length, slice_index}
use Rattle.std.specs.Int.{abs_diff}
use Rattle.envelope.proofs.beside.set_parts.Given as goal

abbrev pub invariant-columns : goal.invariant-columns
invariant-columns g l = record {
  as_many : length l.parts ≡ length l.entries + 272;
  each : (column : ℕ) → column < l.column
      → slice_index l.parts (column + 128) ≡ g.M.Metric.part_of
      (abs_diff l.y (slice_index l.entries column));
  others : (p : ℕ) → (p < 128) ⊎ (l.column + 128 ≤ p) → p < length l.entries + 272
      → slice_index l.parts p ≡ 32400;
}
