-- The reaches so far are set.
use Rattle.std.proofs.Common.{◌≡◌, ℕ, ◌/◌, ◌<◌, ◌≤◌, length, slice_index}
use Rattle.envelope.proofs.reaches.set_reaches.Given as goal

abbrev pub invariant-places : goal.invariant-places
invariant-places g l = record {
  as_many : length l.reaches ≡ 776;
  few : (p : ℕ) → p < l.place → slice_index l.reaches p ≤ 9409;
  each : (p : ℕ) → p < l.place → slice_index l.reaches p ≡ g.M.Metric.reach_of (p / 8);
}
