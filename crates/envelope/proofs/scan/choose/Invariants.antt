-- The cells so far are told by their words, and the others have the least words of the columns to
-- their left.
use Rattle.std.proofs.Common.{◌≡◌, ℕ, ◌<◌, ◌≤◌, slice_index}
use Rattle.envelope.specs.Scans.{IsToldBy}
use Rattle.envelope.proofs.scan.choose.Given as goal

abbrev pub invariant-cells : goal.invariant-cells
invariant-cells g l = record {
  told : (x : ℕ) → x < l.x
      → IsToldBy g.M.Metric.distance l.entries l.fn._y x (slice_index l.left x);
  others : (x : ℕ) → l.x ≤ x → slice_index l.left x ≡ slice_index l.fn.left x;
}
