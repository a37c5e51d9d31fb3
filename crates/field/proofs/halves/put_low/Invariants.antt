-- The cells so far have their low halves, and what their distances are kept as isn't over the
-- number.
use Rattle.std.proofs.Common.{◌≡◌, ℕ, ◌<◌, ◌≤◌, slice_index}
use Rattle.field.specs.Compact.{kept_as, low_half}
use Rattle.field.proofs.halves.put_low.Given as goal

abbrev pub invariant-cells : goal.invariant-cells
invariant-cells l = record {
  each : (x : ℕ) → x < l.x → slice_index l.low x ≡ low_half (slice_index l.line x);
  most : (x : ℕ) → x < l.x → kept_as (slice_index l.line x) ≤ l.all;
}
