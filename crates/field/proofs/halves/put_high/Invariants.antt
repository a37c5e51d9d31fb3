-- The cells so far have their high halves.
use Rattle.std.proofs.Common.{◌≡◌, ℕ, ◌<◌, slice_index}
use Rattle.field.specs.Compact.{high_half}
use Rattle.field.proofs.halves.put_high.Given as goal

abbrev pub invariant-cells : goal.invariant-cells
invariant-cells l = record {
  each : (x : ℕ) → x < l.x → slice_index l.high x ≡ high_half (slice_index l.line x);
}
