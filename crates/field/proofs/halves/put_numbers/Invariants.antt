-- The cells so far have their distances.
use Rattle.std.proofs.Common.{◌≡◌, ℕ, ◌+◌, ◌*◌, ◌<◌, slice_index}
use Rattle.field.specs.Compact.{number_of}
use Rattle.field.proofs.halves.put_numbers.Given as goal

abbrev pub invariant-cells : goal.invariant-cells
invariant-cells l = record {
  each : (x : ℕ) → x < l.x
      → slice_index l.numbers x
      ≡ number_of (65536 * slice_index l.high x + slice_index l.low x);
}
