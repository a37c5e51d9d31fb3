-- The places so far, from both ends, have the least of the words up to each, and the others have
-- their own.
use Rattle.std.proofs.Common.{◌≡◌, ℕ, ◌+◌, ◌-◌, ◌<◌, ◌≤◌, slice_index}
use Rattle.envelope.specs.Scans.{IsLeast}
use Rattle.envelope.proofs.scan.scan.Given as goal

abbrev pub invariant-places : goal.invariant-places
invariant-places l = record {
  low : IsLeast (λ place. slice_index l.fn.left place) 0 l.place l.low;
  high : IsLeast (λ place. slice_index l.fn.right place) (l.count - l.place) l.count l.high;
  left : (x : ℕ) → x < l.place
      → IsLeast (λ place. slice_index l.fn.left place) 0 (x + 1) (slice_index l.left x);
  right : (x : ℕ) → l.count - l.place ≤ x → x < l.count
      → IsLeast (λ place. slice_index l.fn.right place) x l.count (slice_index l.right x);
  left_rest : (x : ℕ) → l.place ≤ x → slice_index l.left x ≡ slice_index l.fn.left x;
  right_rest : (x : ℕ) → x < l.count - l.place → slice_index l.right x ≡ slice_index l.fn.right x;
}
