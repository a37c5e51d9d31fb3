-- One more place at each end has the least of the words up to it.
use Rattle.std.proofs.Common.{◌≡◌, ◌≢◌, ℕ, ◌+◌, ◌-◌, ◌<◌, length, slice_index, inl, inr, ◌∙◌, arith}
use Rattle.std.proofs.Common.{get_or-set_other, get_or-set_same}
use Rattle.std.proofs.lemmas.Bool.{cases_lt}
use Rattle.envelope.specs.Scans.{IsLeast}
use Rattle.envelope.proofs.Filling.{set_more}
use Rattle.envelope.proofs.ScanLemmas.{least_before, least_more}
use Rattle.envelope.proofs.scan.scan.Goals as goal

pub places-preserved : goal.places-preserved
places-preserved c =
    let place = c.places.place in
    let end = c.args.count - 1 - place in
    let lefts = λ (p : ℕ). slice_index c.args.left.now p in
    let rights = λ (p : ℕ). slice_index c.args.right.now p in
    let below = c.places-test.true in
    let left_room : place < length c.places.left =
    omega (arith, below, c.places.auto.left, c.requires.left) in
    let right_room : end < length c.places.right =
    omega (arith, below, c.places.auto.right, c.requires.right) in
    let before : c.args.count - place ≡ end + 1 = omega (arith, below) in
    let after : c.args.count - (place + 1) ≡ end = omega (arith, below) in
    let low : IsLeast lefts 0 (place + 1) c.min-low.result =
    rw (c.min-low.ensures) (least_more lefts 0 place c.places.low
    (slice_index c.places.left place) c.places.invariant.low (omega arith)
    (c.places.invariant.left_rest place (omega arith))) in
    let high : IsLeast rights end c.args.count c.min-high.result =
    rw (c.min-high.ensures) (least_before rights end c.args.count c.places.high
    (slice_index c.places.right end) (rw before at c.places.invariant.high) (omega (arith, below))
    (c.places.invariant.right_rest end (omega (arith, below)))) in
    record {
      low = low;
      high = rw after high;
      left = λ x up_to. set_more (λ x word. IsLeast lefts 0 (x + 1) word) 0 place c.places.left
          c.min-low.result 0 left_room (λ x first. c.places.invariant.left x) low x
          (omega arith) up_to;
      right = λ x from inside. elim (cases_lt end x) [
        | inl further ↦
            let other : x ≢ end = λ same. absurd (omega (arith, further, same)) in
            rw (get_or-set_other c.places.right end x c.min-high.result 0 other)
            (c.places.invariant.right x (omega (arith, further)) inside)
        | inr here ↦
            let same : end ≡ x = omega (arith, here, from) in
            rw (← same, get_or-set_same c.places.right end c.min-high.result 0 right_room) high
      ];
      left_rest = λ x from.
          let other : x ≢ place = λ same. absurd (omega (arith, from, same)) in
          get_or-set_other c.places.left place x c.min-low.result 0 other
          ∙ c.places.invariant.left_rest x (omega (arith, from));
      right_rest = λ x up_to.
          let other : x ≢ end = λ same. absurd (omega (arith, up_to, same)) in
          get_or-set_other c.places.right end x c.min-high.result 0 other
          ∙ c.places.invariant.right_rest x (omega (arith, up_to));
    }
