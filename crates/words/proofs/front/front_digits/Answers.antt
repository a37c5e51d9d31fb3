-- One more digit stands before those that are left.
use Rattle.std.proofs.Common.{◌≡◌, ◌-◌, true, get_or, refl, sym, arith}
use Rattle.metric.specs.Digits.{is_digit, value_from}
use Rattle.words.proofs.Fronts.{digit-below, front-digits, front-value, front-small, front-fits}
use Rattle.words.proofs.front.front_digits.Goals as goal

pub digits-init : goal.digits-init
unfolding value_from
digits-init c = record {
  few = omega arith;
  within = omega arith;
  digits = refl;
  value = refl;
  small = omega arith;
}

pub overflow_mul-value : goal.overflow_mul-value
overflow_mul-value c =
    let fits = front-fits c.digits.value c.digits.count 0 c.digits.invariant.small
    c.digits-test.true (omega arith) in
    omega (arith, fits)

pub overflow_add-value : goal.overflow_add-value
overflow_add-value c =
    let is : is_digit (get_or c.args.bytes.now c.digits.count 0) ≡ true =
    sym c.if-not-is_ascii_digit.ensures.value in
    let fits = front-fits c.digits.value c.digits.count
    (get_or c.args.bytes.now c.digits.count 0 - 48) c.digits.invariant.small c.digits-test.true
    (digit-below (get_or c.args.bytes.now c.digits.count 0) is) in
    let same = c.from.ensures in
    omega (arith, fits, same)

pub digits-preserved : goal.digits-preserved
digits-preserved c =
    let is : is_digit (get_or c.args.bytes.now c.digits.count 0) ≡ true =
    sym c.if-not-is_ascii_digit.ensures.value in
    record {
      few = omega arith;
      within = omega arith;
      digits = front-digits c.args.bytes.now c.digits.count c.if-count-bytes.true is
          c.digits.invariant.digits;
      value = rw c.from.ensures (front-value c.args.bytes.now c.digits.count c.digits.value
          c.if-count-bytes.true c.digits.invariant.value);
      small = rw c.from.ensures (front-small c.digits.value c.digits.count
          (get_or c.args.bytes.now c.digits.count 0 - 48) c.digits.invariant.small
          (digit-below (get_or c.args.bytes.now c.digits.count 0) is));
    }
