-- Digits read are bits after those before.
use Rattle.std.proofs.Common.{◌≡◌, ℕ, ◌+◌, ◌*◌, ◌^◌, ◌%◌, ◌≤◌, ◌-◌, refl, ap, ◌∙◌, arith}
use Rattle.std.specs.Int.{bit_at}
use Rattle.pbm.proofs.Digits.{fits-behind}
use Rattle.pbm.proofs.Following.{failed-so}
use Rattle.std.proofs.lemmas.Nat.Bits.{bit_at_cat_low, bit_at_cat_high}
use Rattle.pbm.proofs.PartReads.{IsPartRead-none, IsPartRead-add, IsPartRead-fault_one}
use Rattle.pbm.proofs.PartReads.{IsPartRead-all}
use Rattle.pbm.proofs.plain_word.read_word.Goals as goal

pub turns-init : goal.turns-init
turns-init c =
    record {
      within = omega arith;
      below = omega arith;
      read = IsPartRead-none c.args.count c.args.bytes.now (bit_at 0);
    }

pub returns-in_err-more : goal.returns-in_err-more
returns-in_err-more c =
    failed-so _ _ _ c.from_residual.ensures.1
    (IsPartRead-fault_one c.args.count c.args.bytes.now c.turns.place
    (bit_at c.turns.word) c.turns.rest.now c.in_err-more.field-0.0 c.turns-test.true
    c.in_err-more.ensures c.turns.invariant.read)

pub overflow_add-word : goal.overflow_add-word
overflow_add-word c =
    let few = c.in_ok-more.ensures.few in
    let fits = fits-behind c.turns.word c.turns.place c.in_ok-more.digits c.in_ok-more.more
    (omega arith) c.turns.invariant.below c.in_ok-more.ensures.below in
    omega (arith, fits.0, fits.1)

pub turns-preserved : goal.turns-preserved
turns-preserved c =
    let few = c.in_ok-more.ensures.few in
    let more = c.turns-test.true in
    let within : c.turns.place + c.in_ok-more.more ≤ c.args.count = omega arith in
    let fits = fits-behind c.turns.word c.turns.place c.in_ok-more.digits c.in_ok-more.more
    (omega arith) c.turns.invariant.below c.in_ok-more.ensures.below in
    let word : ℕ = c.in_ok-more.digits * 2 ^ c.turns.place + c.turns.word in
    let sum : c.turns.word + c.in_ok-more.digits * 2 ^ c.turns.place % 18446744073709551616
    ≡ c.in_ok-more.digits * 2 ^ c.turns.place + c.turns.word = omega (arith, fits.0, fits.1) in
    record {
      within = within;
      below = rw sum fits.0;
      read = rw sum (
          IsPartRead-add c.args.count c.args.bytes.now c.turns.place c.in_ok-more.more
          (bit_at c.turns.word) (bit_at word) c.turns.rest.now
          c.in_ok-more.digits c.in_ok-more.others.now within c.in_ok-more.ensures.read
          (λ i before. bit_at_cat_low c.in_ok-more.digits c.turns.place c.turns.word i before)
          (λ i before.
          let behind : c.turns.place + i - c.turns.place ≡ i = omega arith in
          bit_at_cat_high c.in_ok-more.digits c.turns.place c.turns.word
          (c.turns.place + i) c.turns.invariant.below (omega arith)
          ∙ ap (bit_at c.in_ok-more.digits) behind)
          c.turns.invariant.read);
    }

pub returns : goal.returns
returns c =
    let within = c.turns.invariant.within in
    let ended = c.turns-test.false in
    IsPartRead-all c.args.count c.args.bytes.now c.turns.place
    (bit_at c.turns.word) c.turns.word c.turns.rest.now (omega arith)
    (λ i before. refl) c.turns.invariant.read
