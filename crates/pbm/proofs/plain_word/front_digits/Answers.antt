-- Each byte below the first that is no digit is one.
use Rattle.std.proofs.Common.{◌≤◌, ◌<◌, ◌^◌, rules, refl, arith}
use Rattle.std.specs.Int.RustNames.{bit_or}
use Rattle.std.proofs.lemmas.Nat.{or_lt}
use Rattle.pbm.proofs.Digits.{AreDigits-block, below_trailing}
use Rattle.pbm.proofs.plain_word.front_digits.Goals as goal

pub returns-clause-digits : goal.returns-clause-digits
returns-clause-digits c =
    let few : c.trailing_ones.result ≤ 64 = search rules in
    let same = c.trailing_ones.ensures in
    let fits : bit_or c.equal_to-ones.result c.equal_to.result < 2 ^ 64 =
    or_lt 64 c.equal_to-ones.result c.equal_to.result c.equal_to-ones.type_inv c.equal_to.type_inv
    in
    AreDigits-block c.trailing_ones.result c.args.bytes.now _ c.equal_to-ones.result
    c.equal_to.result (omega arith) refl (search rules) (search rules) few
    (λ k before. below_trailing (bit_or c.equal_to-ones.result c.equal_to.result) k fits
    (omega (arith, same, before)) (omega (arith, same, few)))
