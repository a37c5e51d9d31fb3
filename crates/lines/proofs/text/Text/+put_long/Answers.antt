-- The decimal of a number is that of its tenth part and then its last digit, twenty digits at most
-- in all.
use Rattle.std.proofs.Common.{◌/◌, length, arith, length-append, ap, ◌∙◌}
use Rattle.std.specs.Fmt.{decimal}
use Rattle.lines.proofs.Writing.{length-decimal_64, length-decimal_tenth, decimal-more}
use Rattle.lines.proofs.text.Text.+put_long.Goals as goal

pub put-requires : goal.put-requires
put-requires t c =
    let few = length-decimal_tenth c.args.number (omega arith) in
    let long = ap length c.put_long.ensures.text
    ∙ length-append c.args.self.now (decimal (c.args.number / 10)) in omega arith

pub returns-clause-text : goal.returns-clause-text
returns-clause-text t c =
    decimal-more _ _ _ c.args.number (omega (arith, c.in_default.ensures))
    (omega arith) c.put_long.ensures.text c.put.ensures

pub returns-clause-few : goal.returns-clause-few
returns-clause-few t c =
    let few = length-decimal_64 c.args.number (omega arith) in
    let text = decimal-more _ _ _ c.args.number (omega (arith, c.in_default.ensures))
    (omega arith) c.put_long.ensures.text c.put.ensures in
    let long = ap length text ∙ length-append c.args.self.now (decimal c.args.number) in omega arith
