-- A digit after a value over the longest side is skipped.
use Rattle.std.proofs.Common.{◌∙◌, rules, arith}
use Rattle.pbm.proofs.Numbers.{digits-pass}
use Rattle.pbm.proofs.number.read_digits.Goals as goal

pub loop-byte-preserved : goal.loop-byte-preserved
loop-byte-preserved c =
    c.loop-byte.invariant
    ∙ digits-pass c.loop-byte.value c.in-Some.byte.now c.loop-byte.rest.now c.in-Some.others.now
    (search rules) (search rules) (omega arith)
