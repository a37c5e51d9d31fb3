-- The digits of a number are right for each count of them, from one to four.
use Rattle.std.proofs.Common.{arith}
use Rattle.printing.proofs.QuadLemmas.{IsQuad-one, IsQuad-two, IsQuad-three, IsQuad-four}
use Rattle.printing.proofs.quad.quad_of.Goals as goal

pub returns-then-number-lt10 : goal.returns-then-number-lt10
returns-then-number-lt10 c =
    IsQuad-one c.args.number _ _ _ _ (omega arith)
    (record {
      thousands_is = c.digit-thousands.ensures;
      hundreds_is = c.digit-hundreds.ensures;
      tens_is = c.digit-tens.ensures;
      ones_is = c.digit-ones.ensures;
    })

pub returns-then-number-lt100 : goal.returns-then-number-lt100
returns-then-number-lt100 c =
    IsQuad-two c.args.number _ _ _ _ (omega arith) (omega arith)
    (record {
      thousands_is = c.digit-thousands.ensures;
      hundreds_is = c.digit-hundreds.ensures;
      tens_is = c.digit-tens.ensures;
      ones_is = c.digit-ones.ensures;
    })

pub returns-then-number-lt1000 : goal.returns-then-number-lt1000
returns-then-number-lt1000 c =
    IsQuad-three c.args.number _ _ _ _ (omega arith) (omega arith)
    (record {
      thousands_is = c.digit-thousands.ensures;
      hundreds_is = c.digit-hundreds.ensures;
      tens_is = c.digit-tens.ensures;
      ones_is = c.digit-ones.ensures;
    })

pub returns : goal.returns
returns c = IsQuad-four c.args.number _ _ _ _ (omega arith) (omega arith)
    (record {
      thousands_is = c.digit-thousands.ensures;
      hundreds_is = c.digit-hundreds.ensures;
      tens_is = c.digit-tens.ensures;
      ones_is = c.digit-ones.ensures;
    })
