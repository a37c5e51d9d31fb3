-- What the fault table finds is what the grammar has.
use Rattle.std.proofs.Common.{arith, rules}
use Rattle.pbm.proofs.Following.{failed-so}
use Rattle.pbm.proofs.Images.{image-shorter, image-reads, fault-none}
use Rattle.pbm.proofs.image.read_image.Goals as goal

pub returns-in_err-bitmap-clause-none : goal.returns-in_err-bitmap-clause-none
returns-in_err-bitmap-clause-none c =
    failed-so _ _ _ c.from_residual.ensures.1
    (λ told. fault-none c.args.bytes.now c.in_err-bitmap.field-0.0
    (c.in_err-bitmap.ensures.found told))

pub overflow_sub-result : goal.overflow_sub-result
overflow_sub-result c =
    omega (
      arith,
      image-shorter c.args.bytes.now (c.in_ok-bitmap.bitmap, c.in_ok-bitmap.rest.now)
          c.in_ok-bitmap.ensures.found,
    )

pub returns-clause-reads : goal.returns-clause-reads
returns-clause-reads c =
    let told = (image-reads c.args.bytes.now c.in_ok-bitmap.rest.now c.in_ok-bitmap.bitmap
    c.in_ok-bitmap.ensures.found).0 in
    search rules
