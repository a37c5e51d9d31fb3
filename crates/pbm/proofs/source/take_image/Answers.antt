-- All before the raster and the raster are the image.
use Rattle.std.proofs.Common.{[]}
use Rattle.pbm.proofs.Following.{failed-so, IsFaultOf-weaker, Meets-after, Meets-follows}
use Rattle.pbm.proofs.Following.{Meets-weaker}
use Rattle.pbm.proofs.Headers.{header-read}
use Rattle.pbm.proofs.Taken.{image-so, image-not, image-fault, image-memory}
use Rattle.pbm.proofs.source.take_image.Goals as goal

pub returns-in_err-header-clause-fault : goal.returns-in_err-header-clause-fault
returns-in_err-header-clause-fault g c =
    failed-so _ _ _ c.from_residual.ensures.1
    (IsFaultOf-weaker c.in_err-header.field-0.0 (λ fault. Meets-weaker (image-fault fault))
    c.in_err-header.ensures.fault)

pub blank-requires-clause-width : goal.blank-requires-clause-width
blank-requires-clause-width g c =
    (header-read _ _ (c.in_ok-header.ensures.header.holds [])).width_side

pub blank-requires-clause-height : goal.blank-requires-clause-height
blank-requires-clause-height g c =
    (header-read _ _ (c.in_ok-header.ensures.header.holds [])).height_side

pub returns-in-Err-clause-fault : goal.returns-in-Err-clause-fault
returns-in-Err-clause-fault g c =
    rw c.from.ensures (Meets-follows (λ all left. image-memory _ all) c.in_ok-header.ensures.header)

pub returns-in_err-take_raster-clause-fault : goal.returns-in_err-take_raster-clause-fault
returns-in_err-take_raster-clause-fault g c =
    failed-so _ _ _ c.from_residual-in_err-take_raster.ensures.1
    (IsFaultOf-weaker c.in_err-take_raster.field-0.0
    (λ fault. Meets-after (image-not c.in_ok-header.header.form _ _ c.in-Ok.bitmap
    c.in-Ok.ensures fault) c.in_ok-header.ensures.header)
    c.in_err-take_raster.ensures.fault)

pub returns-clause-image : goal.returns-clause-image
returns-clause-image g c =
    Meets-after (image-so c.in_ok-header.header.form _ _ c.in-Ok.bitmap _
    c.in-Ok.ensures) c.in_ok-header.ensures.header c.in_ok-take_raster.ensures.raster
