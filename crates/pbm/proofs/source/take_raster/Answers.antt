-- Pixels and what stands after them, seen when a byte is there or at the end, are the raster.
use Rattle.std.proofs.Common.{◌∙◌, ap, sym}
use Rattle.pbm.specs.Faults.{ended}
use Rattle.pbm.proofs.Following.{failed-so, IsFaultOf-weaker, Meets-after, Meets-read, Meets-weaker}
use Rattle.pbm.proofs.Taken.{ends-not, ends-so, plain-fault, plain-not, plain-so}
use Rattle.pbm.proofs.source.take_raster.Goals as goal

pub returns-in_err-take_pixels-in-Plain-clause-fault :
    goal.returns-in_err-take_pixels-in-Plain-clause-fault
returns-in_err-take_pixels-in-Plain-clause-fault g c =
    rw c.in-Plain.is (failed-so _ _ _ c.from_residual.ensures.1
    (IsFaultOf-weaker c.in_err-take_pixels-in-Plain.field-0.0
    (λ fault. Meets-weaker (plain-fault c.args.bitmap.now.width c.args.bitmap.now.height fault))
    c.in_err-take_pixels-in-Plain.ensures.fault))

pub returns-in_err-after_image-in-Plain-clause-fault :
    goal.returns-in_err-after_image-in-Plain-clause-fault
returns-in_err-after_image-in-Plain-clause-fault g c =
    rw c.in-Plain.is (failed-so _ _ _ c.from_residual-in_err-after_image-in-Plain.ensures.1
    (Meets-after (plain-not c.args.bitmap.now.width c.args.bitmap.now.height
    c.take_pixels.new.bitmap _) c.in_ok-take_pixels-in-Plain.ensures.pixels
    (Meets-read c.in_ok-fill-in-Plain.ensures.reads (ends-not _ _ _
    (ap (λ b. ended b) (sym c.unread.ensures) ∙ c.in_err-after_image-in-Plain.ensures)))))

pub returns-in_ok-after_image-in-Plain-clause-raster :
    goal.returns-in_ok-after_image-in-Plain-clause-raster
returns-in_ok-after_image-in-Plain-clause-raster g c =
    rw c.in-Plain.is (Meets-after (plain-so c.args.bitmap.now.width c.args.bitmap.now.height
    c.take_pixels.new.bitmap) c.in_ok-take_pixels-in-Plain.ensures.pixels
    (Meets-read c.in_ok-fill-in-Plain.ensures.reads
    (ends-so _ _ _ c.fill.new.self.ended c.fill.ensures.«open».ended
    c.in_ok-fill-in-Plain.ensures.more
    (ap (λ b. ended b) (sym c.unread.ensures) ∙ c.in_ok-after_image-in-Plain.ensures))))
