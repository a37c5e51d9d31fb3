-- A window that has read nothing takes the image of all that the source has.
use Rattle.std.proofs.lemmas.Result.{IfOk-weaker, IfErr-weaker}
use Rattle.pbm.proofs.Following.{IsFaultOf-weaker}
use Rattle.pbm.proofs.Taken.{HasImage-met, HasFault-met}
use Rattle.pbm.proofs.source.read_source.Goals as goal

pub take_image-found-requires-clause-open : goal.take_image-found-requires-clause-open
take_image-found-requires-clause-open g c = c.new-window.ensures.«open» _

pub returns-clause-image : goal.returns-clause-image
returns-clause-image g c =
    IfOk-weaker c.take_image-found.result _ _ (HasImage-met _ _ c.new-window.ensures.empty)
    c.take_image-found.ensures.image

pub returns-clause-fault : goal.returns-clause-fault
returns-clause-fault g c =
    IfErr-weaker c.take_image-found.result _ _
    (λ stop. IsFaultOf-weaker stop (HasFault-met _ _ c.new-window.ensures.empty))
    c.take_image-found.ensures.fault
