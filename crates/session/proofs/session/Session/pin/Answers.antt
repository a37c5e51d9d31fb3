-- The seat holds what it loaded last, and has announced that.
use Rattle.std.proofs.Common.{◌∙◌}
use Rattle.session.proofs.PinLemmas.{may_confirm, pin_made}
use Rattle.session.proofs.session.Session.pin.Goals as goal

pub confirm-requires : goal.confirm-requires
confirm-requires g c =
    let session = c.self.invariant in
    may_confirm g.Id.StoreName.store.base c.self.inside.seat c.take-2.new.self c.announce.new.self
    c.take-now.new.self c.take-now.result.version session.quiet session.free
    c.take-2.ensures.seat c.announce.ensures c.take-now.ensures.seat c.take-now.ensures.version

pub invariant_of-result-2 : goal.invariant_of-result-2
invariant_of-result-2 g c =
    let session = c.self.invariant in
    let (width, height) = c.in-Ok.ensures.size in
    pin_made g.Id.StoreName.store c.self.inside.seat c.take-2.new.self c.announce.new.self
    c.take-now.new.self c.confirm.new.self c.take-now.result.version c.take-now.result.slot
    c.in-Ok.copy.value.bitmap c.in-Ok.copy.value.unread session.ready session.quiet session.free
    c.take-2.ensures.seat c.announce.ensures c.take-now.ensures.seat c.take-now.ensures.version
    c.confirm.ensures c.take-now.ensures.slot c.take-now.ensures.slots c.take-now.ensures.legal
    c.in-Ok.ensures.bitmap (width ∙ session.width_is) (height ∙ session.height_is)
    c.in-Ok.ensures.unread
