-- Where no band is left, the bitmap is the version.
use Rattle.std.proofs.Common.{◌∙◌}
use Rattle.std.proofs.lemmas.Option.{IfSome_then}
use Rattle.copies.proofs.CopyingLemmas.{whole_copied}
use Rattle.session.proofs.pinned.Pinned.bitmap_read.Goals as goal

pub returns : goal.returns
returns g c =
    rw (← c.self.view_is) (IfSome_then c.whole.result c.whole.ensures.some
    (λ bitmap so. so.0
    ∙ whole_copied g.Id.StoreName.store c.self.inside.seat c.self.inside.version
    c.self.inside.slot c.deref.result.now.bitmap c.deref.result.now.unread
    (rw (c.deref.ensures) c.self.invariant.copying) so.1))
