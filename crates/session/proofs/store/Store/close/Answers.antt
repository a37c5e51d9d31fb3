-- The last part of the desk's log is returned.
use Rattle.std.proofs.Common.{rules}
use Rattle.session.proofs.ClosingLemmas.{handed_out}
use Rattle.session.proofs.store.Store.close.Goals as goal

pub returns : goal.returns
returns g c =
    handed_out g.Id.StoreName.store _ _ c.into_inner.result.log _
    c.args.sessions.items _ c.close-closing.ensures.closing c.give_up.ensures.counts
    c.give_up.ensures.sessions
    c.end.ensures.legal c.end.ensures.made c.close-closing.ensures.base
    (search rules)
