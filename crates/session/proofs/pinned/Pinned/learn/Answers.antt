-- The pin stays.
use Rattle.std.proofs.Common.{ap}
use mathlib.Core.Logic.{inr}
use Rattle.shelf.specs.Roles.{ReaderView}
use Rattle.session.proofs.PinLemmas.{seen_alone, bitmap_stays, pin_stays}
use Rattle.session.proofs.pinned.Pinned.learn.Goals as goal

pub invariant_of-self : goal.invariant_of-self
invariant_of-self g c =
    let it = c.self.inside in
    let is = seen_alone g.Id.StoreName.store.base it.seat c.learn.new.self
    (inr (it.version, c.self.invariant.copying.held)) c.learn.ensures.seat in
    pin_stays g.Id.StoreName.store record { seat = it.seat; version = it.version } c.learn.new.self
    it.slot it.copy.value.bitmap _ c.self.invariant c.learn.ensures.began
    (ap (λ (x : ReaderView). x.announced) is) (ap (λ (x : ReaderView). x.holds) is)

pub returns-clause-bitmap : goal.returns-clause-bitmap
returns-clause-bitmap g c =
    rw (← c.self.view_is) (bitmap_stays _ _ c.learn.new.self _ _ _ c.self.invariant
    c.learn.ensures.began)
