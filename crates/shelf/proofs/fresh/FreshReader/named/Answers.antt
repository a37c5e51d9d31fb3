-- A reader's seat gets its store's name, and has seen nothing there.
use Rattle.shelf.proofs.Names.{story, opened, newest, rules, ap, ◌∙◌, Newcomer, reader_on}
use Rattle.shelf.proofs.fresh.FreshReader.named.Goals as goal

pub invariant_of-result : goal.invariant_of-result
unfolding story opened newest
invariant_of-result g c =
    let named = ap (λ (n : Newcomer). n.store) c.self.view_is ∙ c.requires in
    let now = ap reader_on c.self.invariant.1 in (
      rw (← named) c.self.invariant.0,
      rw now c.self.invariant.1,
      rw now (let below = rw named at c.self.invariant.2 in search rules),
    )

pub returns-clause-ready : goal.returns-clause-ready
returns-clause-ready g c =
    let named = ap (λ (n : Newcomer). n.store) c.self.view_is ∙ c.requires in
    rw (← named) c.self.invariant.0.ready
