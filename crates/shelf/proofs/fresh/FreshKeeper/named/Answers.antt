-- The keeper's seat gets its store's name, and is at rest there.
use Rattle.shelf.proofs.Names.{story, opened, newest, slot_of, rules, ap, ◌∙◌, keeper_in}
use Rattle.shelf.proofs.fresh.FreshKeeper.named.Goals as goal

pub invariant_of-result : goal.invariant_of-result
unfolding story opened newest slot_of
invariant_of-result g c =
    let named = c.self.view_is ∙ c.requires in
    let now = ap (λ m. keeper_in m.0) c.self.invariant.1 in (
      rw (← named) c.self.invariant.0,
      search rules,
      rw now (search rules),
    )
