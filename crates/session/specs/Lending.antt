-- A pin after the bitmap that it lent is returned.
use Rattle.std.specs.Prelude.{◌≡◌, ⊤}
use Rattle.std.specs.Borrow.{Fml, RattleType, MutBor, follows_so}
use mathlib.Core.Option.{none}
use Rattle.shelf.specs.declared.name.StoreName as name
use Rattle.session.specs.Sessions.{PinView}
use Rattle.session.specs.contracts.pinned.Pinned.{the_row}

-- a pin whose lent bitmap was returned is as it was
abbrev pub KeepsPin : (Id : RattleType) → name.Ghosts Id.Denot → MutBor PinView → Fml
KeepsPin Id named p =
    follows_so (the_row Id named) (the_row Id named) p.ghost_name none (λ _ _. ⊤) (λ n. n ≡ p.now)
