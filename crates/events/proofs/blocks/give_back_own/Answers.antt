-- Each block is freed at its position.
use Rattle.std.proofs.Common.{arith, refl, sym, ◌∙◌}
use Rattle.events.proofs.accounts.GiveBack.{given_first, given_some, given_none, given_room}
use Rattle.events.proofs.accounts.GiveBack.{given_own}
use Rattle.events.proofs.blocks.give_back_own.Goals.{in-Some, in_default}
use Rattle.events.proofs.blocks.give_back_own.Goals as goal

pub loop-block-init : goal.loop-block-init
loop-block-init c = (given_first _ _ _ c.requires, refl)

pub push_front_reserved-requires : goal.push_front_reserved-requires
push_front_reserved-requires c =
    omega (
      arith,
      c.loop-block.free.ok,
      given_room _ _ _ _ _ _ _ _ c.loop-block.invariant.0 (omega arith)
          (sym c.take.ensures.value ∙ c.in-Some.is),
      c.loop-block.invariant.1,
    )

pub loop-block-preserved : goal.loop-block-preserved
loop-block-preserved c =
    elim c.match-take.branch [
      | in-Some w ↦ rw (
        w.free-is,
        c.take.ensures.after,
        w.push_front_reserved.ensures.items,
        w.push_front_reserved.ensures.capacity,
      ) (
        given_some _ _ _ _ _ _ _ _ c.loop-block.invariant.0 (omega arith)
            (sym c.take.ensures.value ∙ w.in-Some.is),
        c.loop-block.invariant.1,
      )
      | in_default w ↦ rw (w.free-is, c.take.ensures.after) (
        given_none _ _ _ _ _ _ _ c.loop-block.invariant.0 (omega arith)
            (sym c.take.ensures.value ∙ w.in_default.is),
        c.loop-block.invariant.1,
      )
    ]

pub returns-clause-own : goal.returns-clause-own
returns-clause-own c = given_own _ _ _ _ _ _ c.loop-block.invariant.0 (omega arith)
