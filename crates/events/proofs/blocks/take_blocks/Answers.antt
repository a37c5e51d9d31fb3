-- Each position that needs a block takes one.
use Rattle.events.proofs.Names.{arith, refl, sym, ◌∙◌, get_or_default}
use Rattle.events.proofs.accounts.TakeBlocks.{taken_first, taken_none, taken_some}
use Rattle.events.proofs.accounts.TileCounts.{length-differing}
use Rattle.events.proofs.blocks.take_blocks.Goals.{then-needs_block, else-needs_block}
use Rattle.events.proofs.blocks.take_blocks.Goals as goal

pub loop-position-init : goal.loop-position-init
loop-position-init c = (
  taken_first _ _ _ (c.requires.own ∙ sym (length-differing c.args.old.now c.args.new.now)),
  refl,
)

pub loop-position-preserved : goal.loop-position-preserved
loop-position-preserved c =
    elim c.if-needs_block.branch [
      | then-needs_block w ↦ rw (w.own-is, w.free-is, c.from-place.ensures) (
        taken_some _ _ _ _ _ _ _ _ _ _ c.loop-position.invariant.0 (omega arith)
            (rw c.from-place.ensures
            (get_or_default c.loop-position.own c.loop-position.position _ _
            (omega arith)))
            (sym c.needs_block.ensures ∙ w.if-needs_block.true) w.pop_front.ensures.items
            (λ d h. w.pop_front.ensures.value d (omega (arith, c.loop-position.free.ok))),
        w.pop_front.ensures.capacity ∙ c.loop-position.invariant.1,
      )
      | else-needs_block w ↦ rw (w.own-is, w.free-is) (
        taken_none _ _ _ _ _ _ _ _ c.loop-position.invariant.0 (omega arith)
            (rw c.from-place.ensures
            (get_or_default c.loop-position.own c.loop-position.position _ _
            (omega arith)))
            (sym c.needs_block.ensures ∙ w.if-needs_block.false),
        c.loop-position.invariant.1,
      )
    ]
