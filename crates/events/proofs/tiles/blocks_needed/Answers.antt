-- Each position is counted where it needs a block.
use Rattle.events.proofs.Names.{Bool, cond, arith, ap, ◌∙◌, get_or_default}
use Rattle.events.proofs.accounts.TileCounts.{counted_next, counted_all, counted_few, as_count}
use Rattle.events.proofs.accounts.TileCounts.{as_count-le}
use Rattle.events.proofs.tiles.blocks_needed.Goals as goal

pub overflow_add-needed : goal.overflow_add-needed
overflow_add-needed c =
    omega (
      arith,
      counted_few _ _ _ _ _ c.loop-position.invariant,
      c.from-needed.ensures,
      as_count-le c.needs_block-is_needed.result,
    )

pub loop-position-preserved : goal.loop-position-preserved
loop-position-preserved c =
    counted_next _ _ _ _ _ _ _ c.loop-position.invariant (omega arith)
    (rw c.from.ensures (get_or_default c.args.own.now c.loop-position.position _ _
    (omega (arith, c.requires.own))))
    (c.from-needed.ensures
    ∙ (as_count _ ∙ ap (λ (b : Bool). cond b 1 0) c.needs_block-is_needed.ensures))

pub returns : goal.returns
returns c =
    record {
      needed = counted_all _ _ _ c.loop-position.position _ c.loop-position.invariant
          (omega arith);
    }
