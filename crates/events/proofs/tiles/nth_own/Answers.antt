-- Each tile is passed until the one that is looked for.
use Rattle.std.proofs.Common.{arith}
use Rattle.events.proofs.accounts.TileCounts.{left_none, left_some}
use Rattle.events.proofs.tiles.nth_own.Goals.{in-Some+else-left-eq0, in_default}
use Rattle.events.proofs.tiles.nth_own.Goals as goal

pub loop-position-preserved : goal.loop-position-preserved
loop-position-preserved c =
    elim c.match-block.branch [
      | in-Some+else-left-eq0 w ↦ rw w.left-is
          (left_some _ _ _ _ _ w.in-Some.block c.loop-position.invariant (omega arith) w.in-Some.is
          (omega arith))
      | in_default w ↦ rw w.left-is
          (left_none _ _ _ _ _ c.loop-position.invariant (omega arith) w.in_default.is)
    ]
