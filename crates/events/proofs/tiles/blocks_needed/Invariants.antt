-- The positions before this one are counted.
use Rattle.events.proofs.accounts.TileCounts.{IsCounted}
use Rattle.events.proofs.tiles.blocks_needed.Given as goal

abbrev pub invariant-loop-position : goal.invariant-loop-position
invariant-loop-position l = IsCounted l.old l.new l.own l.position l.needed
