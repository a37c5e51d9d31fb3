-- The tile that is looked for is the same one of those that are left.
use Rattle.events.proofs.accounts.TileCounts.{IsLeft}
use Rattle.events.proofs.tiles.nth_own.Given as goal

abbrev pub invariant-loop-position : goal.invariant-loop-position
invariant-loop-position l = IsLeft l.own l.number l.position l.left
