-- One more block stands after what was read before.
use Rattle.std.proofs.Common.{◌∙◌, arith}
use Rattle.std.proofs.lemmas.Grind.{common_steps}
use Rattle.pbm.proofs.Following.{Follows-read}
use Rattle.pbm.proofs.window.Window.fill.Goals as goal

pub turns-preserved : goal.turns-preserved
turns-preserved g c = record {
  open_still = c.read_block.ensures.«open»;
  reads = Follows-read c.turns.invariant.reads c.in_ok-read_block.ensures.reads;
  none_failed = c.in_ok-read_block.ensures.counts ∙ c.turns.invariant.none_failed;
}

pub turns-smaller : goal.turns-smaller
turns-smaller g c = grind (arith, common_steps)

pub returns-else-len-self-clause-more : goal.returns-else-len-self-clause-more
returns-else-len-self-clause-more g c = grind (arith, common_steps)
