-- The free blocks are those that aren't in use, after any legal log.
use Rattle.events.proofs.invariants.TidyDraft.{free_is}
use Rattle.events.proofs.invariants.TidyLog.{IsTidy-legal}
use Rattle.events.proofs.laws.free_blocks_are_counted.Goals as goal

pub returns : goal.returns
returns c = λ k log ready legal. free_is k _ _ (IsTidy-legal k log ready legal)
