-- The blocks are sound after any legal log.
use Rattle.events.proofs.invariants.SoundBlocks.{sound_blocks}
use Rattle.events.proofs.invariants.TidyLog.{IsTidy-legal}
use Rattle.events.proofs.laws.blocks_are_sound.Goals as goal

pub returns : goal.returns
returns c = λ k log ready legal. sound_blocks k _ _ (IsTidy-legal k log ready legal)
