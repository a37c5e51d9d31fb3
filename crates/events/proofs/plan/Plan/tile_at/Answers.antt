-- The word of a row of a block stands after the directories and the blocks before.
use Rattle.events.proofs.shared_words.PlaceLemmas.{tile_place}
use Rattle.events.proofs.plan.Plan.tile_at.Goals as goal

pub returns : goal.returns
returns c = λ k is. tile_place k c.args.self c.args.block c.args.row is
