-- The word of a position in a slot's directory stands after NOW, the readers' words and the slots
-- before.
use Rattle.events.proofs.shared_words.PlaceLemmas.{map_place}
use Rattle.events.proofs.plan.Plan.map_at.Goals as goal

pub returns : goal.returns
returns c = λ k is. map_place k c.args.self c.args.slot _ c.args.position c.from.ensures is
