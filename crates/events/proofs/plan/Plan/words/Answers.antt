-- The words end where the last block does.
use Rattle.events.proofs.shared_words.PlaceLemmas.{words_counted}
use Rattle.events.proofs.plan.Plan.words.Goals as goal

pub returns : goal.returns
returns c = λ k is. words_counted k c.args.self is
