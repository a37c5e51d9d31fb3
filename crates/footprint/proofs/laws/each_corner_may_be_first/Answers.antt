-- By the lemma on all of them.
use Rattle.footprint.proofs.Starts.{Hits-later}
use Rattle.footprint.proofs.laws.each_corner_may_be_first.Goals as goal

pub returns : goal.returns
returns c = Hits-later
