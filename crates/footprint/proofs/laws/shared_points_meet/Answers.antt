-- By the lemma on all of them.
use Rattle.footprint.proofs.Points.{Meets-point}
use Rattle.footprint.proofs.laws.shared_points_meet.Goals as goal

pub returns : goal.returns
returns c = Meets-point
