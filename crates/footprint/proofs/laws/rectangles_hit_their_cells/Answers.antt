-- By the lemma on all of them.
use Rattle.footprint.proofs.Rects.{HasHit-rect}
use Rattle.footprint.proofs.laws.rectangles_hit_their_cells.Goals as goal

pub returns : goal.returns
returns c = HasHit-rect
