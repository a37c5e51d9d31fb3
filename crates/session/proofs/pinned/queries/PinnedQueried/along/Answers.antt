-- The border that is asked with is the store's.
use Rattle.std.proofs.Common.{IfOk, refl, rules}
use Rattle.bits.specs.Edges.{IsBlocked}
use Rattle.clearance.specs.Answers.{IsLeastOf}
use Rattle.clearance.specs.Paths.{cells_of_path}
use Rattle.session.proofs.PinLemmas.{asked_so}
use Rattle.session.proofs.pinned.queries.PinnedQueried.along.Goals as goal

pub returns-then-asks_bitmap-clause-least : goal.returns-then-asks_bitmap-clause-least
returns-then-asks_bitmap-clause-least g c =
    asked_so (λ cells edge. IfOk c.along.result
    (IsLeastOf g.M.Metric.distance (IsBlocked cells edge) (cells_of_path c.args.points.now))) _ _
    _ _ c.bitmap.ensures.bitmap c.edge-edge.ensures (search rules)

pub returns-else-asks_bitmap-clause-least : goal.returns-else-asks_bitmap-clause-least
returns-else-asks_bitmap-clause-least g c =
    asked_so (λ cells edge. IfOk c.along-else-asks_bitmap.result
    (IsLeastOf g.M.Metric.distance (IsBlocked cells edge) (cells_of_path c.args.points.now))) _ _
    _ _ refl c.edge-edge.ensures (search rules)
