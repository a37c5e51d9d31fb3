-- The border that is asked with is the store's.
use Rattle.std.proofs.Common.{IfOk, refl, rules}
use Rattle.bits.specs.Edges.{IsBlocked}
use Rattle.clearance.specs.Answers.{IsLeastOf, cells_of_rect}
use Rattle.session.proofs.PinLemmas.{asked_so}
use Rattle.session.proofs.pinned.queries.PinnedQueried.least_in.Goals as goal

pub returns-then-asks_bitmap-clause-least : goal.returns-then-asks_bitmap-clause-least
returns-then-asks_bitmap-clause-least g c =
    asked_so (λ cells edge. IfOk c.least_in.result
    (IsLeastOf g.M.Metric.distance (IsBlocked cells edge)
    (cells_of_rect c.args.rect.x0 c.args.rect.y0 c.args.rect.x1 c.args.rect.y1))) _ _ _ _
    c.bitmap.ensures.bitmap c.edge-edge.ensures (search rules)

pub returns-else-asks_bitmap-clause-least : goal.returns-else-asks_bitmap-clause-least
returns-else-asks_bitmap-clause-least g c =
    asked_so (λ cells edge. IfOk c.least_in-else-asks_bitmap.result
    (IsLeastOf g.M.Metric.distance (IsBlocked cells edge)
    (cells_of_rect c.args.rect.x0 c.args.rect.y0 c.args.rect.x1 c.args.rect.y1))) _ _ _ _ refl
    c.edge-edge.ensures (search rules)
