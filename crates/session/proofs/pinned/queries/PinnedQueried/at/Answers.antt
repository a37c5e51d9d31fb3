-- The border that is asked with is the store's.
use Rattle.std.proofs.Common.{IfOk, refl, rules}
use Rattle.metric.specs.Nearest.{IsNear}
use Rattle.bits.specs.Edges.{IsBlocked}
use Rattle.session.proofs.PinLemmas.{asked_so}
use Rattle.session.proofs.pinned.queries.PinnedQueried.at.Goals as goal

pub returns-then-asks_bitmap-clause-near : goal.returns-then-asks_bitmap-clause-near
returns-then-asks_bitmap-clause-near g c =
    asked_so (λ cells edge. IfOk c.at.result
    (IsNear g.M.Metric.distance (IsBlocked cells edge) c.args.cell.x c.args.cell.y)) _ _ _ _
    c.bitmap.ensures.bitmap c.edge-edge.ensures (search rules)

pub returns-else-asks_bitmap-clause-near : goal.returns-else-asks_bitmap-clause-near
returns-else-asks_bitmap-clause-near g c =
    asked_so (λ cells edge. IfOk c.at-else-asks_bitmap.result
    (IsNear g.M.Metric.distance (IsBlocked cells edge) c.args.cell.x c.args.cell.y)) _ _ _ _ refl
    c.edge-edge.ensures (search rules)
