-- The border that is asked with is the store's.
use Rattle.std.proofs.Common.{IfOk, refl, rules}
use Rattle.bits.specs.Edges.{IsBlocked}
use Rattle.clearance.specs.Answers.{IsClearOf}
use Rattle.clearance.specs.Paths.{cells_of_path}
use Rattle.session.proofs.PinLemmas.{asked_so}
use Rattle.session.proofs.pinned.queries.PinnedQueried.clear_of.Goals as goal

pub returns-then-asks_bitmap-clause-clear : goal.returns-then-asks_bitmap-clause-clear
returns-then-asks_bitmap-clause-clear g c =
    asked_so (λ cells edge. IfOk c.clear_of.result
    (IsClearOf g.M.Metric.distance (IsBlocked cells edge)
    (cells_of_path c.args.points.now) c.args.d)) _ _ _ _ c.bitmap.ensures.bitmap
    c.edge-edge.ensures (search rules)

pub returns-else-asks_bitmap-clause-clear : goal.returns-else-asks_bitmap-clause-clear
returns-else-asks_bitmap-clause-clear g c =
    asked_so (λ cells edge. IfOk c.clear_of-else-asks_bitmap.result
    (IsClearOf g.M.Metric.distance (IsBlocked cells edge)
    (cells_of_path c.args.points.now) c.args.d)) _ _ _ _ refl c.edge-edge.ensures (search rules)
