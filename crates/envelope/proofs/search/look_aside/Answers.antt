-- One more column on both sides of each cell.
use Rattle.std.proofs.Common.{◌≡◌, ◌+◌, ◌-◌, ◌∙◌, ap, ap₂, slice_index, arith}
use Rattle.envelope.proofs.BesideLemmas.{best_wider}
use Rattle.envelope.proofs.search.look_aside.Goals as goal

pub returns : goal.returns
returns g c i within =
    let parts = c.args.parts.now in
    let at = c.args.at in
    let k = c.args.k in
    let left_at : c.args.at - c.from.result + i ≡ at + i - k =
    omega (arith, c.from.ensures, c.requires.left, c.requires.few) in
    let right_at : at + c.from-2.result + i ≡ at + i + k = omega (arith, c.from-2.ensures) in
    let reach = c.reach_at-reach.ensures.each i within
    ∙ g.met.M.Metric.reaches c.requires.laned k (omega (arith, c.requires.few)) in
    let left = c.join-left.ensures i within
    ∙ ap₂ g.M.Metric.joined (c.load.ensures i within ∙ ap (slice_index parts) left_at) reach in
    let right = c.join-right.ensures i within
    ∙ ap₂ g.M.Metric.joined (c.load-2.ensures i within ∙ ap (slice_index parts) right_at) reach in
    let sides = c.requires.sides i within in
    let left_side : slice_index c.args.sides.left i ≡ 128 - k = omega (arith, sides.0) in
    let to_left = rw left_side at (c.chosen-to_left.ensures i within) in
    let to_right = rw sides.1 at (c.chosen.ensures i within) in
    best_wider g.M.Metric.distance g.M.Metric.joined parts (at + i) k
    (slice_index c.args.eight.best i)
    (slice_index c.args.eight.away i) (slice_index c.join-left.result i)
    (slice_index c.join-right.result i)
    (slice_index c.least-better.result i) (slice_index c.chosen-to_left.result i)
    (slice_index c.least-best.result i) (slice_index c.chosen.result i)
    c.requires.some (omega (arith, c.requires.few)) (omega (arith, c.requires.left)) left right
    (c.least-better.ensures i within) to_left (c.least-best.ensures i within) to_right
    (c.requires.found i within)
