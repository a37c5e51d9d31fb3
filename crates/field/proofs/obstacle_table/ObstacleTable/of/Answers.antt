-- The strips tell the nearest obstacles of all rows.
use Rattle.std.proofs.Common.{List, None, Option, arith, map, refl}
use Rattle.metric.specs.declared.spot.Spot.{Spot}
use Rattle.field.specs.Bands.{AreAnswers}
use Rattle.field.specs.Obstacles.{HaveRows, in_strips, seen_from}
use Rattle.field.specs.Strips.{HoldRows}
use Rattle.field.proofs.ObstacleLemmas.{AreNears-told}
use Rattle.field.proofs.RowLemmas.{AreAnswers-values}
use Rattle.field.proofs.StripLemmas.{AreAnswers-strips, AreRows-strips, AreStrips-held}
use Rattle.field.proofs.StripLemmas.{HoldRows-lists}
use Rattle.field.proofs.obstacle_table.ObstacleTable.of.Given as given
use Rattle.field.proofs.obstacle_table.ObstacleTable.of.Goals as goal

-- what the strips keep of the rows, as lists
abbrev lists : (g : given.Over) (c : goal.In_ok-strips g) → List (List (Option Spot))
lists g c = map (λ strip. strip.items) c.in_ok-strips.strips.all.items

-- the strips' lists tell the nearest obstacles of their rows
held : (g : given.Over) (c : goal.In_ok-strips g)
    → HoldRows (AreAnswers seen_from None) g.M.Metric.distance c.args.batch.now
    c.in_ok-strips.strips.height (lists g c)
held g c = HoldRows-lists (λ strip. strip.items) _ (AreAnswers seen_from None) g.M.Metric.distance
    c.args.batch.now c.in_ok-strips.strips.height c.in_ok-strips.strips.all.items
    (λ from to kept said. AreAnswers-values seen_from None g.M.Metric.distance
    c.args.batch.now.bitmap.now c.args.batch.now.edge from to kept.items said)
    c.in_ok-strips.ensures.rows

-- the strips have the rows of the map
rows : (g : given.Over) (c : goal.In_ok-strips g)
    → HaveRows c.args.batch.now.bitmap.now.width c.args.batch.now.y0 c.args.batch.now.y1
    c.in_ok-strips.strips.height (lists g c)
rows g c =
    let batch = c.args.batch.now in
    let bitmap = c.in_ok-strips.ensures.rows.bitmap in
    let high = bitmap.height_is.few in
    record {
      across = bitmap.width_is.few;
      order = batch.order;
      within = omega (arith, high, batch.within);
      placed = AreStrips-held (AreAnswers seen_from None) g.M.Metric.distance batch
          c.in_ok-strips.strips.height (lists g c) (λ from to kept answers. answers.as_many)
          (held g c);
    }

pub invariant_of-result : goal.invariant_of-result
invariant_of-result g c =
    let strips = c.in_ok-strips.ensures in
    rw (strips.width, strips.from, strips.to) (rows g c)

pub returns-clause-rows : goal.returns-clause-rows
returns-clause-rows g c =
    let batch = c.args.batch.now in
    let cells = batch.bitmap.now in
    let strips = c.in_ok-strips.ensures in
    let height = c.in_ok-strips.strips.height in
    rw (strips.width, strips.from, strips.to)
    (AreNears-told g.M.Metric.distance cells batch.edge
    (in_strips cells.width batch.y0 batch.y1 height (lists g c))
    (AreRows-strips cells.width batch.y0 batch.y1 height (lists g c) (rows g c)) refl
    (AreAnswers-strips g.M.Metric.distance batch height (lists g c) (held g c)))
