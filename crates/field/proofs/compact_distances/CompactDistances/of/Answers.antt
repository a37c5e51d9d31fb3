-- The strips have the distances of all rows.
use Rattle.std.proofs.Common.{map}
use Rattle.field.specs.Compact.{KeepsDistances, numbers_in}
use Rattle.field.specs.Distances.{AreAllMeasured}
use Rattle.field.specs.Strips.{HoldRows}
use Rattle.field.proofs.DistanceLemmas.{HaveNumbers-strips, number_at-strips}
use Rattle.field.proofs.StripLemmas.{HoldRows-lists}
use Rattle.field.proofs.compact_distances.CompactDistances.of.Given as given
use Rattle.field.proofs.compact_distances.CompactDistances.of.Goals as goal

-- what the strips have are the distances of their rows
held : (g : given.Over) (c : goal.In_ok-strips g)
    → HoldRows AreAllMeasured g.M.Metric.distance c.args.batch.now c.in_ok-strips.strips.height
    (map (numbers_in c.args.batch.now.bitmap.now.width) c.in_ok-strips.strips.all.items)
held g c = HoldRows-lists (numbers_in c.args.batch.now.bitmap.now.width) KeepsDistances
    AreAllMeasured g.M.Metric.distance c.args.batch.now c.in_ok-strips.strips.height
    c.in_ok-strips.strips.all.items (λ from to kept keeps. keeps.measured)
    c.in_ok-strips.ensures.rows

pub invariant_of-result : goal.invariant_of-result
invariant_of-result g c =
    let strips = c.in_ok-strips.ensures in
    rw (strips.width, strips.from, strips.to) (
      HaveNumbers-strips g.M.Metric.distance c.args.batch.now _ _ (held g c),
      record { each = λ strip other below. (strips.rows.each strip other below).lines },
    )

pub returns-clause-rows : goal.returns-clause-rows
returns-clause-rows g c =
    let strips = c.in_ok-strips.ensures in
    rw (strips.width, strips.from)
    (number_at-strips g.M.Metric.distance c.args.batch.now _ _ (held g c))
