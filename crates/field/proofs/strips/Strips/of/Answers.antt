-- Each strip is what its call gave, and the strips have all rows.
use Rattle.std.proofs.Common.{◌≡◌, ℕ, ◌+◌, ◌*◌, ◌/◌, ◌%◌, ◌≤◌, ◌∙◌, Ok, ap, arith, length}
use Rattle.std.proofs.Common.{max, min}
use Rattle.std.proofs.lemmas.Grind.{common_steps}
use Rattle.std.proofs.lemmas.List.{length-map}
use Rattle.field.specs.Strips.{IsStripOf}
use Rattle.field.proofs.StripLemmas.{each_found}
use Rattle.field.proofs.strips.Strips.of.Goals as goal

-- strips of this height have all rows
all_fit : (rows count part height strips : ℕ) → 1 ≤ count
    → part ≡ rows / count + min 1 (rows % count) → height ≡ max part 1 → strips ≡ count
    → rows ≤ strips * height
all_fit rows count part height strips some part_is height_is many = grind (arith, common_steps)

pub returns-clause-rows : goal.returns-clause-rows
returns-clause-rows g c =
    let found = c.in_ok-found.found in
    let all = c.in_ok-all.all.items in
    let same : length found.items ≡ length all =
    ap length c.in_ok-all.ensures ∙ length-map all Ok in
    let many : length all ≡ c.args.workers.count =
    omega (arith, same, c.in_ok-found.ensures.len, c.from-2.ensures, found.ok) in
    record {
      bitmap = c.width.ensures.bitmap;
      some = omega (arith, c.max-height.ensures);
      enough = all_fit _ c.from.result _ _ _ (omega (arith, c.from.ensures)) c.div_ceil.ensures
          c.max-height.ensures (omega (arith, many, c.from.ensures));
      each = each_found
          (IsStripOf g.S.Strip.holds g.M.Metric.distance c.args.batch.now c.max-height.result)
          found.items all c.in_ok-all.ensures
          (λ k other below. (c.in_ok-found.ensures.each k other
          (omega (arith, below, c.in_ok-found.ensures.len, c.from-2.ensures, found.ok))).1.met);
    }
