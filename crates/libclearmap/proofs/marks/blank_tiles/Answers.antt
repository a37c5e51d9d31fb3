-- A row takes the marks of the tiles in which it has obstacles.
use Rattle.libclearmap.proofs.Names.{◌<◌, ◌/◌, ◌^◌, ◌-◌, ◌∙◌, refl, length, arith, get_or-replicate}
use Rattle.libclearmap.proofs.Names.{length-replicate, length-set, has-outside}
use Rattle.libclearmap.proofs.MarkLemmas.{bit_of_ones, blank_more, marked_more}
use Rattle.libclearmap.proofs.marks.blank_tiles.Goals as goal

pub rows-init : goal.rows-init
rows-init g c = record {
  rows = refl;
  long = length-replicate 64 (2 ^ 64 - 1);
  some = λ x y low obstacle. omega arith;
  none = λ band tile few within blank. rw (get_or-replicate 64 band (2 ^ 64 - 1) 0 few)
      (bit_of_ones tile within);
}

pub rows-preserved : goal.rows-preserved
rows-preserved g c =
    let cells = g.R.Rows.cells c.args.rows.now in
    let high = c.height-y-end.ensures in
    let few = high.bitmap.height_is.few in
    let room : c.rows.y / 64 < length c.rows.marks = omega (arith, high.height) in
    let fewer = rw c.from-band.ensures at c.marks_after.ensures.fewer in
    let some = rw c.rows.invariant.rows at c.marks_after.ensures.some in
    let none = rw (c.rows.invariant.rows, c.from-band.ensures) at c.marks_after.ensures.none in
    record {
      rows = c.marks_after.ensures.rows ∙ c.rows.invariant.rows;
      long = length-set _ _ _ ∙ c.rows.invariant.long;
      some = rw c.from-band.ensures (marked_more cells c.rows.marks c.rows.y c.marks_after.result
          high.bitmap room c.rows.invariant.some fewer some);
      none = rw c.from-band.ensures (blank_more cells c.rows.marks c.rows.y c.marks_after.result
          room c.rows.invariant.none none);
    }

pub returns-clause-some : goal.returns-clause-some
returns-clause-some g c x y obstacle =
    let inside = has-outside _ c.height-y-end.ensures.bitmap x y obstacle in
    grind (arith, c.height-y-end.ensures.height, c.rows.invariant.some x y)
