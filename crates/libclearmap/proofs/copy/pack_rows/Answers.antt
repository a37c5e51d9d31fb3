-- One more row is written, and its band is no longer blank where some word of it isn't 0.
use Rattle.libclearmap.proofs.Names.{◌≡◌, ◌≤◌, ◌+◌, ◌*◌, ◌/◌, ◌%◌, refl, ◌∙◌, inl, inr, arith}
use Rattle.libclearmap.proofs.Names.{mul-le-mul_right, cases_eq, cases_lt, words_across}
use Rattle.libclearmap.proofs.Names.{has-outside}
use Rattle.libclearmap.proofs.CopyLemmas.{cells_stored-packed, obstacle_bit, packed_edge}
use Rattle.libclearmap.proofs.CopyLemmas.{place_above}
use Rattle.libclearmap.proofs.copy.pack_rows.Goals as goal

pub rows-preserved : goal.rows-preserved
rows-preserved g c =
    let cells = g.R.Rows.cells c.args.rows.now in
    let past = c.rows.invariant in
    let bitmap = c.height-height.ensures.bitmap in
    let few = bitmap.height_is.few in
    let high = c.height-height.ensures.height in
    let across : c.across-across.result ≡ words_across cells.width = c.across-across.ensures.across
    in
    let start : c.from.result * c.across-across.result ≡ c.rows.y * words_across cells.width =
    rw (across, c.from.ensures) refl in
    let before = rw start at c.pack_row-some.ensures.before in
    let after = rw (start, past.rows) at c.pack_row-some.ensures.after in
    let row = rw (start, past.rows) at c.pack_row-some.ensures.row in
    let some = rw past.rows at c.pack_row-some.ensures.some in
    let none = rw past.rows at c.pack_row-some.ensures.none in
    let without = c.without-blank.ensures in
    let rows : (c.rows.y + 1) * words_across cells.width ≤ cells.height * words_across cells.width
    = mul-le-mul_right (words_across cells.width) (omega (arith, high)) in
    record {
      rows = c.pack_row-some.ensures.rows ∙ past.rows;
      long = c.pack_row-some.ensures.len ∙ past.long;
      packed = λ b k low column. elim (cases_lt b c.rows.y) [
        | inl above ↦ before _ (place_above b c.rows.y _ k above column)
            ∙ past.packed b k above column
        | inr below ↦ let same : b ≡ c.rows.y = omega arith in rw same (row k column)
      ];
      marked = λ x b low obstacle.
          let inside = has-outside cells bitmap x b obstacle in
          let bit = without.marked (x % 64) in
          let fewer = without.fewer (b / 64) in
          let one = some (x / 64) (x % 64) in
          grind (arith, cases_lt b c.rows.y, past.marked x b, obstacle_bit cells x b);
      blank = λ band few rows.
          let same = cases_eq band (c.rows.y / 64) in
          grind (arith, without.none, none, rows c.rows.y, without.others band, past.blank band);
      rest = λ k beyond. after k (omega arith) ∙ past.rest k beyond;
    }

pub returns-clause-packed : goal.returns-clause-packed
returns-clause-packed g c = cells_stored-packed _ c.rows.words c.height-height.ensures.bitmap
    (λ y k row column. c.rows.invariant.packed y k (omega (arith, c.height-height.ensures.height))
    column)

pub returns-clause-marked : goal.returns-clause-marked
returns-clause-marked g c x y obstacle =
    let inside = has-outside _ c.height-height.ensures.bitmap x y obstacle in
    grind (arith, c.height-height.ensures.height, c.rows.invariant.marked x y)

pub returns-clause-edge : goal.returns-clause-edge
returns-clause-edge g c = packed_edge _ c.rows.words c.height-height.ensures.bitmap
    (λ y k row column. c.rows.invariant.packed y k (omega (arith, c.height-height.ensures.height))
    column)
