-- One more row is written.
use Rattle.libclearmap.proofs.Names.{◌≡◌, ◌+◌, ◌-◌, ◌*◌, ◌≤◌, ◌∙◌, ℕ, inr, refl, if◌then◌else◌}
use Rattle.libclearmap.proofs.Names.{arith, mul-le-mul_right, has}
use Rattle.field.proofs.BandLemmas.{rows_more}
use Rattle.libclearmap.proofs.unpack.unpack_rows.Goals as goal

pub rows-preserved : goal.rows-preserved
rows-preserved g c =
    let cells = g.R.Rows.cells c.args.rows.now in
    let y = c.rows.y in
    let high = c.height-y-end.ensures.height in
    let start : c.from.result * c.from-width.result
    ≡ (y - 0) * cells.width = rw (c.from.ensures, c.from-width.ensures, c.width.ensures.width)
    (let none : y - 0 ≡ y = omega arith in rw none refl) in
    let row = rw (start, c.rows.invariant.rows) at c.unpack_row.ensures.cells in
    let others = rw (start, c.rows.invariant.rows) at c.unpack_row.ensures.others in
    let Is : ℕ → ℕ → ℕ → Type 0 = λ x b shade. shade
    ≡ (if has cells x b then c.args.shades.obstacle else c.args.shades.free) in
    let rows : (y - 0 + 1) * cells.width ≤ cells.height * cells.width = mul-le-mul_right cells.width
    (omega (arith, high, c.rows-test.true)) in
    record {
      rows = c.unpack_row.ensures.rows ∙ c.rows.invariant.rows;
      long = c.unpack_row.auto.bytes ∙ c.rows.invariant.long;
      written = rows_more Is 0 cells.width 0 y c.rows.bytes c.unpack_row.new.bytes (omega arith)
          c.rows.invariant.written row others;
      rest = λ k beyond. others k (inr (omega (arith, beyond, rows)))
          ∙ c.rows.invariant.rest k beyond;
    }
