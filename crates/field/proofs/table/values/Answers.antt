-- The current row, for which the values were lengthened, comes after those so far.
use Rattle.std.proofs.Common.{◌≡◌, ℕ, ◌+◌, ◌-◌, ◌∙◌, List, [], drop, length, take, arith}
use Rattle.std.proofs.Common.{length-drop}
use Rattle.std.proofs.lemmas.List.{length-take-le}
use Rattle.metric.specs.declared.edge.Edge.{Edge}
use Rattle.bits.specs.Cells.{Cells}
use Rattle.envelope.specs.Answer.{Saying}
use Rattle.field.specs.Bands.{AreValues}
use Rattle.field.proofs.BandLemmas.{put_behind}
use Rattle.field.proofs.RowLemmas.{AreValues-more}
use Rattle.field.proofs.table.values.Goals as goal

-- no rows have no values
no_values : {T : Type 0} (says : Saying T) (unset : T) (d : ℕ → ℕ → ℕ) (cells : Cells)
    (edge : Edge) (y : ℕ) (values : List T) → values ≡ []
    → AreValues says unset d cells edge y y values
no_values says unset d cells edge y values empty = record {
  as_many = let none : y - y ≡ 0 = omega arith in rw (empty, none) (omega arith);
  each = λ x b column low high. absurd (omega (arith, low, high));
}

-- what comes after the items before is as long as a row, where there is a row more
rest_length : {T : Type 0} (items : List T) (start wide width : ℕ) → length items ≡ start + wide
    → wide ≡ width → length (take (length items - start) (drop start items)) ≡ width
rest_length items start wide width many wide_is =
    let rest = length-drop start items in
    length-take-le (length items - start) (drop start items) (omega (arith, rest))
    ∙ omega (arith, many, wide_is)

pub rows-init : goal.rows-init
rows-init g c =
    let batch = c.args.batch.now in
    record {
      said = no_values g.V.CellValue.says g.V.CellValue.unset g.M.Metric.distance
          batch.bitmap.now batch.edge batch.y0 c.in_ok-values.values.items
          c.in_ok-values.ensures.items;
      phases = c.in_ok-phases.ensures;
    }

pub slice_bounds-fill_line-count : goal.slice_bounds-fill_line-count
slice_bounds-fill_line-count g c =
    omega (arith, c.as_mut_slice.ensures.len, c.in_ok-resize.ensures.len)

pub fill_line-requires-clause-line : goal.fill_line-requires-clause-line
fill_line-requires-clause-line g c =
    rest_length c.as_mut_slice.result.now c.len-start.result c.width-width.result
    c.args.batch.now.bitmap.now.width
    (c.as_mut_slice.ensures.len ∙ c.in_ok-resize.ensures.len) c.width-width.ensures.width

pub returns : goal.returns
returns g c =
    let last : c.rows.y ≡ c.args.batch.now.y1 =
    omega (arith, c.rows-test.false, c.rows.auto.y-end) in
    rw last at c.rows.invariant.said

pub rows-preserved : goal.rows-preserved
rows-preserved g c =
    let batch = c.args.batch.now in
    let row = c.fill_line.ensures.line in
    let many = row.as_many in
    let start : c.len-start.result ≡ length c.rows.values.items =
    omega (arith, c.len-start.ensures, c.rows.values.ok.0) in
    let all : c.resize.new.self.len ≡ c.len-start.result + length c.fill_line.new.line =
    rw many (rw c.width-width.ensures.width at c.in_ok-resize.ensures.len) in
    let filled = rw c.in_ok-resize.ensures.items at c.as_mut_slice.ensures.value in
    record {
      said =
          rw (put_behind c.rows.values.items _ c.as_mut_slice.result.now c.fill_line.new.line _
          c.len-start.result (c.len-start.result + c.width-width.result) _ c.resize.new.self.len
          filled start (omega arith) all)
          (AreValues-more g.V.CellValue.says g.V.CellValue.unset g.M.Metric.distance
          batch.bitmap.now batch.edge batch.y0 c.rows.y c.rows.values.items c.fill_line.new.line
          (omega arith) c.rows.invariant.said row);
      phases = c.fill_line.ensures.ready;
    }
