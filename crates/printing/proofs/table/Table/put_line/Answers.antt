-- A row's line is written from its distances alone where obstacles aren't told, and spells the same
-- line without places.
use Rattle.std.proofs.Common.{◌≡◌, ℕ, ◌+◌, ◌-◌, ◌*◌, ◌∙◌, List, Option, true, false, length}
use Rattle.std.proofs.Common.{arith, refl}
use Rattle.std.specs.List.{slice_range}
use Rattle.metric.specs.declared.near.Near.{Near}
use Rattle.field.specs.Obstacles.{nears_told}
use Rattle.printing.specs.Measured.{AreDistances}
use Rattle.printing.specs.Tabled.{HasAllNumbers, HasAllRows, some_nears}
use Rattle.printing.proofs.KeptLemmas.{AreDistances-line}
use Rattle.printing.proofs.MeasuredLines.{distances_line-nears}
use Rattle.printing.proofs.table.Table.put_line.Goals as goal

-- a row counted from the first one is the map's, where that is the first of the map
row_of_all : (all nears : List (Option Near)) (y from wide width : ℕ)
    → nears ≡ slice_range all ((y - from) * wide) ((y - from) * wide + wide) → from ≡ 0
    → wide ≡ width → nears ≡ slice_range all (y * width) (y * width + width)
row_of_all all nears y from wide width filled first across =
    let row : y - from ≡ y = omega (arith, first) in
    rw (row, across) at filled

pub returns-in-Distances-clause-line : goal.returns-in-Distances-clause-line
returns-in-Distances-clause-line g c =
    let width = c.self.inside.width in
    let height = c.self.inside.height in
    let table = c.in-Distances.table in
    let numbers = c.fill_row-in-Distances.new.distances in
    let filled = c.fill_row-in-Distances.ensures in
    let have : HasAllNumbers width height table = rw c.in-Distances.is at c.self.invariant in
    let nears : List (Option Near) = slice_range (some_nears width height table) (c.args.y * width)
    (c.args.y * width + width) in
    let across : length numbers ≡ width = filled.len ∙ have.across in
    let are : AreDistances nears numbers =
    AreDistances-line width height c.args.y table numbers
    (rw (← c.self.view_is) at c.requires.row) have across
    (λ x column. filled.each x (rw have.across column)) in
    rw (← c.self.view_is, c.in-Distances.is, ← distances_line-nears nears numbers are)
    c.put_distances.ensures.line

pub returns-in-Distances-clause-end : goal.returns-in-Distances-clause-end
returns-in-Distances-clause-end g c =
    let alone : c.args.self.now.nearest ≡ false = rw (← c.self.view_is, c.in-Distances.is) refl in
    let across = c.fill_row-in-Distances.auto.distances
    ∙ (c.as_mut_slice-distances.ensures.len ∙ c.requires.cells.distances alone) in
    rw across at c.put_distances.ensures.end

pub returns-in-Distances-clause-cells : goal.returns-in-Distances-clause-cells
returns-in-Distances-clause-cells g c =
    record { nears = c.requires.cells.nears; distances = c.requires.cells.distances }

pub returns-in-Obstacles-clause-line : goal.returns-in-Obstacles-clause-line
returns-in-Obstacles-clause-line g c =
    let table = c.in-Obstacles.table in
    let have : HasAllRows g.M.Metric.distance c.self.inside.width c.self.inside.height table =
    rw c.in-Obstacles.is at c.self.invariant in
    let filled = row_of_all (nears_told g.M.Metric.distance table) c.fill_row.new.nears c.args.y
    table.y0 table.width c.self.inside.width c.fill_row.ensures have.from have.across in
    rw (← c.self.view_is, c.in-Obstacles.is) (rw filled at c.put_row.ensures.line)

pub returns-in-Obstacles-clause-end : goal.returns-in-Obstacles-clause-end
returns-in-Obstacles-clause-end g c =
    let told : c.args.self.now.nearest ≡ true = rw (← c.self.view_is, c.in-Obstacles.is) refl in
    let across = c.fill_row.auto.nears
    ∙ (c.as_mut_slice-nears.ensures.len ∙ c.requires.cells.nears told) in
    rw across at c.put_row.ensures.end

pub returns-in-Obstacles-clause-cells : goal.returns-in-Obstacles-clause-cells
returns-in-Obstacles-clause-cells g c =
    record { nears = c.requires.cells.nears; distances = c.requires.cells.distances }
