-- The nearest obstacles that a table tells, cell by cell and row by row.
use Rattle.std.proofs.Common.{◌≡◌, ◌≢◌, ℕ, zero, suc, ◌+◌, ◌-◌, ◌*◌, ◌/◌, ◌%◌, ◌<◌, ◌≤◌, ◌∙◌, ℤ}
use Rattle.std.proofs.Common.{pos, negsuc, ◌-ℤ◌, List, drop, Option, None, length, slice_index_or}
use Rattle.std.proofs.Common.{arith, refl, subst, sym, unsigned_abs}
use Rattle.std.specs.List.{slice_range}
use Rattle.std.proofs.Math.Nat.{mul-le-mul_right}
use Rattle.std.proofs.lemmas.Nat.{div-mul-add, mod-mul-add}
use Rattle.std.proofs.lemmas.Int.{ints}
use Rattle.std.proofs.lemmas.List.{ext_get_or, get_or-drop, get_or-take, length-drop}
use Rattle.std.proofs.lemmas.List.{length-take-le}
use Rattle.std.proofs.lemmas.List.FromFn.{get_or-map-range_with_len, length-map-range_with_len}
use Rattle.metric.specs.declared.edge.Edge.{Edge}
use Rattle.metric.specs.declared.near.Near.{Near}
use Rattle.metric.specs.declared.spot.Spot.{Spot}
use Rattle.bits.specs.Cells.{Cells}
use Rattle.column.proofs.Places.{place_above}
use Rattle.field.specs.Bands.{AreAnswers}
use Rattle.metric.specs.Nearest.{apart}
use Rattle.field.specs.Obstacles.{AreMeasured, AreRows, IsKeptSpot, IsMeasured, Obstacles}
use Rattle.field.specs.Obstacles.{nears_told, seen_from, spot_kept}
use Rattle.field.specs.Rows.{AreNears}

-- a table tells as many nearest obstacles as it keeps
length-nears_told : (distance : ℕ → ℕ → ℕ) (table : Obstacles)
    → length (nears_told distance table) ≡ length table.cells
length-nears_told distance table =
    length-map-range_with_len (λ k. seen_from distance (k % table.width)
    (table.y0 + k / table.width) (slice_index_or table.cells k None)) 0 (length table.cells)

-- a table tells of the cell in column x, this many rows after its first one, what it keeps there,
-- seen from the cell
told_at : (distance : ℕ → ℕ → ℕ) (table : Obstacles) (x rows : ℕ) → x < table.width
    → rows * table.width + x < length table.cells
    → slice_index_or (nears_told distance table) (rows * table.width + x) None
    ≡ seen_from distance x (table.y0 + rows)
    (slice_index_or table.cells (rows * table.width + x) None)
told_at distance table x rows inside within =
    get_or-map-range_with_len (λ k. seen_from distance (k % table.width)
    (table.y0 + k / table.width) (slice_index_or table.cells k None)) 0 (length table.cells)
    (rows * table.width + x) (rows * table.width + x) None within (omega arith)
    ∙ rw (div-mul-add rows table.width x inside, mod-mul-add rows table.width x inside) refl

-- a cell of a row lies among those of all rows
place_within : (table : Obstacles) (x y : ℕ) → AreRows table → x < table.width → table.y0 ≤ y
    → y < table.y1 → (y - table.y0) * table.width + x < length table.cells
place_within table x y rows inside from to =
    let as_many = rows.as_many in
    let place = place_above (y - table.y0) (table.y1 - table.y0) table.width x
    (omega (arith, from, to)) inside in
    omega (arith, as_many, place)

-- a table tells of the cell in column x and row y what it keeps there, seen from the cell
pub told_here : (distance : ℕ → ℕ → ℕ) (table : Obstacles) (x y : ℕ) → AreRows table
    → x < table.width → table.y0 ≤ y → y < table.y1
    → slice_index_or (nears_told distance table) ((y - table.y0) * table.width + x) None
    ≡ seen_from distance x y (slice_index_or table.cells ((y - table.y0) * table.width + x) None)
told_here distance table x y rows inside from to =
    let sum : table.y0 + (y - table.y0) ≡ y = omega (arith, from) in
    told_at distance table x (y - table.y0) inside (place_within table x y rows inside from to)
    ∙ rw sum refl

-- where what is kept of some rows tells their nearest obstacles, so does the table
pub AreNears-told : (distance : ℕ → ℕ → ℕ) (cells : Cells) (edge : Edge) (table : Obstacles)
    → AreRows table → table.width ≡ cells.width
    → AreAnswers seen_from None distance cells edge table.y0 table.y1 table.cells
    → AreNears distance cells edge table.y0 table.y1 (nears_told distance table)
AreNears-told distance cells edge table rows across answers = record {
  as_many = length-nears_told distance table ∙ answers.as_many;
  each = λ x y inside from to.
      let column : x < table.width = rw across inside in
      rw (← across, told_here distance table x y rows column from to, across)
      (answers.filled.each x y inside from to);
}

-- a row ends among those of all rows
row_within : (table : Obstacles) (y : ℕ) → AreRows table → table.y0 ≤ y → y < table.y1
    → (y - table.y0) * table.width + table.width ≤ length table.cells
row_within table y rows from to =
    let as_many = rows.as_many in
    let through : (y - table.y0 + 1) * table.width ≤ (table.y1 - table.y0) * table.width =
    mul-le-mul_right table.width (omega (arith, from, to)) in
    omega (arith, as_many, through)

-- a line of this width among others is as long
pub length-line : {T : Type 0} (all : List T) (start width : ℕ) → start + width ≤ length all
    → length (slice_range all start (start + width)) ≡ width
length-line all start width within =
    let across : start + width - start ≡ width = omega arith in
    rw across (length-take-le width (drop start all)
    (rw (length-drop start all) (omega (arith, within))))

-- what stands in a line stands among all
pub line_at : {T : Type 0} (all : List T) (start width x : ℕ) (other : T) → x < width
    → slice_index_or (slice_range all start (start + width)) x other
    ≡ slice_index_or all (start + x) other
line_at all start width x other inside =
    let across : start + width - start ≡ width = omega arith in
    rw across (get_or-take width (drop start all) x other inside ∙ get_or-drop start all x other)

-- what is kept of a cell, seen from it, is what the line of the cell's row tells
told_in_line : (distance : ℕ → ℕ → ℕ) (table : Obstacles) (y x : ℕ) (kept : List (Option Spot))
    → AreRows table → table.y0 ≤ y → y < table.y1 → x < table.width
    → kept ≡ slice_range table.cells ((y - table.y0) * table.width)
    ((y - table.y0) * table.width + table.width)
    → seen_from distance x y (slice_index_or kept x None)
    ≡ slice_index_or (slice_range (nears_told distance table) ((y - table.y0) * table.width)
    ((y - table.y0) * table.width + table.width)) x None
told_in_line distance table y x kept rows from to column part =
    let start : ℕ = (y - table.y0) * table.width in
    let here : slice_index_or kept x None ≡ slice_index_or table.cells (start + x) None =
    rw part (line_at table.cells start table.width x None column) in
    rw (here, line_at (nears_told distance table) start table.width x None column)
    (sym (told_here distance table x y rows column from to))

-- the line of a row has as many told obstacles as the row has cells
length-line_told : (distance : ℕ → ℕ → ℕ) (table : Obstacles) (y : ℕ) → AreRows table → table.y0 ≤ y
    → y < table.y1
    → length (slice_range (nears_told distance table) ((y - table.y0) * table.width)
    ((y - table.y0) * table.width + table.width)) ≡ table.width
length-line_told distance table y rows from to =
    let many = length-nears_told distance table in
    let within = row_within table y rows from to in
    length-line (nears_told distance table) ((y - table.y0) * table.width) table.width
    (omega (arith, many, within))

-- the line of a row is its part of what is told
pub line_told : (distance : ℕ → ℕ → ℕ) (table : Obstacles) (y : ℕ) (kept : List (Option Spot))
    (line : List (Option Near)) → AreRows table → table.y0 ≤ y → y < table.y1
    → length line ≡ table.width
    → kept ≡ slice_range table.cells ((y - table.y0) * table.width)
    ((y - table.y0) * table.width + table.width)
    → ((x : ℕ) → x < table.width
    → slice_index_or line x None ≡ seen_from distance x y (slice_index_or kept x None))
    → line ≡ slice_range (nears_told distance table) ((y - table.y0) * table.width)
    ((y - table.y0) * table.width + table.width)
line_told distance table y kept line rows from to across part seen =
    let start : ℕ = (y - table.y0) * table.width in
    ext_get_or None line (slice_range (nears_told distance table) start (start + table.width))
    (across ∙ sym (length-line_told distance table y rows from to))
    (λ x inside.
    let column : x < table.width = rw across at inside in
    seen x column ∙ told_in_line distance table y x kept rows from to column part)

-- the distances of a row's cells are those of what is told of it
pub line_measured : (distance : ℕ → ℕ → ℕ) (table : Obstacles) (y : ℕ) (kept : List (Option Spot))
    (numbers : List ℕ) → AreRows table → table.y0 ≤ y → y < table.y1
    → length numbers ≡ table.width
    → kept ≡ slice_range table.cells ((y - table.y0) * table.width)
    ((y - table.y0) * table.width + table.width)
    → ((x : ℕ) → x < table.width
    → IsMeasured distance (seen_from distance x y (slice_index_or kept x None))
    (slice_index_or numbers x 0))
    → AreMeasured distance (slice_range (nears_told distance table) ((y - table.y0) * table.width)
    ((y - table.y0) * table.width + table.width)) numbers
line_measured distance table y kept numbers rows from to across part measured =
    let many = length-line_told distance table y rows from to in
    record {
      as_many = across ∙ sym many;
      each = λ x inside.
          let column : x < table.width = rw many at inside in
          subst (λ near. IsMeasured distance near (slice_index_or numbers x 0))
          (told_in_line distance table y x kept rows from to column part) (measured x column);
    }

-- what is kept is measured by its distance
pub IsMeasured-kept : (distance : ℕ → ℕ → ℕ) (x y : ℕ) (a b : ℤ) (columns rows number : ℕ)
    → IsKeptSpot a b → a ≢ negsuc 1 → columns ≡ apart x a → rows ≡ apart y b → columns ≤ 4097
    → rows ≤ 4097
    → number ≡ distance columns rows
    → IsMeasured distance (seen_from distance x y (spot_kept a b)) number
IsMeasured-kept distance x y (pos a) b columns rows number kept some across down few_columns
    few_rows is = (
      rw (← across, ← down) is,
      record {
        columns = columns;
        rows = rows;
        few_columns = few_columns;
        few_rows = few_rows;
        is = is;
      },
    )
IsMeasured-kept distance x y (negsuc zero) b columns rows number kept some across down few_columns
    few_rows is = (
      rw (← across, ← down) is,
      record {
        columns = columns;
        rows = rows;
        few_columns = few_columns;
        few_rows = few_rows;
        is = is;
      },
    )
IsMeasured-kept distance x y (negsuc (suc a)) b columns rows number kept some across down
    few_columns few_rows is = absurd (some (kept.none (omega (arith, ints))).0)

-- the difference of two numbers, without its sign, is how far they are apart
pub apart_is : (x : ℕ) (a : ℤ) → unsigned_abs (pos x -ℤ a) ≡ apart x a
apart_is x (pos a) = omega (arith, ints)
apart_is x (negsuc a) = omega (arith, ints)
