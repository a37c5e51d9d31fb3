-- Maps with the frame's first and last row, and what they have in common with maps with the whole
-- frame.
use Rattle.std.proofs.Common.{◌≡◌, ℕ, ◌+◌, ◌-◌, ◌*◌, ◌<◌, ◌≤◌, ◌==◌, ◌||◌, Bool, true, false, List}
use Rattle.std.proofs.Common.{Option, Some, None, length, get_or, inl, inr, refl, sym, ◌∙◌, ◌++◌}
use Rattle.std.proofs.Common.{take, arith}
use Rattle.std.proofs.lemmas.List.{get_or-append_right, get_or_append_left, length-take-le}
use Rattle.std.proofs.lemmas.Bool.{cases_lt, or_left}
use Rattle.std.proofs.lemmas.Bool.Decides.{nat_tests}
use Rattle.metric.specs.Edge.{shift}
use Rattle.metric.specs.declared.edge.Edge.{Edge}
use Rattle.metric.specs.declared.edge.Edge.TheVariants.{Open, Wall}
use Rattle.bits.specs.Cells.{Cells, IsBitmap, has}
use Rattle.bits.specs.Edges.{IsMap, framed}
use Rattle.bits.proofs.CellsLemmas.{has-cells_where, has-cells_where_below, has-cells_where_right}
use Rattle.bits.proofs.Framing.{framed_map, framed_size, shift_few, wall_test}
use Rattle.column.specs.Capped.{capped, is_cap, is_side}
use Rattle.column.specs.Columns.{IsNearestRow, IsRowOfTable, row_of}
use Rattle.column.specs.Marks.{marked}
use Rattle.column.proofs.Nearest.{IsRowAtMost-by, row_of-some}

-- a cell of a capped map is an obstacle if it is in the frame's rows or an obstacle of the map
abbrev cap_test : Edge → Cells → ℕ → ℕ → Bool
cap_test edge cells x y = is_cap edge cells.height y || has cells x (y - shift edge)

-- a capped map is as large as a map with its frame may be
pub capped_map : (edge : Edge) (cells : Cells) → IsBitmap cells → IsMap (capped edge cells)
capped_map edge cells bitmap =
    let wide = bitmap.width_is.few in
    let high = bitmap.height_is.few in
    let few = shift_few edge in
    record {
      width_few = omega (arith, wide);
      height_few = omega (arith, high, few);
      inside = λ x y black. record {
        column = elim (cases_lt x cells.width) [
          | inl inside ↦ inside
          | inr out ↦ let no = has-cells_where_right cells.width (cells.height + 2 * shift edge)
              (cap_test edge cells) x y out in cc
        ];
        row = elim (cases_lt y (cells.height + 2 * shift edge)) [
          | inl inside ↦ inside
          | inr out ↦ let no = has-cells_where_below cells.width (cells.height + 2 * shift edge)
              (cap_test edge cells) x y out in cc
        ];
      };
    }

-- a row of the map is none of the frame's
cap_free : (edge : Edge) (height y : ℕ) → shift edge ≤ y → y < height + shift edge
    → is_cap edge height y ≡ false
cap_free Open height y above within = refl
cap_free Wall height y above within = grind (arith, nat_tests)

-- a row that is none of the frame's is one of the map
pub cap_not : (edge : Edge) (height y : ℕ) → is_cap edge height y ≡ false
    → y < height + 2 * shift edge → (shift edge ≤ y) × (y < height + shift edge)
cap_not Open height y free within = (omega arith, omega (arith, within))
cap_not Wall height y free within = (grind (arith, nat_tests), grind (arith, nat_tests))

-- where the first of two tests fails, the second one decides
or_second : (a b : Bool) → a ≡ false → (a || b) ≡ b
or_second false b is = refl
or_second true b is = absurd (cc)

-- a capped map has what the map has, in the rows of the map
pub has-capped : (edge : Edge) (cells : Cells) (x y : ℕ) → x < cells.width → shift edge ≤ y
    → y < cells.height + shift edge → has (capped edge cells) x y ≡ has cells x (y - shift edge)
has-capped edge cells x y column above within =
    has-cells_where cells.width (cells.height + 2 * shift edge) (cap_test edge cells) x y column
    (omega (arith, within))
    ∙ or_second (is_cap edge cells.height y) (has cells x (y - shift edge))
    (cap_free edge cells.height y above within)

-- in the frame's rows each cell of a capped map is an obstacle
pub has-cap : (edge : Edge) (cells : Cells) (x y : ℕ) → x < cells.width
    → y < cells.height + 2 * shift edge → is_cap edge cells.height y ≡ true
    → has (capped edge cells) x y ≡ true
has-cap edge cells x y column within cap =
    has-cells_where cells.width (cells.height + 2 * shift edge)
    (cap_test edge cells) x y column within
    ∙ or_left (is_cap edge cells.height y) (has cells x (y - shift edge)) cap

-- in the map's own columns, the tests of cells with the frame and with its rows alone agree
same_test : (w h x y : ℕ) (black : Bool) → x < w
    → (((x + 1 == 0 || y == 0) || (x + 1 == w + 1 || y == h + 1)) || black)
    ≡ ((y == 0 || y == h + 1) || black)
same_test w h x y black column = grind (arith, nat_tests)

-- in the columns of the map a map with its frame has what the capped one has
has-column : (edge : Edge) (cells : Cells) (x y : ℕ) → x < cells.width
    → y < cells.height + 2 * shift edge
    → has (framed edge cells) (x + shift edge) y ≡ has (capped edge cells) x y
has-column Open cells x y column row =
    let across : x + 0 ≡ x = omega arith in
    let down : y - 0 ≡ y = omega arith in
    let test = has-capped Open cells x y column (omega arith) (omega (arith, row)) in
    rw across (sym (test ∙ rw down refl))
has-column Wall cells x y column row =
    let across : x + 1 - 1 ≡ x = omega arith in
    let framed_is = has-cells_where (cells.width + 2) (cells.height + 2) (wall_test cells) (x + 1) y
    (omega (arith, column)) (omega (arith, row)) in
    let capped_is = has-cells_where cells.width (cells.height + 2) (cap_test Wall cells) x y column
    (omega (arith, row)) in
    framed_is
    ∙ (same_test cells.width cells.height x y (has cells (x + 1 - 1) (y - 1)) column
    ∙ rw across (sym capped_is))

-- an obstacle of a map with its frame lies in one of its rows
framed_row : (edge : Edge) (cells : Cells) (x b : ℕ) → IsBitmap cells
    → has (framed edge cells) x b ≡ true → b < cells.height + 2 * shift edge
framed_row edge cells x b bitmap black =
    let inside = ((framed_map edge cells bitmap).inside x b black).row in
    let size = (framed_size edge cells).1 in omega (arith, inside, size)

-- the nearest row of a column of a capped map is that of the map with its frame
column_nearest : (edge : Edge) (cells : Cells) (x y : ℕ) (row : Option ℕ) → IsBitmap cells
    → x < cells.width → IsNearestRow (capped edge cells) x y row
    → IsNearestRow (framed edge cells) (x + shift edge) y row
column_nearest edge cells x y None bitmap column none =
    λ b black. none b
    (sym (has-column edge cells x b column (framed_row edge cells (x + shift edge) b bitmap black))
    ∙ black)
column_nearest edge cells x y (Some row) bitmap column nearest = (
  (has-column edge cells x row column ((capped_map edge cells bitmap).inside x row nearest.0).row)
      ∙ nearest.0,
  λ b black. nearest.1 b
      (sym (has-column edge cells x b column
      (framed_row edge cells (x + shift edge) b bitmap black))
      ∙ black),
)

-- an obstacle is the nearest of its column, seen from its own row
own_row : (cells : Cells) (x y : ℕ) → has cells x y ≡ true → IsNearestRow cells x y (Some y)
own_row cells x y black =
    (black, λ b other. IsRowAtMost-by y y b (omega arith) (λ same. omega (arith, same)))

-- each cell of the frame's columns is an obstacle
has-side : (edge : Edge) (cells : Cells) (x y : ℕ) → x < cells.width + 2 * shift edge
    → y < cells.height + 2 * shift edge → is_side edge (cells.width + 2 * shift edge) x ≡ true
    → has (framed edge cells) x y ≡ true
has-side Open cells x y column row side = absurd (cc)
has-side Wall cells x y column row side =
    has-cells_where (cells.width + 2) (cells.height + 2) (wall_test cells) x y
    (omega (arith, column)) (omega (arith, row))
    ∙ side_test cells.width cells.height x y (has cells (x - 1) (y - 1)) side
  where
    side_test : (w h x y : ℕ) (black : Bool) → (x == 0 || x + 1 == w + 2 * 1) ≡ true
        → (((x == 0 || y == 0) || (x == w + 1 || y == h + 1)) || black) ≡ true
    side_test w h x y black side = grind (arith, nat_tests)

-- a column that is none of the frame's is one of the map
side_not : (edge : Edge) (width x : ℕ) → is_side edge (width + 2 * shift edge) x ≡ false
    → x < width + 2 * shift edge → (shift edge ≤ x) × (x - shift edge < width)
side_not Open width x free within = (omega arith, omega (arith, within))
side_not Wall width x free within = (grind (arith, nat_tests), grind (arith, nat_tests))

-- each entry of a row of a capped map, with the frame's columns, tells the nearest row of the map
-- with its frame
framed_entry : (edge : Edge) (cells : Cells) (y : ℕ) (inner old : List ℕ) (x : ℕ) → IsBitmap cells
    → y < cells.height + 2 * shift edge → IsRowOfTable (capped edge cells) y inner
    → ((x : ℕ) → x < cells.width → get_or old (x + shift edge) 0 ≡ get_or inner x 0)
    → x < cells.width + 2 * shift edge → (side : Bool)
    → is_side edge (cells.width + 2 * shift edge) x ≡ side
    → IsNearestRow (framed edge cells) x y (row_of (marked side y (get_or old x 0)))
framed_entry edge cells y inner old x bitmap within row copied column true is =
    let high = bitmap.height_is.few in
    let few = shift_few edge in
    rw (row_of-some y (λ same. omega (arith, within, high, few, same)))
    (own_row (framed edge cells) x y (has-side edge cells x y column within is))
framed_entry edge cells y inner old x bitmap within row copied column false is =
    let own = side_not edge cells.width x is column in
    let back : x - shift edge + shift edge ≡ x = let low = own.0 in omega (arith, low) in
    let entry : get_or old x 0 ≡ get_or inner (x - shift edge) 0 =
    rw back at (copied (x - shift edge) own.1) in
    let there = column_nearest edge cells (x - shift edge) y
    (row_of (get_or inner (x - shift edge) 0)) bitmap own.1 (row.each (x - shift edge) own.1) in
    rw entry (rw back at there)

-- the row of a capped map, with the frame's columns, is that of the map with its frame
pub IsRowOfTable-framed : (edge : Edge) (cells : Cells) (y : ℕ) (inner old new : List ℕ)
    → IsBitmap cells → y < cells.height + 2 * shift edge → IsRowOfTable (capped edge cells) y inner
    → ((x : ℕ) → x < length old
    → get_or new x 0 ≡ marked (is_side edge (length old) x) y (get_or old x 0))
    → length new ≡ length old → length old ≡ cells.width + 2 * shift edge
    → ((x : ℕ) → x < cells.width → get_or old (x + shift edge) 0 ≡ get_or inner x 0)
    → IsRowOfTable (framed edge cells) y new
IsRowOfTable-framed edge cells y inner old new bitmap within row marks len many copied =
    let size = (framed_size edge cells).0 in
    record {
      as_many = len ∙ (many ∙ sym size);
      each = λ x column.
          let inside : x < cells.width + 2 * shift edge = omega (arith, column, size) in
          let marks_here = rw many at (marks x (omega (arith, inside, many))) in
          rw marks_here (framed_entry edge cells y inner old x bitmap within row copied inside
          (is_side edge (cells.width + 2 * shift edge) x) refl);
    }

-- an element of a part that was written into a list is read at its place in the list
pub written_inside : (old sub rest : List ℕ) (n k x : ℕ) → n ≤ length old → n ≡ k → x < length sub
    → get_or (take n old ++ (sub ++ rest)) (x + k) 0 ≡ get_or sub x 0
written_inside old sub rest n k x within same inside =
    let front : length (take n old) ≡ n = length-take-le n old within in
    let place : x + k - n ≡ x = omega (arith, same) in
    get_or-append_right (take n old) (sub ++ rest) n (x + k) 0 front (omega (arith, same))
    ∙ (rw place (get_or_append_left sub rest 0 x inside))
