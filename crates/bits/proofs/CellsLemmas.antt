-- Bitmaps as sets of cells: what crates above need, so that none of them sees the rows.
use Rattle.std.proofs.Common.{◌≡◌, ◌≢◌, ℕ, ◌<◌, ◌≤◌, ◌==◌, ◌&&◌, if◌then◌else◌, Bool, true, false}
use Rattle.std.proofs.Common.{List, [], map, ap, sym, ◌∙◌, arith}
use Rattle.std.specs.List.{range_with_len}
use Rattle.std.proofs.lemmas.List.FromFn.{get_or-map-range_with_len, length-map-range_with_len}
use Rattle.std.proofs.lemmas.List.FromFn.{fill_by_all}
use Rattle.std.proofs.Math.ListN.{get_or-eq_default}
use Rattle.std.proofs.lemmas.Bool.Decides.{nat_tests}
use Rattle.bits.specs.Cells.{Cells, has, rows_where, cells_where, with_cell, IsSide, IsBitmap}
use Rattle.bits.specs.Cells.{IsInside}

-- a cell inside is an obstacle exactly if it passes the test
pub has-cells_where : (width height : ℕ) (test : ℕ → ℕ → Bool) (x y : ℕ) → x < width → y < height
    → has (cells_where width height test) x y ≡ test x y
unfolding has rows_where
has-cells_where width height test x y hx hy = grind (arith, get_or-map-range_with_len, nat_tests)

-- a bitmap of given cells has no obstacle below its last row
pub has-cells_where_below : (width height : ℕ) (test : ℕ → ℕ → Bool) (x y : ℕ) → height ≤ y
    → has (cells_where width height test) x y ≡ false
unfolding has rows_where
has-cells_where_below width height test x y hy =
    grind (arith, length-map-range_with_len, get_or-eq_default, nat_tests)

-- no cell right of the last column is an obstacle
pub has-cells_where_right : (width height : ℕ) (test : ℕ → ℕ → Bool) (x y : ℕ) → width ≤ x
    → has (cells_where width height test) x y ≡ false
unfolding has rows_where
has-cells_where_right width height test x y hx =
    grind (arith, length-map-range_with_len, get_or-map-range_with_len, get_or-eq_default)

-- a choice by one cell gives the first value at that cell
if_here : (x y : ℕ) (value other : Bool) → (if x == x && y == y then value else other) ≡ value
if_here x y value other = grind (arith, nat_tests)

-- a choice by one cell gives the other value at each other cell
if_apart : (x y a b : ℕ) (value other : Bool) → (a ≡ x → b ≢ y)
    → (if a == x && b == y then value else other) ≡ other
if_apart x y a b value other apart = grind (arith, nat_tests)

-- a test of one cell, whose value is what stands there
if_same : (x y a b : ℕ) (value other : Bool) → (a ≡ x → b ≡ y → other ≡ value)
    → (if a == x && b == y then value else other) ≡ other
if_same x y a b value other same = grind (arith, nat_tests)

-- two tests that agree on the cells inside give one bitmap
pub cells_where-same : (width height : ℕ) (f g : ℕ → ℕ → Bool)
    → ((x y : ℕ) → x < width → y < height → f x y ≡ g x y)
    → cells_where width height f ≡ cells_where width height g
unfolding rows_where
cells_where-same width height f g same =
    let row_f : ℕ → List Bool = λ b. map (λ a. f a b) (range_with_len 0 width) in
    let row_g : ℕ → List Bool = λ b. map (λ a. g a b) (range_with_len 0 width) in
    let row_same = λ (y : ℕ) (hy : y < height).
    fill_by_all (λ a. g a y) (row_f y) width false (length-map-range_with_len (λ a. f a y) 0 width)
    (λ x hx. get_or-map-range_with_len (λ a. f a y) 0 width x x false hx (omega arith)
    ∙ same x y hx hy) in
    let as_cells : List (List Bool)
    → Cells = λ rows. record { width = width; height = height; rows = rows } in
    ap as_cells
    (fill_by_all row_g (map row_f (range_with_len 0 height)) height []
    (length-map-range_with_len row_f 0 height)
    (λ y hy. get_or-map-range_with_len row_f 0 height y y [] hy (omega arith) ∙ row_same y hy))

-- what passes a test on a grid of this size is a bitmap
pub IsBitmap-cells_where : (width height : ℕ) (test : ℕ → ℕ → Bool) → IsSide width → IsSide height
    → IsBitmap (cells_where width height test)
IsBitmap-cells_where width height test hw hh = record {
  width_is = hw;
  height_is = hh;
  whole = ap (λ (cells : Cells). cells.rows)
      (cells_where-same width height test (has (cells_where width height test)) (λ x y hx hy.
      sym (has-cells_where width height test x y hx hy)));
}

-- a bitmap is what its own set of obstacles makes
pub cells_where-has : (cells : Cells) → IsBitmap cells
    → cells ≡ cells_where cells.width cells.height (has cells)
cells_where-has cells h = grind (arith, nat_tests)

-- an obstacle lies in its bitmap
pub has-outside : (cells : Cells) → IsBitmap cells → (x y : ℕ) → has cells x y ≡ true
    → IsInside cells x y
has-outside cells h x y is =
    grind (arith, cells_where-has, has-cells_where_right, has-cells_where_below)

-- a bitmap with one cell written has the new value there, and the old one elsewhere
has-with_cell : (cells : Cells) (x y : ℕ) (value : Bool) (a b : ℕ) → a < cells.width
    → b < cells.height
    → has (with_cell cells x y value) a b ≡ (if a == x && b == y then value else has cells a b)
has-with_cell cells x y value a b ha hb = grind (arith, has-cells_where, nat_tests)

-- a bitmap with one cell written has the new value there
pub has-with_cell_same : (cells : Cells) (x y : ℕ) (value : Bool) → x < cells.width
    → y < cells.height
    → has (with_cell cells x y value) x y ≡ value
has-with_cell_same cells x y value hx hy =
    has-with_cell cells x y value x y hx hy ∙ if_here x y value (has cells x y)

-- a bitmap with one cell written keeps each other cell
pub has-with_cell_other : (cells : Cells) (x y : ℕ) (value : Bool) (a b : ℕ) → a < cells.width
    → b < cells.height
    → (a ≡ x → b ≢ y) → has (with_cell cells x y value) a b ≡ has cells a b
has-with_cell_other cells x y value a b ha hb apart =
    has-with_cell cells x y value a b ha hb ∙ if_apart x y a b value (has cells a b) apart

-- to write the value that a cell has changes nothing
pub with_cell-same : (cells : Cells) → IsBitmap cells → (x y : ℕ) (value : Bool)
    → has cells x y ≡ value
    → with_cell cells x y value ≡ cells
with_cell-same cells h x y value is =
    grind (arith, cells_where-same, if_same, cells_where-has, nat_tests)
