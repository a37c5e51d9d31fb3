-- A bitmap and its pixels, row by row.
use Rattle.std.proofs.Common.{◌≡◌, ℕ, ◌+◌, ◌*◌, ◌/◌, ◌%◌, ◌<◌, Bool, false, List, length}
use Rattle.std.proofs.Common.{get_or, sym, ap, ◌∙◌, arith}
use Rattle.std.proofs.Math.Nat.{div-lt_iff_lt-mul}
use Rattle.std.proofs.lemmas.Nat.{div-mul-add, mod-mul-add, div-add-mod'}
use Rattle.std.proofs.lemmas.List.FromFn.{get_or-map-range_with_len, length-map-range_with_len}
use Rattle.std.proofs.lemmas.List.FromFn.{fill_by_all}
use Rattle.bits.specs.Cells.{Cells, has, IsSide, IsBitmap}
use Rattle.bits.proofs.CellsLemmas.{has-cells_where, cells_where-same, cells_where-has}
use Rattle.pbm.specs.Faults.{cells_of_pixels}
use Rattle.pbm.specs.Image.{pixels_of}
use Rattle.std.proofs.lemmas.Grind.{common_steps}
use Rattle.std.proofs.lemmas.Bool.Decides.{nat_tests}

-- a cell inside has a place in the raster
pub place-below : (width height x y : ℕ) → x < width → y < height → y * width + x < width * height
place-below width height x y hx hy = grind (arith, nat_tests, common_steps)

-- a bitmap has as many pixels as cells
pub length-pixels_of : (cells : Cells) → length (pixels_of cells) ≡ cells.width * cells.height
length-pixels_of cells = grind (arith, nat_tests, common_steps, length-map-range_with_len)

-- a bitmap is what its pixels make
pub cells_of-pixels_of : (cells : Cells) → IsBitmap cells
    → cells_of_pixels cells.width cells.height (pixels_of cells) ≡ cells
cells_of-pixels_of cells is =
    cells_where-same cells.width cells.height
    (λ x y. get_or (pixels_of cells) (y * cells.width + x) false) (has cells) (λ x y hx hy.
    let place = y * cells.width + x in
    let column : place % cells.width ≡ x = mod-mul-add y cells.width x hx in
    let row : place / cells.width ≡ y = div-mul-add y cells.width x hx in
    get_or-map-range_with_len (λ k. has cells (k % cells.width) (k / cells.width)) 0
    (cells.width * cells.height) place place false
    (place-below cells.width cells.height x y hx hy) (omega arith)
    ∙ ap (λ (a : ℕ). has cells a (place / cells.width)) column
    ∙ ap (λ (b : ℕ). has cells x b) row)
    ∙ sym (cells_where-has cells is)

-- the pixels of what pixels make are these
pub pixels_of-cells_of : (width height : ℕ) (all : List Bool) → IsSide width
    → length all ≡ width * height → pixels_of (cells_of_pixels width height all) ≡ all
pixels_of-cells_of width height all side count =
    let some : 0 < width = omega (arith, side.some) in
    sym (fill_by_all (λ k. has (cells_of_pixels width height all) (k % width) (k / width)) all
    (width * height) false count (λ k below.
    let column : k % width < width = omega arith in
    let row : k / width < height = (div-lt_iff_lt-mul some).1 (omega arith) in
    sym (has-cells_where width height (λ x y. get_or all (y * width + x) false) (k % width)
    (k / width) column row
    ∙ ap (λ (i : ℕ). get_or all i false) (div-add-mod' k width))))
