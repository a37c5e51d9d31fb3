-- A table of nearest rows, and the bitmap that it was made of.
use Rattle.std.proofs.Common.{◌≡◌, ℕ, ◌+◌, ◌*◌, ◌<◌, ◌≤◌, ◌⊎◌, ◌==◌, ◌∙◌, Bool, true, false, List}
use Rattle.std.proofs.Common.{Option, Some, None, length, get_or, arith, sym, ap}
use Rattle.std.proofs.lemmas.Bool.{cases_eq, cases_lt, eq-eqb, ne_eqb}
use mathlib.Core.Logic.{inl, inr}
use Rattle.metric.specs.Edge.{shift}
use Rattle.metric.specs.declared.edge.Edge.{Edge}
use Rattle.bits.specs.Cells.{Cells, has, IsBitmap}
use Rattle.bits.specs.Edges.{framed}
use Rattle.bits.proofs.CellsLemmas.{cells_where-same, cells_where-has, IsBitmap-cells_where}
use Rattle.bits.proofs.Framing.{framed_size, has-framed, shift_few}
use Rattle.column.specs.Columns.{IsNearestRow, IsRowOfTable, row_of}
use Rattle.column.specs.Tabled.{Bordered, HasRows, IsTabled, cells_tabled, place_in}
use Rattle.column.proofs.Places.{place_above}
use Rattle.column.proofs.Nearest.{row_of-none, row_of-some}

-- the nearest row of a column, seen from an obstacle's row, is that row
nearest_of_obstacle : (cells : Cells) (x y : ℕ) (row : Option ℕ) → has cells x y ≡ true
    → IsNearestRow cells x y row → row ≡ Some y
nearest_of_obstacle cells x y None black nearest = absurd (nearest y black)
nearest_of_obstacle cells x y (Some row) black nearest =
    let at_most = nearest.1 y black in
    let same : row ≡ y = elim at_most.order
    [ inl nearer ↦ absurd (omega arith) | inr far ↦ let zero = far.0 in omega arith ] in
    ap Some same

-- a free cell's nearest row is not its own
nearest_of_free : (cells : Cells) (x y : ℕ) → has cells x y ≡ false
    → IsNearestRow cells x y (Some y) → ⊥
nearest_of_free cells x y free nearest = let black = nearest.0 in absurd (cc)

-- an entry that stands for a row is that row
entry_of_row : (entry y : ℕ) → row_of entry ≡ Some y → entry ≡ y
entry_of_row entry y is = elim (cases_eq entry 65535) [
  | inl mark ↦ let none = row_of-none entry mark in let impossible : None ≡ Some y = cc in
      absurd (cc)
  | inr plain ↦ let some = row_of-some entry plain in let same : Some entry ≡ Some y = cc in cc
]

-- a cell is an obstacle exactly where its entry is its own row
entry_tells : (cells : Cells) (x y entry : ℕ) → y < 65535 → IsNearestRow cells x y (row_of entry)
    → (black : Bool) → has cells x y ≡ black → (entry == y) ≡ black
entry_tells cells x y entry small nearest true is =
    let same = entry_of_row entry y (nearest_of_obstacle cells x y (row_of entry) is nearest) in
    eq-eqb entry y same
entry_tells cells x y entry small nearest false is = elim (cases_eq entry y) [
  | inl same ↦
      let row : row_of entry ≡ Some y = rw same (row_of-some y (λ mark. omega arith)) in
      absurd (nearest_of_free cells x y is (rw row at nearest))
  | inr apart ↦ ne_eqb entry y apart
]

-- once all rows have their entries the table stands for the bitmap
pub cells_tabled-all : (cells : Cells) (width height : ℕ) (edge : Edge) (entries : List ℕ)
    → IsBitmap cells → width ≡ cells.width → height ≡ cells.height
    → HasRows cells edge cells.width cells.height entries
    → cells_tabled width height edge entries ≡ cells
cells_tabled-all cells width height edge entries bitmap width_is height_is rows =
    let few = bitmap.height_is.few in
    let least = shift_few edge in
    rw (width_is, height_is)
    (cells_where-same cells.width cells.height
    (λ x y. get_or entries (place_in cells.width edge x y) 0 == y + shift edge) (has cells)
    (λ x y column row.
    let nearest = rows.each (x + shift edge) y (omega (arith, column)) row in
    entry_tells (framed edge cells) (x + shift edge) (y + shift edge)
    (get_or entries (place_in cells.width edge x y) 0) (omega (arith, row, few, least)) nearest
    (has cells x y) (has-framed edge cells x y column row))
    ∙ sym (cells_where-has cells bitmap))

-- once all rows have their entries these are a table of nearest rows of the bitmap
pub IsTabled-all : (cells : Cells) (width height : ℕ) (edge : Edge) (entries : List ℕ)
    → IsBitmap cells → width ≡ cells.width → height ≡ cells.height
    → length entries ≡ cells.height * (cells.width + 2 * shift edge)
    → HasRows cells edge cells.width cells.height entries → IsTabled width height edge entries
IsTabled-all cells width height edge entries bitmap width_is height_is many rows =
    let tabled = cells_tabled-all cells width height edge entries bitmap width_is height_is rows in
    record {
      width_is = rw width_is bitmap.width_is;
      height_is = rw height_is bitmap.height_is;
      as_many = rw (width_is, height_is) many;
      rows = rw (tabled, width_is, height_is) rows;
    }

-- a further row has its entries once they are put in their place
pub HasRows-more : (cells : Cells) (edge : Edge) (y : ℕ) (line old new : List ℕ)
    → IsRowOfTable (framed edge cells) (y + shift edge) line
    → ((x : ℕ) → x < length line
    → get_or new (y * (cells.width + 2 * shift edge) + x) 0 ≡ get_or line x 0)
    → ((k : ℕ) → (k < y * (cells.width + 2 * shift edge))
    ⊎ (y * (cells.width + 2 * shift edge) + length line ≤ k) → get_or new k 0 ≡ get_or old k 0)
    → HasRows cells edge cells.width y old → HasRows cells edge cells.width (y + 1) new
HasRows-more cells edge y line old new row copied others rows =
    let wide = (framed_size edge cells).0 in
    let across : ℕ = cells.width + 2 * shift edge in
    record {
      each = λ x b column below. elim (cases_lt b y) [
        | inl above ↦ rw (others (b * across + x) (inl (place_above b y across x above column)))
            (rows.each x b column above)
        | inr high ↦
            let here : b ≡ y = omega (arith, high, below) in
            let within : x < (framed edge cells).width = rw wide column in
            rw (here, copied x (rw row.as_many within)) (row.each x within)
      ];
    }

-- what a table stands for is a bitmap
pub IsBitmap-cells_tabled : (width height : ℕ) (edge : Edge) (entries : List ℕ)
    → IsTabled width height edge entries → IsBitmap (cells_tabled width height edge entries)
IsBitmap-cells_tabled width height edge entries tabled =
    IsBitmap-cells_where width height
    (λ x y. get_or entries (place_in width edge x y) 0 == y + shift edge) tabled.width_is
    tabled.height_is

-- a bitmap is given its border
abbrev pub bordered : Cells → Edge → Bordered
bordered cells edge = record { cells = cells; edge = edge }
