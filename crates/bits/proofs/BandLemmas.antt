-- A write to a bitmap keeps each obstacle in a band and a tile whose bits are 1.
use Rattle.std.proofs.Common.{◌≡◌, ℕ, ◌+◌, ◌-◌, ◌*◌, ◌/◌, ◌%◌, ◌^◌, ◌<◌, ◌==◌}
use Rattle.std.proofs.Common.{inl, inr, refl, replicate, get_or, List, if◌then◌else◌, Bool}
use Rattle.std.proofs.Common.{true, false, sym, ap, ◌∙◌, arith}
use Rattle.std.specs.Int.{bit_at}
use Rattle.std.proofs.lemmas.Bool.{cases_Bool, cases_lt}
use Rattle.std.proofs.Math.ListN.{get_or-eq_default}
use Rattle.std.proofs.lemmas.List.{get_or-replicate, length-replicate}
use Rattle.std.proofs.lemmas.Nat.Bits.{bit_at-zero, bit_at-lt, bit_at_or, bit_at_ones}
use Rattle.std.specs.Int.RustNames.{bit_or}
use Rattle.bits.specs.Bands.{IsBanded, AreBandsKept, AreTiled, IsTiled}
use Rattle.bits.specs.Cells.{Cells, has, cells_where, IsSide, IsBitmap, IsObstacle}
use Rattle.bits.specs.Stored.{cells_stored, IsStored}
use Rattle.bits.specs.Words.{words_across}
use Rattle.bits.proofs.CellsLemmas.{cells_where-same, has-cells_where, has-outside}
use Rattle.bits.proofs.CellsLemmas.{IsBitmap-cells_where}
use Rattle.bits.proofs.StoredLemmas.{IsBitmap-cells_stored}

-- the band and the tile of a cell have their bits
abbrev pub IsMarked : ℕ → List ℕ → ℕ → ℕ → Type 0
IsMarked bands tiles a b =
    (bit_at bands (b / 64) ≡ 1) × (bit_at (get_or tiles (b / 64) 0) (a / 64) ≡ 1)

-- a bitmap that is written by a test keeps its bands, where each cell that it makes an obstacle has
-- its bits then, and each other obstacle has them still
pub kept_written : (width height : ℕ) (old now : List ℕ) (bands next : ℕ) (tiles marks : List ℕ)
    (test value : ℕ → ℕ → Bool)
    → AreBandsKept width height old bands tiles → IsStored width height now
    → cells_stored width height now ≡ cells_where width height
    (λ a b. if test a b then value a b else has (cells_stored width height old) a b)
    → ((a b : ℕ) → a < width → b < height → test a b ≡ true → value a b ≡ true
    → IsMarked next marks a b)
    → ((a b : ℕ) → a < width → b < height → test a b ≡ false → IsMarked bands tiles a b
    → IsMarked next marks a b)
    → AreBandsKept width height now next marks
kept_written width height old now bands next tiles marks test value before stored is come stay =
    record {
      stored = stored;
      banded = λ a b one. (marked a b one).0;
      tiled = λ a b one. (marked a b one).1;
    }
  where
    marked : (a b : ℕ) → IsObstacle (cells_stored width height now) a b → IsMarked next marks a b
    marked a b one =
        let inside = has-outside _ (IsBitmap-cells_stored width height now stored) a b one in
        let told = sym (has-cells_where width height (λ a b. if test a b then value a b
        else has (cells_stored width height old) a b) a b inside.column inside.row)
        ∙ (ap (λ (cells : Cells). has cells a b) (sym is) ∙ one) in
        elim (cases_Bool (test a b)) [
          | inl passed ↦ come a b inside.column inside.row passed (rw passed at told)
          | inr failed ↦ stay a b inside.column inside.row failed
              (before.banded a b (rw failed at told), before.tiled a b (rw failed at told))
        ]

-- a bit that was joined before
pub joined_before : (all word i : ℕ) → bit_at all i ≡ 1 → bit_at (bit_or all word) i ≡ 1
joined_before all word i one = grind (arith, bit_at-lt, bit_at_or)

-- a bit of a word that is joined to others is set
pub joined_here : (all word i : ℕ) → bit_at word i ≡ 1 → bit_at (bit_or all word) i ≡ 1
joined_here all word i one = grind (arith, bit_at-lt, bit_at_or)

-- where there is no obstacle, no band needs a bit
IsBanded-none : (width height bands : ℕ) → IsSide width → IsSide height
    → IsBanded (cells_where width height (λ x y. false)) bands
IsBanded-none width height bands wide high =
    grind (arith, has-outside, IsBitmap-cells_where, has-cells_where)

-- where there is no obstacle, no tile needs a bit
AreTiled-none : (width height : ℕ) (tiles : List ℕ) → IsSide width → IsSide height
    → AreTiled (cells_where width height (λ x y. false)) tiles
AreTiled-none width height tiles wide high =
    grind (arith, has-outside, IsBitmap-cells_where, has-cells_where)

-- a word that is 0 has no cell
no_cell : (word i : ℕ) → word ≡ 0 → (bit_at word i == 1) ≡ false
no_cell word i zero = let nil : bit_at word i ≡ 0 = rw zero (bit_at-zero i) in rw nil refl

-- each number of a list of zeros is 0
pub read_none : (count k : ℕ) → ◌≡◌ {A = ℕ} (get_or (replicate count 0) k 0) 0
read_none count k = elim (cases_lt k count) [
  | inl within ↦ get_or-replicate count k 0 0 within
  | inr past ↦ get_or-eq_default (replicate count 0) 0
      (omega (arith, length-replicate {A = ℕ} count 0))
]

-- where all words are 0 there is no obstacle
pub cells_stored-none : (width height count : ℕ) (words : List ℕ) → words ≡ replicate count 0
    → cells_stored width height words ≡ cells_where width height (λ x y. false)
cells_stored-none width height count words none =
    grind (arith, cells_where-same, no_cell, read_none)

-- where all words are 0 no band needs a bit
pub IsKept-none : (width height count : ℕ) (words tiles : List ℕ) → IsSide width → IsSide height
    → words ≡ replicate count 0 → count ≡ height * words_across width
    → AreBandsKept width height words 0 tiles
IsKept-none width height count words tiles wide high none many = record {
  stored = record {
    width_is = wide;
    height_is = high;
    as_many = rw none (length-replicate {A = ℕ} count 0) ∙ many;
    edge = λ x y past room row. rw none
        (no_cell _ (x % 64) (read_none count (y * words_across width + x / 64)));
  };
  banded = rw (cells_stored-none width height count words none)
      (IsBanded-none width height 0 wide high);
  tiled = rw (cells_stored-none width height count words none)
      (AreTiled-none width height tiles wide high);
}

-- where each tile has a bit, nothing is known
pub IsTiled-all : (cells : Cells) (band : ℕ) → IsBitmap cells → IsTiled cells band (2 ^ 64 - 1)
IsTiled-all cells band bitmap = λ x y obstacle here.
    let inside = has-outside cells bitmap x y obstacle in
    bit_at_ones 64 (x / 64) (omega arith)

-- where each band has a bit, nothing is known
pub IsBanded-all : (cells : Cells) → IsBitmap cells → IsBanded cells (2 ^ 64 - 1)
IsBanded-all cells bitmap = λ x y obstacle.
    let inside = has-outside cells bitmap x y obstacle in
    bit_at_ones 64 (y / 64) (omega arith)
