-- What a search knows of the obstacles that it leaves out and of those that it meets.
use Rattle.std.proofs.Common.{◌≡◌, ℕ, ◌+◌, ◌-◌, ◌*◌, ◌/◌, ◌<◌, ◌≤◌, min, inl, inr, get_or, refl, sym}
use Rattle.std.proofs.Common.{subst, ◌⊎◌, ◌∙◌, arith}
use Rattle.std.proofs.lemmas.Bool.{cases_lt}
use Rattle.metric.specs.Crossing.{StaysNearer}
use Rattle.metric.specs.Distance.{Grows}
use Rattle.metric.specs.declared.rect.Rect.{Rect}
use Rattle.metric.proofs.Growing.{of_grows}
use Rattle.bits.specs.Cells.{Cells, IsBitmap, IsObstacle}
use Rattle.clearance.specs.Rows.{IsMarked, words_of_row}
use Rattle.clearance.specs.Search.{column_gap, row_gap}
use Rattle.clearance.specs.Seekers.{Aim, AreAsFarBands, AreObstacles, IsBeyond}
use Rattle.clearance.specs.Seekers.{IsOnward, IsPartOf}
use Rattle.clearance.specs.declared.outwards.Bands.{Bands}
use Rattle.clearance.specs.Spots.{IsInTile, IsInTileRows, IsInWord}
use Rattle.clearance.proofs.RowWords.{IsRowOf-words}
use Rattle.clearance.proofs.Searches.{marked_obstacle, obstacle_marked, obstacle_within}

-- a cell this many columns and rows outside, or more, is beyond their distance
pub IsBeyond-cell : (distance : ℕ → ℕ → ℕ) → Grows distance → StaysNearer distance
    → (rect : Rect) (columns x gap a b : ℕ) → a < 4096 → b < 4096 → columns ≤ column_gap rect a
    → x ≤ a → gap ≤ row_gap rect b → IsBeyond distance rect (distance columns gap) x gap a b
IsBeyond-cell distance grows stays rect columns x gap a b column row apart right away =
    let edge = rect.has_cells.right in
    let bottom = rect.has_cells.bottom in
    record {
      column = column;
      row = row;
      far = of_grows distance grows stays columns (column_gap rect a) gap (row_gap rect b) apart
          (omega arith) away (omega arith);
      right = right;
      away = away;
    }

-- the bits of a row's word are obstacles
pub AreObstacles-word : (cells : Cells) (tile y word : ℕ)
    → word ≡ get_or (words_of_row cells y) tile 0 → AreObstacles cells tile y word
AreObstacles-word cells tile y word is = λ a b here.
    let marked : IsMarked (words_of_row cells y) a = rw (here.1, sym is) (here.2) in
    subst (λ (n : ℕ). IsObstacle cells a n) (sym here.0)
    (marked_obstacle cells y (words_of_row cells y) a (IsRowOf-words cells y) marked)

-- an obstacle of a row is a bit of its tile's word
pub IsInWord-obstacle : (cells : Cells) (tile y word a : ℕ) → IsBitmap cells
    → word ≡ get_or (words_of_row cells y) tile 0 → IsObstacle cells a y → a / 64 ≡ tile
    → IsInWord tile y word a y
IsInWord-obstacle cells tile y word a bitmap is obstacle here =
    let marked = obstacle_marked cells y (words_of_row cells y) a bitmap
    (IsRowOf-words cells y) obstacle in
    (refl, here, rw is (rw here at marked))

-- a row is no fewer rows outside a part of a rectangle
pub row_gap-part : (whole part : Rect) (b : ℕ) → IsPartOf whole part
    → row_gap whole b ≤ row_gap part b
row_gap-part whole part b within =
    let top = within.top in
    let bottom = within.bottom in
    omega arith

-- a seeker is onward of one that it is onward of by two steps
pub IsOnward-twice : {S : Type 0} (aim : Aim S) (cells : Cells) (first middle last : S)
    → IsOnward aim cells first middle → IsOnward aim cells middle last
    → IsOnward aim cells first last
IsOnward-twice aim cells first middle last before after = record {
  rect =
      let whole = before.rect in
      let part = after.rect in
      let left = whole.left in
      let top = whole.top in
      let right = whole.right in
      let bottom = whole.bottom in
      let more_left = part.left in
      let more_top = part.top in
      let more_right = part.right in
      let more_bottom = part.bottom in
      record { left = omega arith; top = omega arith; right = omega arith; bottom = omega arith };
  counted = λ rect is. after.counted rect (before.counted rect is);
  start = after.start ∙ before.start;
  settled = λ a b far. after.settled a b (before.settled a b far);
  kept = λ root kept. after.kept root (before.kept root kept);
}

-- how many rows a band lies outside a rectangle, if there is one
abbrev pub IsAsFar : Type 0 → Rect → ℕ → ℕ → Type 0
IsAsFar Some rect band rows =
    ((Some → ⊥) × (rows ≡ 4097))
    ⊎ ((rows ≤ 4096) × ((b : ℕ) → b / 64 ≡ band → rows ≤ row_gap rect b))

-- of the bands that are left, the nearest above and the nearest below are as far as any
pub AreAsFarBands-nearest : (left : Bands) (rect : Rect) (y up down gap : ℕ) → rect.y0 ≤ y
    → y < rect.y1 → left.above ≤ y / 64 → y / 64 ≤ left.below → left.below ≤ 64
    → IsAsFar (0 < left.above) rect (left.above - 1) up
    → IsAsFar (left.below < 64) rect left.below down
    → gap ≡ min up down → (gap ≡ 4097 → ⊥) → AreAsFarBands left rect gap
AreAsFarBands-nearest left rect y up down gap top bottom above below few of_up of_down gap_is some =
    record {
      few = elim of_up [
        | inl no_one ↦ elim of_down [
          | inl none ↦ absurd (some (omega (arith, no_one.1, none.1)))
          | inr one ↦ omega (arith, one.0)
        ]
        | inr one ↦ omega (arith, one.0)
      ];
      apart = λ b in_map here. elim here [
        | inl before ↦ elim of_up [
          | inl none ↦ absurd (none.0 (omega arith))
          | inr one ↦ omega (arith, one.1 (64 * (left.above - 1) + 63) (omega arith))
        ]
        | inr from ↦ elim of_down [
          | inl none ↦ absurd (none.0 (omega arith))
          | inr one ↦ elim (cases_lt left.below (b / 64)) [
            | inl later ↦ omega (arith, one.1 (64 * left.below + 63) (omega arith))
            | inr own ↦ omega (arith, one.1 b (omega arith))
          ]
        ]
      ];
    }

-- an obstacle of a tile is in the rows of its band up to the map's last
pub IsInTileRows-tile : (cells : Cells) (band tile end a b : ℕ) → IsBitmap cells
    → min cells.height (64 * band + 64) ≤ end → IsInTile cells band tile a b
    → IsInTileRows cells tile (64 * band) end a b
IsInTileRows-tile cells band tile end a b bitmap last here =
    let obstacle = here.0 in
    let within = (obstacle_within cells bitmap a b obstacle).1 in
    let own = here.1 in
    (obstacle, here.2, omega arith, omega arith)

-- columns of a tile and of those to the right of it lie as far outside a rectangle that has a column
-- in or left of the tile
pub apart_right : (rect : Rect) (tile columns x a : ℕ)
    → ((i : ℕ) → i / 64 ≡ tile → columns ≤ column_gap rect i)
    → rect.x0 ≤ x → x / 64 ≤ tile → tile ≤ a / 64 → columns ≤ column_gap rect a
apart_right rect tile columns x a apart inside from right =
    let last = apart (64 * tile + 63) (omega arith) in
    elim (cases_lt tile (a / 64)) [
      | inl later ↦ omega arith
      | inr own ↦ apart a (omega arith)
    ]

-- columns to the left of a tile lie as far outside a rectangle that has a column right of it
pub apart_left : (rect : Rect) (tile columns x a : ℕ)
    → ((i : ℕ) → i / 64 ≡ tile → columns ≤ column_gap rect i)
    → x < rect.x1 → tile < x / 64 → a / 64 ≤ tile → columns ≤ column_gap rect a
apart_left rect tile columns x a apart inside before left =
    let last = apart (64 * tile + 63) (omega arith) in omega arith

-- a rectangle is a part of itself
pub IsPartOf-same : (rect : Rect) → IsPartOf rect rect
IsPartOf-same rect =
    record { left = omega arith; top = omega arith; right = omega arith; bottom = omega arith }
