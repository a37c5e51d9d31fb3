-- How far the obstacles of a word lie outside a rectangle.
use Rattle.std.proofs.Common.{◌≡◌, ℕ, ◌+◌, ◌-◌, ◌*◌, ◌/◌, ◌%◌, ◌^◌, ◌<◌, ◌≤◌, min, inl, inr, refl}
use Rattle.std.proofs.Common.{sym, arith}
use Rattle.std.specs.Int.{bit_at}
use Rattle.std.specs.Int.Count.{count_leading_zeros}
use Rattle.std.proofs.lemmas.Bool.{cases_eq, cases_lt}
use Rattle.metric.specs.Crossing.{StaysNearer}
use Rattle.metric.specs.Distance.{Grows}
use Rattle.metric.specs.declared.rect.Rect.{Rect}
use Rattle.metric.proofs.Growing.{of_grows_with_dx}
use Rattle.bits.specs.Cells.{Cells, IsBitmap, IsObstacle}
use Rattle.clearance.specs.Rows.{IsFar}
use Rattle.clearance.specs.Search.{IsLeastInBits, column_gap, rect_distance, row_gap}
use Rattle.clearance.specs.Seekers.{AreObstacles, IsColumnOf, IsLeastKept}
use Rattle.clearance.specs.Spots.{AreParts, IsInWord}
use Rattle.clearance.proofs.Bits.{bit_at-leading_zeros}
use Rattle.clearance.proofs.Searches.{IsLeastBelow-all, row_within}
use Rattle.std.proofs.lemmas.Grind.{common_steps}
use Rattle.std.proofs.lemmas.Bool.Decides.{nat_tests}

-- 0 has no bit
pub bit_at-zero : (i : ℕ) → bit_at 0 i ≡ 1 → ⊥
bit_at-zero i one = grind (arith, nat_tests, common_steps)

-- a word that has a bit, but none in its left part, has one in its right part
pub right_some : (tile x word left right : ℕ) → 0 < word → word < 2 ^ 64
    → AreParts tile x word left right → left ≡ 0 → 0 < right
right_some tile x word left right some fits parts none =
    let bit : ℕ = 63 - count_leading_zeros 64 word in
    let top = bit_at-leading_zeros word some fits in
    let few = top.0 in
    let place : (64 * tile + bit) / 64 ≡ tile = omega arith in
    let part : (64 * tile + bit) % 64 ≡ bit = omega arith in
    let marked : bit_at word ((64 * tile + bit) % 64) ≡ 1 = rw part (top.1) in
    let both = parts.all (64 * tile + bit) place marked in
    elim (cases_lt (64 * tile + bit) x) [
      | inl before ↦ absurd (bit_at-zero ((64 * tile + bit) % 64) (rw none at (both.0 before)))
      | inr from ↦ elim (cases_eq right 0) [
        | inl zero ↦ absurd (bit_at-zero ((64 * tile + bit) % 64) (rw zero at (both.1 from)))
        | inr other ↦ omega arith
      ]
    ]

-- the nearer one of the columns of a word's parts is one of the word's
pub IsColumnOf-both : (rect : Rect) (tile x word left right before after columns : ℕ)
    → AreParts tile x word left right → IsColumnOf rect tile left before
    → IsColumnOf rect tile right after → columns ≡ min before after
    → IsColumnOf rect tile word columns
IsColumnOf-both rect tile x word left right before after columns parts on_left on_right is =
    let l = on_left.columns_is in
    let r = on_right.columns_is in
    elim (cases_lt before after) [
      | inl less ↦ record {
        a = on_left.a;
        here = on_left.here;
        bit = parts.left_is (on_left.a % 64) (omega arith) on_left.bit;
        columns_is = omega arith;
      }
      | inr more ↦ record {
        a = on_right.a;
        here = on_right.here;
        bit = parts.right_is (on_right.a % 64) (omega arith) on_right.bit;
        columns_is = omega arith;
      }
    ]

-- the obstacles of a word are as far as its nearest column
pub word_far : (distance : ℕ → ℕ → ℕ) → StaysNearer distance
    → (rect : Rect) (tile y word columns gap limit : ℕ) → tile < 64 → y < 4096
    → ((a : ℕ) → a / 64 ≡ tile → bit_at word (a % 64) ≡ 1 → columns ≤ column_gap rect a)
    → gap ≡ row_gap rect y → limit ≤ distance columns gap → limit < 2 ^ 32
    → (a b : ℕ) → IsInWord tile y word a b → IsFar (rect_distance distance rect a b) limit
word_far distance stays rect tile y word columns gap limit few row apart gap_is low small a b here =
    let place = here.1 in
    let same = here.0 in
    let near = apart a here.1 here.2 in
    let edge = rect.has_cells.right in
    let bottom = rect.has_cells.bottom in
    let gap_there : gap ≡ row_gap rect b = omega arith in
    let grown = of_grows_with_dx distance stays columns (column_gap rect a) gap near (omega arith)
    (omega arith) in
    record { not_below = rw (sym gap_there) (omega arith); is_limit = small }

-- the least so far is lowered by the distance of a word's nearest obstacle
pub IsLeastKept-word : (distance : ℕ → ℕ → ℕ) (cells : Cells) (whole : Rect) (limit : ℕ)
    (rect : Rect) (least tile y word columns gap lower : ℕ) → AreObstacles cells tile y word
    → IsColumnOf rect tile word columns → gap ≡ row_gap rect y
    → lower ≡ min least (distance columns gap)
    → IsLeastKept distance cells whole limit rect least
    → IsLeastKept distance cells whole limit rect lower
IsLeastKept-word distance cells whole limit rect least tile y word columns gap lower obstacles column
    gap_is lower_is kept =
    let before = kept.within in
    record {
      rect_is = kept.rect_is;
      within = omega arith;
      reached = λ less. elim (cases_lt (distance columns gap) least) [
        | inl nearer ↦ record {
          a = column.a;
          b = y;
          obstacle = obstacles column.a y (refl, column.here, column.bit);
          distance_is = rw (sym kept.rect_is, column.columns_is, sym gap_is) (omega arith);
        }
        | inr same ↦
            let equal : lower ≡ least = omega arith in
            rw equal (kept.reached (omega arith))
      ];
    }

-- once all obstacles are settled, the least so far is the least
pub IsLeastInBits-kept : (distance : ℕ → ℕ → ℕ) → Grows distance → StaysNearer distance
    → (cells : Cells) (rect : Rect) (limit : ℕ) (last : Rect) (least : ℕ) → IsBitmap cells
    → IsLeastKept distance cells rect limit last least
    → ((a b : ℕ) → IsObstacle cells a b → IsFar (rect_distance distance last a b) least)
    → IsLeastInBits distance (IsObstacle cells) rect limit least
IsLeastInBits-kept distance grows stays cells rect limit last least bitmap kept far =
    IsLeastBelow-all distance grows stays cells rect (λ b. b < 4096) limit least bitmap
    (row_within cells bitmap) (record {
      within = kept.within;
      far = λ a b obstacle row. rw (sym kept.rect_is) (far a b obstacle);
      reached = kept.reached;
    })

-- no obstacle of a word is left of its lowest bit
pub lowest_first : (word tile low a : ℕ) → ((i : ℕ) → i < low → bit_at word i ≡ 0)
    → a / 64 ≡ tile → bit_at word (a % 64) ≡ 1 → 64 * tile + low ≤ a
lowest_first word tile low a none here bit = elim (cases_lt (a % 64) low) [
  | inl before ↦ let zero = none (a % 64) before in absurd (omega arith)
  | inr from ↦ omega arith
]
