-- One row's entries are found by looking at the rows from it outwards.
use Rattle.std.proofs.Common.{◌≡◌, ◌≢◌, ℕ, ◌+◌, ◌-◌, ◌/◌, ◌%◌, ◌<◌, ◌≤◌, ◌==◌, ◌∙◌, inl, inr, Bool}
use Rattle.std.proofs.Common.{true, false, List, Option, Some, None, length, get_or, arith, refl}
use Rattle.std.proofs.Common.{sym, ap}
use Rattle.std.specs.Int.{abs_diff, bit_at}
use Rattle.std.proofs.Math.ListN.{replicate}
use Rattle.std.proofs.lemmas.List.{get_or-replicate, length-replicate}
use Rattle.std.proofs.lemmas.Nat.Bits.{bit_at_ones}
use Rattle.std.proofs.lemmas.Bool.{cases_lt, cases_eq}
use Rattle.std.proofs.lemmas.Bool.Decides.{nat_tests}
use Rattle.bits.specs.Cells.{Cells, has}
use Rattle.bits.specs.Edges.{IsMap}
use Rattle.column.specs.Columns.{IsNearestRow, IsRowOfTable, row_of}
use Rattle.column.specs.Marks.{AreMissing, IsNearestWithin, IsSeen, first_marked}
use Rattle.column.proofs.Nearest.{row_of-none, row_of-some, IsRowAtMost-by}

-- a mask of ones tells of each entry without a row that it stands for none
all_ones : (mask i entry : ℕ) → mask ≡ 18446744073709551615 → i < 64 → entry ≡ 65535
    → (bit_at mask i == 1) ≡ (entry == 65535)
all_ones mask i entry ones place none = let one = bit_at_ones 64 i place in
    rw (ones, none, one) refl

-- an entry that stands for a row stays
pub first_marked-some : (black : Bool) (y entry : ℕ) → entry ≢ 65535
    → first_marked black y entry ≡ entry
first_marked-some black y entry some = grind (arith, nat_tests)

-- an entry stays at a free cell
pub first_marked-free : (black : Bool) (y entry : ℕ) → black ≡ false
    → first_marked black y entry ≡ entry
first_marked-free black y entry free = grind (arith, nat_tests)

-- an entry that stands for no row becomes the row of an obstacle
pub first_marked-black : (black : Bool) (y entry : ℕ) → entry ≡ 65535 → black ≡ true
    → first_marked black y entry ≡ y
first_marked-black black y entry none is = grind (arith, nat_tests)

-- the first obstacle that is met above is the nearest
met_above : (cells : Cells) (x y away : ℕ) → away ≤ y → has cells x (y - away) ≡ true
    → IsNearestWithin cells x y away None → IsNearestRow cells x y (Some (y - away))
met_above cells x y away within black none = (
  black,
  λ b other.
      let far : away ≤ abs_diff y b = elim (cases_lt (abs_diff y b) away)
      [ inl near ↦ absurd (none b near other) | inr far ↦ far ] in
      IsRowAtMost-by y (y - away) b (omega arith) (λ same. omega arith),
)

-- the first obstacle that is met below is the nearest, where the row as far above has none
met_below : (cells : Cells) (x y away : ℕ) → (away ≤ y → has cells x (y - away) ≡ false)
    → has cells x (y + away) ≡ true → IsNearestWithin cells x y away None
    → IsNearestRow cells x y (Some (y + away))
met_below cells x y away free black none = (
  black,
  λ b other.
      let far : away ≤ abs_diff y b = elim (cases_lt (abs_diff y b) away)
      [ inl near ↦ absurd (none b near other) | inr far ↦ far ] in
      IsRowAtMost-by y (y + away) b (omega arith) (λ same.
      elim (cases_lt b (y + away)) [
        | inl upper ↦
            let within : away ≤ y = omega arith in
            let place : b ≡ y - away = omega arith in
            let no = free within in absurd (cc)
        | inr lower ↦ lower
      ]),
)

-- where neither of the two rows so far away has an obstacle, there is none a row farther
met_none : (cells : Cells) (x y away : ℕ) → (away ≤ y → has cells x (y - away) ≡ false)
    → ((b : ℕ) → b ≡ y + away → has cells x b ≡ true → ⊥) → IsNearestWithin cells x y away None
    → IsNearestWithin cells x y (away + 1) None
met_none cells x y away above below none = λ b near other.
    elim (cases_lt (abs_diff y b) away) [
      | inl nearer ↦ none b nearer other
      | inr far ↦ elim (cases_lt y b) [
        | inl lower ↦ below b (omega arith) other
        | inr upper ↦
            let within : away ≤ y = omega arith in
            let place : b ≡ y - away = omega arith in
            let no = above within in absurd (cc)
      ]
    ]

-- where the row so far above has no obstacle, an entry is right one row farther once the row as far
-- below is searched
next_below : (cells : Cells) (x y away mid new : ℕ) → IsMap cells → y < cells.height → mid ≡ 65535
    → IsNearestWithin cells x y away None
    → (away ≤ y → has cells x (y - away) ≡ false)
    → (y + away < cells.height → new ≡ first_marked (has cells x (y + away)) (y + away) mid)
    → (cells.height ≤ y + away → new ≡ mid)
    → (black : Bool) → has cells x (y + away) ≡ black
    → IsNearestWithin cells x y (away + 1) (row_of new)
next_below cells x y away mid new map row none was free below below_not true is =
    let inside = map.inside x (y + away) is in
    let within = inside.row in
    let few = map.height_few in
    let met : new ≡ y + away = below within
    ∙ first_marked-black (has cells x (y + away)) (y + away) mid none is in
    let small : y + away ≢ 65535 = λ same. absurd (omega arith) in
    rw (met, row_of-some (y + away) small) (met_below cells x y away free is was)
next_below cells x y away mid new map row none was free below below_not false is =
    let still : new ≡ 65535 = elim (cases_lt (y + away) cells.height) [
      | inl within ↦ below within
          ∙ (first_marked-free (has cells x (y + away)) (y + away) mid is ∙ none)
      | inr out ↦ below_not out ∙ none
    ] in
    rw (row_of-none new still)
    (met_none cells x y away free (λ b place other. let there : has cells x (y + away) ≡ true =
    rw (sym place) other in absurd (cc)) was)

-- where the row so far above is in the map, an entry is right one row farther once both rows so far
-- away are searched
next_within : (cells : Cells) (x y away old mid new : ℕ) → IsMap cells → y < cells.height
    → old ≡ 65535 → away ≤ y → IsNearestWithin cells x y away None
    → mid ≡ first_marked (has cells x (y - away)) (y - away) old
    → (y + away < cells.height → new ≡ first_marked (has cells x (y + away)) (y + away) mid)
    → (cells.height ≤ y + away → new ≡ mid)
    → (black : Bool) → has cells x (y - away) ≡ black
    → IsNearestWithin cells x y (away + 1) (row_of new)
next_within cells x y away old mid new map row none within was above below below_not true is =
    let few = map.height_few in
    let met : mid ≡ y - away = above
    ∙ first_marked-black (has cells x (y - away)) (y - away) old none is in
    let small : mid ≢ 65535 = λ same. absurd (omega arith) in
    let small_row : y - away ≢ 65535 = λ same. absurd (omega arith) in
    let still : new ≡ y - away = elim (cases_lt (y + away) cells.height) [
      | inl inside ↦ below inside
          ∙ (first_marked-some (has cells x (y + away)) (y + away) mid small ∙ met)
      | inr out ↦ below_not out ∙ met
    ] in
    rw (still, row_of-some (y - away) small_row) (met_above cells x y away within is was)
next_within cells x y away old mid new map row none within was above below below_not false is =
    next_below cells x y away mid new map row
    (above ∙ (first_marked-free (has cells x (y - away)) (y - away) old is ∙ none)) was
    (λ _. is) below below_not (has cells x (y + away)) refl

-- an entry that stood for no row is right one row farther once the two rows so far away have been
-- searched
next_none : (cells : Cells) (x y away old mid new : ℕ) → IsMap cells → y < cells.height
    → old ≡ 65535 → IsNearestWithin cells x y away None
    → (away ≤ y → mid ≡ first_marked (has cells x (y - away)) (y - away) old)
    → (y < away → mid ≡ old)
    → (y + away < cells.height → new ≡ first_marked (has cells x (y + away)) (y + away) mid)
    → (cells.height ≤ y + away → new ≡ mid)
    → IsNearestWithin cells x y (away + 1) (row_of new)
next_none cells x y away old mid new map row none was above above_not below below_not =
    elim (cases_lt y away) [
      | inl out ↦ next_below cells x y away mid new map row (above_not out ∙ none) was
          (λ within. absurd (omega arith)) below below_not (has cells x (y + away)) refl
      | inr within ↦ next_within cells x y away old mid new map row none within was
          (above within) below below_not (has cells x (y - away)) refl
    ]

-- an entry is right one row farther once the two rows so far away have been searched
IsNearestWithin-next : (cells : Cells) (x y away old mid new : ℕ) → IsMap cells → y < cells.height
    → IsNearestWithin cells x y away (row_of old)
    → (away ≤ y → mid ≡ first_marked (has cells x (y - away)) (y - away) old)
    → (y < away → mid ≡ old)
    → (y + away < cells.height → new ≡ first_marked (has cells x (y + away)) (y + away) mid)
    → (cells.height ≤ y + away → new ≡ mid)
    → IsNearestWithin cells x y (away + 1) (row_of new)
IsNearestWithin-next cells x y away old mid new map row was above above_not below below_not =
    elim (cases_eq old 65535) [
      | inr some ↦
          let kept : mid ≡ old = elim (cases_lt y away) [
            | inl out ↦ above_not out
            | inr within ↦ above within
                ∙ first_marked-some (has cells x (y - away)) (y - away) old some
          ] in
          let some_mid : mid ≢ 65535 = λ none. some (sym kept ∙ none) in
          let still : new ≡ old = elim (cases_lt (y + away) cells.height) [
            | inl within ↦ below within
                ∙ (first_marked-some (has cells x (y + away)) (y + away) mid some_mid ∙ kept)
            | inr out ↦ below_not out ∙ kept
          ] in
          rw (still, row_of-some old some) (rw (row_of-some old some) at was)
      | inl none ↦ next_none cells x y away old mid new map row none
          (rw (row_of-none old none) at was) above above_not below below_not
    ]

-- before any row has been searched, every column is missing
pub IsSeen-none : (cells : Cells) (y : ℕ) (masks entries : List ℕ) → cells.width ≤ 4096
    → masks ≡ replicate 64 18446744073709551615 → entries ≡ replicate cells.width 65535
    → IsSeen cells y 0 masks entries
IsSeen-none cells y masks entries few all none =
    let many : length masks ≡ 64 = rw all (length-replicate {A = ℕ} 64 18446744073709551615) in
    let as_many : length entries ≡ cells.width =
    rw none (length-replicate {A = ℕ} cells.width 65535) in
    let empty = λ (x : ℕ) (h : x < cells.width). ap (λ (xs : List ℕ). get_or xs x 0) none
    ∙ get_or-replicate {A = ℕ} cells.width x 65535 0 h in
    record {
      as_many = as_many;
      room = omega arith;
      missing = λ x within.
          let column : x < cells.width = omega arith in
          let word : x / 64 < 64 = omega arith in
          let mask = ap (λ (xs : List ℕ). get_or xs (x / 64) 0) all
          ∙ get_or-replicate {A = ℕ} 64 (x / 64) 18446744073709551615 0 word in
          all_ones (get_or masks (x / 64) 0) (x % 64) (get_or entries x 0) mask (omega arith)
          (empty x column);
      nearest = λ x column. rw (row_of-none (get_or entries x 0) (empty x column))
          (λ b near black. absurd (omega arith));
    }

-- the entries of a row are right one row farther once the two rows so far away have been searched
pub IsSeen-next : (cells : Cells) (y away : ℕ) (masks new_masks old mid new : List ℕ) → IsMap cells
    → y < cells.height → IsSeen cells y away masks old
    → length mid ≡ length old → length new ≡ length mid → length new_masks ≡ length masks
    → AreMissing new_masks new
    → (away ≤ y → (x : ℕ) → x < cells.width
    → get_or mid x 0 ≡ first_marked (has cells x (y - away)) (y - away) (get_or old x 0))
    → (y < away → mid ≡ old)
    → (y + away < cells.height → (x : ℕ) → x < cells.width
    → get_or new x 0 ≡ first_marked (has cells x (y + away)) (y + away) (get_or mid x 0))
    → (cells.height ≤ y + away → new ≡ mid)
    → IsSeen cells y (away + 1) new_masks new
IsSeen-next cells y away masks new_masks old mid new map row seen mid_len new_len masks_len missing
    above above_not below below_not = record {
      as_many = new_len ∙ (mid_len ∙ seen.as_many);
      room = rw masks_len seen.room;
      missing = missing;
      nearest = λ x column.
          IsNearestWithin-next cells x y away (get_or old x 0) (get_or mid x 0)
          (get_or new x 0) map row
          (seen.nearest x column)
          (λ within. above within x column)
          (λ out. ap (λ (xs : List ℕ). get_or xs x 0) (above_not out))
          (λ within. below within x column)
          (λ out. ap (λ (xs : List ℕ). get_or xs x 0) (below_not out));
    }

-- once all rows have been searched, the nearest of all is known
nearest_of_all : (cells : Cells) (x y away : ℕ) (row : Option ℕ) → IsMap cells → y < cells.height
    → cells.height ≤ away → IsNearestWithin cells x y away row → IsNearestRow cells x y row
nearest_of_all cells x y away None map within all none =
    λ b black. let inside = map.inside x b black in let row = inside.row in
    none b (omega arith) black
nearest_of_all cells x y away (Some row) map within all nearest = nearest

-- once all rows have been searched, the entries are the row of the table
pub IsRowOfTable-seen : (cells : Cells) (y away : ℕ) (masks entries : List ℕ) → IsMap cells
    → y < cells.height → cells.height ≤ away → IsSeen cells y away masks entries
    → IsRowOfTable cells y entries
IsRowOfTable-seen cells y away masks entries map within all seen = record {
  as_many = seen.as_many;
  each = λ x column. nearest_of_all cells x y away (row_of (get_or entries x 0)) map within all
      (seen.nearest x column);
}
