-- From the nearest row of a map with its frame, counted by natural numbers, to the nearest row by
-- spots.
use Rattle.std.proofs.Common.{◌≡◌, ℕ, zero, suc, ◌+◌, ℤ, pos, negsuc, ◌+ℤ◌, ◌≢◌, ◌≤◌, Option, Some}
use Rattle.std.proofs.Common.{None, inl, inr, refl, sym, subst, arith}
use Rattle.std.specs.Option.{option_map}
use Rattle.std.proofs.lemmas.Int.{ints}
use Rattle.metric.specs.Edge.{less_one, shift, spot_of}
use Rattle.metric.specs.declared.edge.Edge.{Edge}
use Rattle.metric.specs.declared.edge.Edge.TheVariants.{Open, Wall}
use Rattle.bits.specs.Cells.{Cells, IsBitmap, IsObstacle}
use Rattle.bits.specs.Edges.{IsBlocked, IsFramed, framed}
use Rattle.bits.proofs.Framing.{apart_less, blocked_framed, framed_blocked, framed_map, framed_wall}
use Rattle.bits.proofs.Framing.{less_most, wall_framed}
use Rattle.column.specs.Columns.{IsNearestRow, IsRowAtMost, row_of}
use Rattle.column.proofs.Nearest.{row_of-some}
use Rattle.column.specs.Spots.{IsNearestSpotRow, IsSpotRowAtMost}

-- where rows are counted without the frame, their order is that of their spots
at_most_open : (y r b : ℕ) → IsRowAtMost (y + 0) r b → IsSpotRowAtMost y (pos r) (pos b)
at_most_open y r b most =
    let same : y + 0 ≡ y = omega arith in
    let here : IsRowAtMost y r b = rw same at most in
    record {
      order = elim here.order [
        | inl less ↦ inl less
        | inr (far, upper) ↦ inr (far, omega (arith, ints, upper))
      ];
    }

-- where rows are counted with the frame, their order is that of their spots
at_most_wall : (y r b : ℕ) → IsRowAtMost (y + 1) r b → IsSpotRowAtMost y (less_one r) (less_one b)
at_most_wall y r b most =
    let here = apart_less y r in
    let there = apart_less y b in
    record {
      order = elim most.order [
        | inl less ↦ inl (omega (arith, here, there, less))
        | inr (far, upper) ↦ inr (omega (arith, here, there, far), less_most r b upper)
      ];
    }

-- a column without an obstacle has no spot of one
open_no : (cells : Cells) (x : ℕ) → ((b : ℕ) → IsObstacle cells x b → ⊥) → (b : ℤ)
    → IsBlocked cells Open (pos x) b → ⊥
open_no cells x none (pos b) black = none b black
open_no cells x none (negsuc b) impossible = impossible

-- a row that comes before all others of its column comes before their spots
open_least : (cells : Cells) (x y r : ℕ)
    → ((b : ℕ) → IsObstacle cells x b → IsRowAtMost (y + 0) r b) → (b : ℤ)
    → IsBlocked cells Open (pos x) b → IsSpotRowAtMost y (pos r) b
open_least cells x y r least (pos b) black = at_most_open y r b (least b black)
open_least cells x y r least (negsuc b) impossible = absurd impossible

-- two numbers that are equal once each is one less are equal
less_same : (n m : ℕ) → less_one n ≡ less_one m → m ≡ n
less_same zero zero same = refl
less_same zero (suc m) same = absurd (omega (arith, ints))
less_same (suc n) zero same = absurd (omega (arith, ints))
less_same (suc n) (suc m) same = omega (arith, ints)

-- what is said of all rows of a column that are obstacles, counted with the frame, holds of their
-- spots
by_count : (cells : Cells) (x : ℕ) (P : ℤ → Type 0) → IsBitmap cells
    → ((b : ℕ) → IsObstacle (framed Wall cells) x b → P (less_one b)) → (b : ℤ)
    → IsBlocked cells Wall (less_one x) b → P b
by_count cells x P bitmap each b black =
    let counted = blocked_framed cells (less_one x) b black in
    let same = less_same x counted.a counted.column in
    subst P (sym counted.row)
    (each counted.b (framed_wall cells x counted.b bitmap
    (subst (λ (n : ℕ). IsFramed cells n counted.b) same counted.framed)))

-- the nearest row of a column, counted with the frame, is its nearest row by spots
pub spot_row : (edge : Edge) (cells : Cells) (x y : ℕ) (row : Option ℕ) → IsBitmap cells
    → IsNearestRow (framed edge cells) x (y + shift edge) row
    → IsNearestSpotRow cells edge (spot_of edge x 0).x y
    (option_map (λ r. (spot_of edge x r).y) row)
spot_row Open cells x y None bitmap none = open_no cells x none
spot_row Open cells x y (Some row) bitmap nearest = (nearest.0, open_least cells x y row nearest.1)
spot_row Wall cells x y None bitmap none = by_count cells x (λ b. ⊥) bitmap none
spot_row Wall cells x y (Some row) bitmap nearest = (
  framed_blocked cells x row (wall_framed cells x row nearest.0),
  by_count cells x (λ b. IsSpotRowAtMost y (less_one row) b) bitmap
      (λ b black. at_most_wall y row b (nearest.1 b black)),
)

-- a column that is counted with the frame is that of the spot
pub spot_column : (edge : Edge) (x : ℕ) (column : ℤ) → pos x ≡ (column +ℤ pos (shift edge))
    → (spot_of edge x 0).x ≡ column
spot_column Open x column same = omega (arith, ints, same)
spot_column Wall zero column same = omega (arith, ints, same)
spot_column Wall (suc x) column same = omega (arith, ints, same)

-- a row that an entry of a map stands for is small
pub entry_small : (edge : Edge) (cells : Cells) (x y : ℕ) (entry : ℕ) → IsBitmap cells
    → IsNearestRow (framed edge cells) x y (row_of entry) → entry ≢ 65535 → entry ≤ 4097
entry_small edge cells x y entry bitmap nearest some =
    let found : IsNearestRow (framed edge cells) x y (Some entry) =
    rw (row_of-some entry some) at nearest in
    let map = framed_map edge cells bitmap in
    let inside = (map.inside x entry found.0).row in
    let few = map.height_few in
    omega (arith, inside, few)
