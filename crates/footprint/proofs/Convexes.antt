-- A ring that is checked corner by corner.
use Rattle.std.proofs.Common.{◌≡◌, ℕ, zero, suc, ◌+◌, ◌<◌, ◌≤◌, ℤ, pos, List, [], ◌∷◌, drop, get_or}
use Rattle.std.proofs.Common.{length, sym, ◌∙◌, arith, Bool, true, false, cond, ◌-ℤ◌}
use Rattle.std.specs.Prelude.{int_lt, not, ◌&&◌}
use Rattle.std.specs.List.{All, list_all}
use Rattle.std.proofs.Common.{◌*◌, ◌/◌, subst, inl, inr}
use Rattle.std.proofs.Math.Nat.{mul-div-le, mul-le-mul_left}
use Rattle.std.proofs.lemmas.Bool.{and_left, and_parts, and_right, cases_eq}
use Rattle.std.proofs.lemmas.Int.{ints}
use Rattle.std.proofs.lemmas.List.{get_or-drop, get_or-take, length-take}
use mir.Val.{bool_byte}
use Rattle.footprint.specs.declared.corner.Corner.{Corner}
use Rattle.footprint.specs.Convex.{are_convex, goes_down, is_convex, is_near, polygon_at}
use Rattle.footprint.specs.Convex.{turns_down_from, turns_from}
use Rattle.footprint.specs.Polygon.{IsNear, cross}
use Rattle.footprint.proofs.Rings.{ring_step}

-- a near corner is one by the test
near_by_test : (a : Corner) → is_near a ≡ true → IsNear a
near_by_test a near = record {
  column = record { low = grind (arith, ints); high = grind (arith, ints) };
  row = record { low = grind (arith, ints); high = grind (arith, ints) };
}

-- each corner is near where all are by the test
near_at : (ring : List Corner) (k : ℕ) (d : Corner) → list_all is_near ring ≡ true
    → k < length ring → IsNear (get_or ring k d)
near_at [] k d all less = absurd (omega (arith, less))
near_at (a ∷ ring) zero d all less =
    near_by_test a (and_parts (is_near a) (list_all is_near ring) all).0
near_at (a ∷ ring) (suc k) d all less =
    near_at ring k d (and_parts (is_near a) (list_all is_near ring) all).1 (omega (arith, less))

-- all corners are near where they are by the test
pub IsNear-all : (ring : List Corner) → list_all is_near ring ≡ true → All IsNear ring
IsNear-all ring all = λ k d less. near_at ring k d all less

-- one turn more
pub turns_more : (ring : List Corner) (i : ℕ) (d from at : Corner) (all : Bool) → i < length ring
    → int_lt (pos 0) (cross from at (get_or ring i d).x (get_or ring i d).y) ≡ true
    → turns_from from at (drop i ring) ≡ all
    → turns_from at (get_or ring i d) (drop (i + 1) ring) ≡ all
turns_more ring i d from at all within turn before =
    let here : (int_lt (pos 0) (cross from at (get_or ring i d).x (get_or ring i d).y)
    && turns_from at (get_or ring i d) (drop (i + 1) ring)) ≡ all =
    rw (ring_step ring i d within) at before in
    rw turn at here

-- a test is 1 as a number where it holds, and 0 where it doesn't
pub number_of : (held test : Bool) (n : ℕ) → n ≡ bool_byte held → held ≡ test
    → (n ≡ cond test 1 0) × (n ≤ 1)
number_of true true n is same = (is, omega (arith, is))
number_of false false n is same = (is, omega (arith, is))
number_of true false n is same = absurd (grind arith)
number_of false true n is same = absurd (grind arith)

-- one side more that may lead down
pub turns_down_more : (ring : List Corner) (i : ℕ) (d from at : Corner) (count more all : ℕ)
    → i < length ring
    → more ≡ cond (goes_down at (get_or ring i d) && not (goes_down from at)) 1 0
    → count + turns_down_from from at (drop i ring) ≡ all
    → count + more + turns_down_from at (get_or ring i d) (drop (i + 1) ring) ≡ all
turns_down_more ring i d from at count more all within is before =
    let here : count + (cond (goes_down at (get_or ring i d) && not (goes_down from at)) 1 0
    + turns_down_from at (get_or ring i d) (drop (i + 1) ring)) ≡ all =
    rw (ring_step ring i d within) at before in
    omega (arith, here, is)

-- one number is less than another where the difference is above 0
pub less_by_difference : (left right : ℤ) → int_lt left right ≡ int_lt (pos 0) (right -ℤ left)
less_by_difference left right = grind (arith, ints)

-- where a polygon isn't convex, not all of more polygons than those before it are
pub not_convex : (corners : List Corner) (count k n : ℕ)
    → is_convex (polygon_at corners count k) ≡ false → k < n
    → are_convex corners count n ≡ false
not_convex corners count k zero bent less = absurd (omega (arith, less))
not_convex corners count k (suc n) bent less = elim (cases_eq k n) [
  | inl here ↦
      let own : is_convex (polygon_at corners count n) ≡ false = rw here at bent in
      and_right (are_convex corners count n) (is_convex (polygon_at corners count n)) own
  | inr earlier ↦ and_left (are_convex corners count n) (is_convex (polygon_at corners count n))
      (not_convex corners count k n bent (omega arith))
]

-- a polygon of some lies within their corners
pub polygon_within : (all count k : ℕ) → 0 < count → k < all / count → count * k + count ≤ all
polygon_within all count k some within =
    let few = mul-div-le all count in
    let more = mul-le-mul_left count within in
    omega (arith, few, more)

-- the corners of one of some polygons are near where all are
pub IsNear-polygon : (corners : List Corner) (count k : ℕ) → count * k + count ≤ length corners
    → All IsNear corners → All IsNear (polygon_at corners count k)
IsNear-polygon corners count k within near = λ i d less.
    let few : i < count = omega (arith, less, length-take count (drop (count * k) corners)) in
    subst IsNear
    (sym (get_or-take count (drop (count * k) corners) i d few ∙ get_or-drop (count * k) corners i d))
    (near (count * k + i) d (omega arith))
