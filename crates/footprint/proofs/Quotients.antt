-- The columns that a floored quotient bounds.
use Rattle.std.proofs.Common.{◌≡◌, ℕ, ◌+◌, ◌*◌, ◌<◌, ◌≤◌, ◌↔◌, ap}
use Rattle.std.proofs.Common.{◌∙◌, arith, ℤ, pos, negsuc, ◌+ℤ◌, ◌-ℤ◌, ◌*ℤ◌, neg_ℤ, ◌≤ℤ◌, ◌<ℤ◌}
use Rattle.std.proofs.Common.{unsigned_abs}
use Rattle.std.specs.Int.{int_div_euclid, int_max, int_min}
use Rattle.std.proofs.Math.Nat.{mul-le-mul_left}
use Rattle.std.proofs.lemmas.Int.{by_lt_z, clamps, ints}
use borrow.Author.Differences.{down, le_out, lt_out, up}
use Rattle.footprint.specs.Polygon.{line}
use Rattle.footprint.specs.Sides.{IsOn}
use Rattle.footprint.proofs.Multiples.{minus_is, scaled, some_scaled}

-- a floored quotient times its divisor is at most the number, and no less by a divisor
pub quotient_parts : (a : ℤ) (k : ℕ) → 0 < k
    → (up (int_div_euclid a (pos k)) * k + down a ≤ down (int_div_euclid a (pos k)) * k + up a)
    × (down (int_div_euclid a (pos k)) * k + up a < up (int_div_euclid a (pos k)) * k + down a + k)
quotient_parts (pos a) k h = omega arith
quotient_parts (negsuc a) k h = omega arith

-- a column is at most the floored quotient: its multiple is at most the number
pub at_most_quotient : (n x : ℤ) (k : ℕ) → 0 < k → (x ≤ℤ int_div_euclid n (pos k))
    → ((x *ℤ pos k) ≤ℤ n)
at_most_quotient n x k some less =
    let parts = quotient_parts n k some in
    let few : up x + down (int_div_euclid n (pos k)) ≤ up (int_div_euclid n (pos k)) + down x =
    omega (arith, ints, less) in
    let grown = mul-le-mul_left k few in
    omega (arith, ints, grown, parts)

-- a column is above the floored quotient: its multiple is above the number
pub above_quotient : (n x : ℤ) (k : ℕ) → 0 < k → (int_div_euclid n (pos k) <ℤ x)
    → (n <ℤ (x *ℤ pos k))
above_quotient n x k some more =
    let parts = quotient_parts n k some in
    let few : up (int_div_euclid n (pos k)) + down x + 1 ≤ up x + down (int_div_euclid n (pos k)) =
    omega (arith, ints, more) in
    let grown = mul-le-mul_left k few in
    omega (arith, ints, grown, parts)

-- a column is at most the floored quotient where its multiple is at most the number
pub at_most_both : (n x : ℤ) (k : ℕ) → 0 < k
    → (x ≤ℤ int_div_euclid n (pos k)) ↔ ((x *ℤ pos k) ≤ℤ n)
at_most_both n x k some = (
  at_most_quotient n x k some,
  λ within. by_lt_z (int_div_euclid n (pos k)) x
      (λ more.
      let over = above_quotient n x k some more in
      absurd (omega (arith, lt_out, le_out, over, within)))
      (λ less. less),
)

-- a column isn't before the floored quotient where the next column's multiple is above the number
pub before_both : (n x : ℤ) (k : ℕ) → 0 < k
    → (int_div_euclid n (pos k) ≤ℤ x) ↔ (n <ℤ ((x +ℤ pos 1) *ℤ pos k))
before_both n x k some = (
  λ less. above_quotient n (x +ℤ pos 1) k some (omega (arith, ints, less)),
  λ over. by_lt_z x (int_div_euclid n (pos k))
      (λ more.
      let within = at_most_quotient n (x +ℤ pos 1) k some (omega (arith, ints, more)) in
      absurd (omega (arith, lt_out, le_out, over, within)))
      (λ less. less),
)

-- the floored quotient is the last column that a side down leaves
pub last_is : (free dy r : ℤ) → (pos 0 <ℤ dy)
    → r ≡ int_div_euclid (free -ℤ pos 1) (dy *ℤ pos 65536)
    → (x : ℤ) → (x ≤ℤ r) ↔ ((x *ℤ pos (unsigned_abs dy * 65536)) ≤ℤ (free -ℤ pos 1))
last_is free dy r some e x =
    let is : r ≡ int_div_euclid (free -ℤ pos 1) (pos (unsigned_abs dy * 65536)) =
    e ∙ ap (int_div_euclid (free -ℤ pos 1)) (scaled dy some) in
    rw is (at_most_both (free -ℤ pos 1) x (unsigned_abs dy * 65536) (some_scaled dy some))

-- the floored quotient is the first column that a side up leaves
pub first_is : (free dy r : ℤ) → (dy <ℤ pos 0)
    → r ≡ int_div_euclid (neg_ℤ free) (neg_ℤ dy *ℤ pos 65536)
    → (x : ℤ) → (r ≤ℤ x) ↔ (neg_ℤ free <ℤ ((x +ℤ pos 1) *ℤ pos (unsigned_abs dy * 65536)))
first_is free dy r some e x =
    let rise : pos 0 <ℤ neg_ℤ dy = omega (arith, ints, some) in
    let same : unsigned_abs (neg_ℤ dy) ≡ unsigned_abs dy = omega (arith, ints) in
    let is : r ≡ int_div_euclid (neg_ℤ free) (pos (unsigned_abs (neg_ℤ dy) * 65536)) =
    e ∙ ap (int_div_euclid (neg_ℤ free)) (scaled (neg_ℤ dy) rise) in
    rw (is, ← same)
    (before_both (neg_ℤ free) x (unsigned_abs (neg_ℤ dy) * 65536) (some_scaled (neg_ℤ dy) rise))

-- the quotient of the code is the first column that a side up leaves
pub first_is_minus : (free dy r : ℤ) → (dy <ℤ pos 0)
    → r ≡ int_div_euclid (pos 0 -ℤ free) ((pos 0 -ℤ dy) *ℤ pos 65536)
    → (x : ℤ) → (r ≤ℤ x) ↔ (neg_ℤ free <ℤ ((x +ℤ pos 1) *ℤ pos (unsigned_abs dy * 65536)))
first_is_minus free dy r some e =
    first_is free dy r some
    (e ∙ ap (λ n. int_div_euclid n ((pos 0 -ℤ dy) *ℤ pos 65536)) (minus_is free)
    ∙ ap (λ n. int_div_euclid (neg_ℤ free) (n *ℤ pos 65536)) (minus_is dy))

-- the two floored quotients are the first and the last column of a range
pub range_is : (least most first last : ℤ) → first ≡ int_div_euclid least (pos 65536)
    → last ≡ int_div_euclid (most -ℤ pos 1) (pos 65536)
    → (x : ℤ) → IsOn first last x ↔ ((least <ℤ line (x +ℤ pos 1)) × (line x <ℤ most))
range_is least most first last first_is last_is x =
    let from = before_both least x 65536 (omega arith) in
    let to = at_most_both (most -ℤ pos 1) x 65536 (omega arith) in (
      λ on.
          let within = to.0 (rw (← last_is) on.before) in (
            from.0 (rw (← first_is) on.after),
            omega (arith, ints, within),
          ),
      λ both.
          let less = both.1 in
          record {
            after = rw first_is (from.1 both.0);
            before = rw last_is (to.1 (omega (arith, ints, less)));
          },
    )

-- a side down that the last column passes leaves the columns before it
pub last_kept : (free dy last : ℤ) → (pos 0 <ℤ dy) → (last *ℤ (dy *ℤ pos 65536)) <ℤ free
    → (x : ℤ) → (x ≤ℤ last) ↔ ((x ≤ℤ last)
    × ((x *ℤ pos (unsigned_abs dy * 65536)) ≤ℤ (free -ℤ pos 1)))
last_kept free dy last some within x =
    let k = unsigned_abs dy * 65536 in
    let here : (last *ℤ pos (unsigned_abs dy * 65536)) <ℤ free = rw (scaled dy some) at within in (
      λ less.
          let few : up x + down last ≤ up last + down x = omega (arith, ints, less) in
          let grown = mul-le-mul_left (unsigned_abs dy * 65536) few in
          (less, omega (arith, ints, grown, here)),
      λ both. both.0,
    )

-- the last column that is left is the lesser of two
pub last_lesser : (free dy last bound m : ℤ) → m ≡ int_min last bound
    → ((x : ℤ) → (x ≤ℤ bound) ↔ ((x *ℤ pos (unsigned_abs dy * 65536)) ≤ℤ (free -ℤ pos 1)))
    → (x : ℤ) → (x ≤ℤ m) ↔ ((x ≤ℤ last)
    × ((x *ℤ pos (unsigned_abs dy * 65536)) ≤ℤ (free -ℤ pos 1)))
last_lesser free dy last bound m is bounds x = (
  λ less. (
    omega (arith, ints, clamps, is, less),
    (bounds x).0 (omega (arith, ints, clamps, is, less)),
  ),
  λ both.
      let less = both.0 in
      let within = (bounds x).1 both.1 in
      omega (arith, ints, clamps, is, less, within),
)

-- a side up that the first column passes leaves the columns after it
pub first_kept : (free dy first : ℤ) → (dy <ℤ pos 0)
    → (pos 0 -ℤ free) <ℤ ((first +ℤ pos 1) *ℤ ((pos 0 -ℤ dy) *ℤ pos 65536))
    → (x : ℤ) → (first ≤ℤ x) ↔ ((first ≤ℤ x)
    × (neg_ℤ free <ℤ ((x +ℤ pos 1) *ℤ pos (unsigned_abs dy * 65536))))
first_kept free dy first some within x =
    let rise : pos 0 <ℤ neg_ℤ dy = omega (arith, ints, some) in
    let same : unsigned_abs (neg_ℤ dy) ≡ unsigned_abs dy = omega (arith, ints) in
    let here : neg_ℤ free <ℤ ((first +ℤ pos 1) *ℤ pos (unsigned_abs dy * 65536)) =
    rw (minus_is free, minus_is dy, scaled (neg_ℤ dy) rise, same) at within in (
      λ more.
          let few : up (first +ℤ pos 1) + down (x +ℤ pos 1)
          ≤ up (x +ℤ pos 1) + down (first +ℤ pos 1) =
          omega (arith, ints, more) in
          let grown = mul-le-mul_left (unsigned_abs dy * 65536) few in
          (more, omega (arith, ints, grown, here)),
      λ both. both.0,
    )

-- the first column that is left is the greater of two
pub first_greater : (free dy first bound m : ℤ) → m ≡ int_max first bound
    → ((x : ℤ) → (bound ≤ℤ x) ↔ (neg_ℤ free <ℤ ((x +ℤ pos 1) *ℤ pos (unsigned_abs dy * 65536))))
    → (x : ℤ) → (m ≤ℤ x) ↔ ((first ≤ℤ x)
    × (neg_ℤ free <ℤ ((x +ℤ pos 1) *ℤ pos (unsigned_abs dy * 65536))))
first_greater free dy first bound m is bounds x = (
  λ more. (
    omega (arith, ints, clamps, is, more),
    (bounds x).0 (omega (arith, ints, clamps, is, more)),
  ),
  λ both.
      let more = both.0 in
      let within = (bounds x).1 both.1 in
      omega (arith, ints, clamps, is, more, within),
)
