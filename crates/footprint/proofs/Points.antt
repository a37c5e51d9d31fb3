-- A point inside a polygon and a square shows that they meet.
use Rattle.std.proofs.Common.{◌≡◌, ℕ, zero, suc, ◌+◌, ◌*◌, ◌<◌, ◌≤◌, inl, inr, ap}
use Rattle.std.proofs.Common.{arith, List, [], ◌∷◌, ℤ, pos, negsuc, ◌+ℤ◌, ◌-ℤ◌, ◌*ℤ◌, ◌≤ℤ◌, ◌<ℤ◌}
use Rattle.std.specs.List.{Any}
use Rattle.std.proofs.Math.Nat.{mul-le-mul_left, mul_left_comm}
use Rattle.std.proofs.lemmas.Int.{by_lt_z, ints}
use borrow.Author.Differences.{down, le_in, le_out, lt_in, lt_out, product_is, up}
use Rattle.footprint.specs.declared.corner.Corner.{Corner}
use Rattle.footprint.specs.Points.{IsInPolygon, IsInSquare, IsInnerFrom, cross_of_point}
use Rattle.footprint.specs.Polygon.{Meets, Passes, PassesFrom, last_of}
use Rattle.footprint.specs.Polygon.{line}
use Rattle.footprint.proofs.Multiples.{k_times, parted}

-- the parts of a difference are those of both numbers
difference_is : (s t : ℤ) → up (s -ℤ t) + down s + up t ≡ down (s -ℤ t) + up s + down t
difference_is s t = omega (arith, ints)

-- a natural times one number is less than times another: so is the number
cancel_less : (q : ℕ) (a b : ℤ) → (pos q *ℤ a) <ℤ (pos q *ℤ b) → a <ℤ b
cancel_less q a b less = by_lt_z a b (λ before. before)
    (λ after.
    let few : up b + down a ≤ up a + down b = omega (arith, ints, after) in
    let grown = mul-le-mul_left q few in
    let left = k_times q a in
    let right = k_times q b in
    absurd (omega (arith, ints, less, grown, left, right)))

-- some corner's number is left of a bound that its multiple is left of
Any-below : (number : Corner → ℤ) (ring : List Corner) (q : ℕ) (p bound : ℤ)
    → p <ℤ (pos q *ℤ bound) → Any (λ c. (pos q *ℤ number c) <ℤ p) ring
    → Any (λ c. number c <ℤ bound) ring
Any-below number ring q p bound less (i, c, within, is, before) =
    (i, c, within, is, cancel_less q (number c) bound (omega (arith, ints, less, before)))

-- some corner's number is right of a bound that its multiple is right of
Any-above : (number : Corner → ℤ) (ring : List Corner) (q : ℕ) (p bound : ℤ)
    → (pos q *ℤ bound) <ℤ p → Any (λ c. p <ℤ (pos q *ℤ number c)) ring
    → Any (λ c. bound <ℤ number c) ring
Any-above number ring q p bound more (i, c, within, is, after) =
    (i, c, within, is, cancel_less q bound (number c) (omega (arith, ints, more, after)))

-- a product with a number that isn't negative grows with the other factor
grows_up : (d s t : ℤ) → (pos 0 ≤ℤ d) → (s ≤ℤ t) → ((d *ℤ s) ≤ℤ (d *ℤ t))
grows_up (pos k) s t some less =
    let few : up s + down t ≤ up t + down s = omega (arith, ints, less) in
    let grown = mul-le-mul_left k few in
    omega (arith, ints, grown)
grows_up (negsuc n) s t some less = absurd (omega (arith, ints, some))

-- a product with a number that isn't positive falls as the other factor grows
falls_down : (d s t : ℤ) → (d ≤ℤ pos 0) → (s ≤ℤ t) → ((d *ℤ t) ≤ℤ (d *ℤ s))
falls_down (pos zero) s t none less = omega (arith, ints)
falls_down (pos (suc n)) s t none less = absurd (omega (arith, ints, none))
falls_down (negsuc n) s t none less =
    let few : up s + down t ≤ up t + down s = omega (arith, ints, less) in
    let grown = mul-le-mul_left (suc n) few in
    omega (arith, ints, grown)

-- a product with a multiple is that multiple of the product
multiple_out : (q : ℕ) (d s : ℤ)
    → (up (d *ℤ (pos q *ℤ s)) ≡ q * up (d *ℤ s)) × (down (d *ℤ (pos q *ℤ s)) ≡ q * down (d *ℤ s))
multiple_out q d s =
    let whole = product_is d (pos q *ℤ s) in
    let part = product_is d s in
    let times = k_times q s in (
      omega (
        arith,
        whole,
        ap (λ m. up d * m) times.0,
        ap (λ m. down d * m) times.1,
        ap (λ m. q * m) part.0,
        mul_left_comm (up d) q (up s),
        mul_left_comm (down d) q (down s),
      ),
      omega (
        arith,
        whole,
        ap (λ m. up d * m) times.1,
        ap (λ m. down d * m) times.0,
        ap (λ m. q * m) part.1,
        mul_left_comm (up d) q (down s),
        mul_left_comm (down d) q (up s),
      ),
    )

-- a point before a line is less far from a corner than the line is
below_multiple : (q : ℕ) (p l a : ℤ) → (p <ℤ (pos q *ℤ l))
    → ((p -ℤ pos q *ℤ a) ≤ℤ (pos q *ℤ (l -ℤ a)))
below_multiple q p l a less =
    let spread = parted (pos q) (l -ℤ a) l a (difference_is l a) in
    let gap = difference_is p (pos q *ℤ a) in
    let before = lt_out p (pos q *ℤ l) less in
    record { le = le_in (p -ℤ pos q *ℤ a) (pos q *ℤ (l -ℤ a)) (omega (arith, spread, gap, before)) }

-- a point after a line is farther from a corner than the line is
above_multiple : (q : ℕ) (p l a : ℤ) → ((pos q *ℤ l) <ℤ p)
    → ((pos q *ℤ (l -ℤ a)) ≤ℤ (p -ℤ pos q *ℤ a))
above_multiple q p l a more =
    let spread = parted (pos q) (l -ℤ a) l a (difference_is l a) in
    let gap = difference_is p (pos q *ℤ a) in
    let after = lt_out (pos q *ℤ l) p more in
    record { le = le_in (pos q *ℤ (l -ℤ a)) (p -ℤ pos q *ℤ a) (omega (arith, spread, gap, after)) }

-- a corner is inner where q times its cross product is at least that of an inner point
inner_by : (q : ℕ) (dx dy s t high wide : ℤ) → (pos 0 <ℤ (dx *ℤ high -ℤ dy *ℤ wide))
    → ((dx *ℤ high) ≤ℤ (dx *ℤ (pos q *ℤ s))) → ((dy *ℤ (pos q *ℤ t)) ≤ℤ (dy *ℤ wide))
    → (pos 0 <ℤ (dx *ℤ s -ℤ dy *ℤ t))
inner_by q dx dy s t high wide inner across down_to =
    let one = multiple_out q dx s in
    let other = multiple_out q dy t in
    let times = k_times q (dx *ℤ s -ℤ dy *ℤ t) in
    let whole : up (dx *ℤ s -ℤ dy *ℤ t) + down (dx *ℤ s) + up (dy *ℤ t)
    ≡ down (dx *ℤ s -ℤ dy *ℤ t) + up (dx *ℤ s) + down (dy *ℤ t) =
    difference_is (dx *ℤ s) (dy *ℤ t) in
    let scaled = ap (λ m. q * m) whole in
    let start = lt_out (pos 0) (dx *ℤ high -ℤ dy *ℤ wide) inner in
    let gap = difference_is (dx *ℤ high) (dy *ℤ wide) in
    let more = le_out (dx *ℤ high) (dx *ℤ (pos q *ℤ s)) across in
    let less = le_out (dy *ℤ (pos q *ℤ t)) (dy *ℤ wide) down_to in
    let zero_times = k_times q (pos 0) in
    cancel_less q (pos 0) (dx *ℤ s -ℤ dy *ℤ t) (record {
      lt = lt_in (pos q *ℤ pos 0) (pos q *ℤ (dx *ℤ s -ℤ dy *ℤ t))
          (omega (arith, one, other, times, scaled, start, gap, more, less, zero_times));
    })

-- a side that a point inside the square is on the inner side of doesn't separate the square
Passes-point : (a b : Corner) (x y : ℤ) (q : ℕ) (px py : ℤ)
    → (pos 0 <ℤ cross_of_point a b q px py) → IsInSquare x y q px py → Passes a b x y
Passes-point a b x y q px py inner square =
    let right = square.right_of in
    let left = square.left_of in
    let below = square.below in
    let above = square.above in
    let top = above_multiple q py (line y) a.y below in
    let bottom = below_multiple q py (line (y +ℤ pos 1)) a.y above in
    let start = above_multiple q px (line x) a.x right in
    let end = below_multiple q px (line (x +ℤ pos 1)) a.x left in
    by_lt_z (pos 0) (b.x -ℤ a.x)
    (λ rightwards. by_lt_z (pos 0) (b.y -ℤ a.y)
    (λ down_from. inr (inr (inl (record {
      above = inner_by q (b.x -ℤ a.x) (b.y -ℤ a.y) (line (y +ℤ pos 1) -ℤ a.y) (line x -ℤ a.x)
          (py -ℤ pos q *ℤ a.y) (px -ℤ pos q *ℤ a.x) inner
          (grows_up (b.x -ℤ a.x) (py -ℤ pos q *ℤ a.y) (pos q *ℤ (line (y +ℤ pos 1) -ℤ a.y))
          (omega (arith, ints, rightwards)) bottom)
          (grows_up (b.y -ℤ a.y) (pos q *ℤ (line x -ℤ a.x)) (px -ℤ pos q *ℤ a.x)
          (omega (arith, ints, down_from)) start);
    }))))
    (λ up_from. inr (inr (inr (record {
      above = inner_by q (b.x -ℤ a.x) (b.y -ℤ a.y) (line (y +ℤ pos 1) -ℤ a.y)
          (line (x +ℤ pos 1) -ℤ a.x) (py -ℤ pos q *ℤ a.y) (px -ℤ pos q *ℤ a.x) inner
          (grows_up (b.x -ℤ a.x) (py -ℤ pos q *ℤ a.y) (pos q *ℤ (line (y +ℤ pos 1) -ℤ a.y))
          (omega (arith, ints, rightwards)) bottom)
          (falls_down (b.y -ℤ a.y) (px -ℤ pos q *ℤ a.x) (pos q *ℤ (line (x +ℤ pos 1) -ℤ a.x))
          up_from end);
    })))))
    (λ leftwards. by_lt_z (pos 0) (b.y -ℤ a.y)
    (λ down_from. inl (record {
      above = inner_by q (b.x -ℤ a.x) (b.y -ℤ a.y) (line y -ℤ a.y) (line x -ℤ a.x)
          (py -ℤ pos q *ℤ a.y) (px -ℤ pos q *ℤ a.x) inner
          (falls_down (b.x -ℤ a.x) (pos q *ℤ (line y -ℤ a.y)) (py -ℤ pos q *ℤ a.y)
          leftwards top)
          (grows_up (b.y -ℤ a.y) (pos q *ℤ (line x -ℤ a.x)) (px -ℤ pos q *ℤ a.x)
          (omega (arith, ints, down_from)) start);
    }))
    (λ up_from. inr (inl (record {
      above = inner_by q (b.x -ℤ a.x) (b.y -ℤ a.y) (line y -ℤ a.y) (line (x +ℤ pos 1) -ℤ a.x)
          (py -ℤ pos q *ℤ a.y) (px -ℤ pos q *ℤ a.x) inner
          (falls_down (b.x -ℤ a.x) (pos q *ℤ (line y -ℤ a.y)) (py -ℤ pos q *ℤ a.y)
          leftwards top)
          (falls_down (b.y -ℤ a.y) (px -ℤ pos q *ℤ a.x) (pos q *ℤ (line (x +ℤ pos 1) -ℤ a.x))
          up_from end);
    }))))

-- no side separates the square of a point that is on the inner side of each
PassesFrom-point : (a : Corner) (ring : List Corner) (x y : ℤ) (q : ℕ) (px py : ℤ)
    → IsInnerFrom a ring q px py → IsInSquare x y q px py → PassesFrom a ring x y
PassesFrom-point a [] x y q px py inner square = inner
PassesFrom-point a (b ∷ ring) x y q px py inner square =
    (Passes-point a b x y q px py inner.0 square, PassesFrom-point b ring x y q px py inner.1 square)

-- a polygon and a square that share a point, inside both, meet
pub Meets-point : (ring : List Corner) (x y : ℤ) (q : ℕ) (px py : ℤ) → 0 < q
    → IsInPolygon ring q px py → IsInSquare x y q px py → Meets ring x y
Meets-point ring x y q px py some inside square = record {
  columns = record {
    below = Any-below (λ c. c.x) ring q px (line (x +ℤ pos 1)) square.left_of inside.right_of;
    above = Any-above (λ c. c.x) ring q px (line x) square.right_of inside.left_of;
  };
  rows = record {
    below = Any-below (λ c. c.y) ring q py (line (y +ℤ pos 1)) square.above inside.below;
    above = Any-above (λ c. c.y) ring q py (line y) square.below inside.above;
  };
  sides = PassesFrom-point (last_of ring) ring x y q px py inside.sides square;
}
