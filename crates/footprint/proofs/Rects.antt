-- A rectangle of whole cells meets the squares in it, and no others.
use Rattle.std.proofs.Common.{◌≡◌, ℕ, zero, suc, ◌*◌, ◌<◌, ◌≤◌, ◌⊎◌, ◌↔◌, inl, inr, refl, ap}
use Rattle.std.proofs.Common.{arith, [], ◌∷◌, ℤ, pos, negsuc, ◌+ℤ◌, ◌-ℤ◌, ◌*ℤ◌, ◌<ℤ◌}
use Rattle.std.proofs.Common.{subst, sym}
use Rattle.std.specs.List.{Any}
use Rattle.std.proofs.Math.Nat.{mul-le-mul_left}
use Rattle.std.proofs.lemmas.Int.{ints}
use borrow.Author.Differences.{down, product_is, same_out, up}
use Rattle.bits.specs.Cells.{Cells}
use Rattle.footprint.specs.declared.corner.Corner.{Corner}
use Rattle.footprint.specs.Points.{HasObstacleIn, corner_of_cell, ring_of_rect}
use Rattle.footprint.specs.Polygon.{HasHit, IsOverlapped, PassesFrom}
use Rattle.footprint.specs.Polygon.{line}

-- one of four that passes a test
one_of_four : (P : Corner → Type 0) (a b c d : Corner) → Any P (a ∷ b ∷ c ∷ d ∷ [])
    → P a ⊎ (P b ⊎ (P c ⊎ P d))
one_of_four P a b c d (zero, e, within, is, holds) = inl (subst P (sym is) holds)
one_of_four P a b c d (suc zero, e, within, is, holds) = inr (inl (subst P (sym is) holds))
one_of_four P a b c d (suc (suc zero), e, within, is, holds) =
    inr (inr (inl (subst P (sym is) holds)))
one_of_four P a b c d (suc (suc (suc zero)), e, within, is, holds) =
    inr (inr (inr (subst P (sym is) holds)))
one_of_four P a b c d (suc (suc (suc (suc n))), e, within, is, holds) =
    absurd (omega (arith, within))

-- a column that a rectangle's columns overlap is one of them
column_in : (x0 x1 y0 y1 x : ℕ) → x0 < x1
    → IsOverlapped (λ c. c.x) (ring_of_rect x0 y0 x1 y1) (pos x) → (x0 ≤ x) × (x < x1)
column_in x0 x1 y0 y1 x some overlapped = (
  elim (one_of_four (λ c. c.x <ℤ line (pos x +ℤ pos 1)) (corner_of_cell x0 y0)
      (corner_of_cell x1 y0) (corner_of_cell x1 y1) (corner_of_cell x0 y1) overlapped.below) [
        | inl h ↦ omega (arith, ints, h)
        | inr (inl h) ↦ omega (arith, ints, h, some)
        | inr (inr (inl h)) ↦ omega (arith, ints, h, some)
        | inr (inr (inr h)) ↦ omega (arith, ints, h)
      ],
  elim (one_of_four (λ c. line (pos x) <ℤ c.x) (corner_of_cell x0 y0)
      (corner_of_cell x1 y0) (corner_of_cell x1 y1) (corner_of_cell x0 y1) overlapped.above) [
        | inl h ↦ omega (arith, ints, h, some)
        | inr (inl h) ↦ omega (arith, ints, h)
        | inr (inr (inl h)) ↦ omega (arith, ints, h)
        | inr (inr (inr h)) ↦ omega (arith, ints, h, some)
      ],
)

-- a row that its rows overlap is one of them
row_in : (x0 x1 y0 y1 y : ℕ) → y0 < y1
    → IsOverlapped (λ c. c.y) (ring_of_rect x0 y0 x1 y1) (pos y) → (y0 ≤ y) × (y < y1)
row_in x0 x1 y0 y1 y some overlapped = (
  elim (one_of_four (λ c. c.y <ℤ line (pos y +ℤ pos 1)) (corner_of_cell x0 y0)
      (corner_of_cell x1 y0) (corner_of_cell x1 y1) (corner_of_cell x0 y1) overlapped.below) [
        | inl h ↦ omega (arith, ints, h)
        | inr (inl h) ↦ omega (arith, ints, h)
        | inr (inr (inl h)) ↦ omega (arith, ints, h, some)
        | inr (inr (inr h)) ↦ omega (arith, ints, h, some)
      ],
  elim (one_of_four (λ c. line (pos y) <ℤ c.y) (corner_of_cell x0 y0)
      (corner_of_cell x1 y0) (corner_of_cell x1 y1) (corner_of_cell x0 y1) overlapped.above) [
        | inl h ↦ omega (arith, ints, h, some)
        | inr (inl h) ↦ omega (arith, ints, h, some)
        | inr (inr (inl h)) ↦ omega (arith, ints, h)
        | inr (inr (inr h)) ↦ omega (arith, ints, h)
      ],
)

-- a natural number that isn't 0 is 1 or more
one_at_least : (m : ℕ) → 1 ≤ suc m
one_at_least m = omega arith

-- the product of two numbers above 0 is above 0
product_above : (s t : ℤ) → (pos 0 <ℤ s) → (pos 0 <ℤ t) → (pos 0 <ℤ (s *ℤ t))
product_above (pos (suc n)) (pos (suc m)) some other =
    let grown = mul-le-mul_left (suc n) (one_at_least m) in omega (arith, ints, grown)
product_above (pos zero) t some other = absurd (omega (arith, ints, some))
product_above (negsuc n) t some other = absurd (omega (arith, ints, some))
product_above (pos (suc n)) (pos zero) some other = absurd (omega (arith, ints, other))
product_above (pos (suc n)) (negsuc m) some other = absurd (omega (arith, ints, other))

-- the product of two numbers below 0 is above 0
product_of_two_below : (s t : ℤ) → (s <ℤ pos 0) → (t <ℤ pos 0) → (pos 0 <ℤ (s *ℤ t))
product_of_two_below (negsuc n) (negsuc m) some other =
    let grown = mul-le-mul_left (suc n) (one_at_least m) in omega (arith, ints, grown)
product_of_two_below (pos n) t some other = absurd (omega (arith, ints, some))
product_of_two_below (negsuc n) (pos m) some other = absurd (omega (arith, ints, other))

-- the product of one below 0 and one above is below 0
product_below : (s t : ℤ) → (s <ℤ pos 0) → (pos 0 <ℤ t) → ((s *ℤ t) <ℤ pos 0)
product_below (negsuc n) (pos (suc m)) some other =
    let grown = mul-le-mul_left (suc n) (one_at_least m) in omega (arith, ints, grown)
product_below (pos n) t some other = absurd (omega (arith, ints, some))
product_below (negsuc n) (pos zero) some other = absurd (omega (arith, ints, other))
product_below (negsuc n) (negsuc m) some other = absurd (omega (arith, ints, other))

-- the product of one above 0 and one below is below 0
product_below_turned : (s t : ℤ) → (pos 0 <ℤ s) → (t <ℤ pos 0) → ((s *ℤ t) <ℤ pos 0)
product_below_turned (pos (suc n)) (negsuc m) some other =
    let grown = mul-le-mul_left (suc n) (one_at_least m) in omega (arith, ints, grown)
product_below_turned (pos zero) t some other = absurd (omega (arith, ints, some))
product_below_turned (negsuc n) t some other = absurd (omega (arith, ints, some))
product_below_turned (pos (suc n)) (pos m) some other = absurd (omega (arith, ints, other))

-- a point is on the inner side of an upright side
upright : (dx dy s t : ℤ) → dx ≡ pos 0 → ((dy *ℤ t) <ℤ pos 0) → (pos 0 <ℤ (dx *ℤ s -ℤ dy *ℤ t))
upright dx dy s t none some =
    let product = product_is dx s in
    let both = same_out dx (pos 0) none in
    omega (
      arith,
      ints,
      some,
      ap (λ m. m * up s) both.0,
      ap (λ m. m * down s) both.1,
      ap (λ m. m * down s) both.0,
      ap (λ m. m * up s) both.1,
    )

-- a point is on the inner side of a level side
level : (dx dy s t : ℤ) → dy ≡ pos 0 → (pos 0 <ℤ (dx *ℤ s)) → (pos 0 <ℤ (dx *ℤ s -ℤ dy *ℤ t))
level dx dy s t none some =
    let both = same_out dy (pos 0) none in
    omega (
      arith,
      ints,
      some,
      ap (λ m. m * up t) both.0,
      ap (λ m. m * down t) both.1,
      ap (λ m. m * down t) both.0,
      ap (λ m. m * up t) both.1,
    )

-- the four sides of a rectangle leave a cell in it
sides_leave : (x0 y0 x1 y1 x y : ℕ) → x0 ≤ x → x < x1 → y0 ≤ y → y < y1
    → PassesFrom (corner_of_cell x0 y1) (ring_of_rect x0 y0 x1 y1) (pos x) (pos y)
sides_leave x0 y0 x1 y1 x y left right top bottom =
    let rise : (pos (y0 * 65536) -ℤ pos (y1 * 65536)) <ℤ pos 0 = omega (arith, ints, top, bottom) in
    let fall : pos 0 <ℤ (pos (y1 * 65536) -ℤ pos (y0 * 65536)) = omega (arith, ints, top, bottom) in
    let on : pos 0 <ℤ (pos (x1 * 65536) -ℤ pos (x0 * 65536)) = omega (arith, ints, left, right) in
    let back : (pos (x0 * 65536) -ℤ pos (x1 * 65536)) <ℤ pos 0 = omega (arith, ints, left, right) in
    let right_of : pos 0 <ℤ (line (pos x +ℤ pos 1) -ℤ pos (x0 * 65536)) = omega (arith, ints, left) in
    let left_of : (line (pos x) -ℤ pos (x1 * 65536)) <ℤ pos 0 = omega (arith, ints, right) in
    let below : pos 0 <ℤ (line (pos y +ℤ pos 1) -ℤ pos (y0 * 65536)) = omega (arith, ints, top) in
    let above : (line (pos y) -ℤ pos (y1 * 65536)) <ℤ pos 0 = omega (arith, ints, bottom) in (
      inr (inl (record {
        above = upright (pos (x0 * 65536) -ℤ pos (x0 * 65536))
            (pos (y0 * 65536) -ℤ pos (y1 * 65536)) (line (pos y) -ℤ pos (y1 * 65536))
            (line (pos x +ℤ pos 1) -ℤ pos (x0 * 65536)) (omega (arith, ints))
            (product_below _ _ rise right_of);
      })),
      (
        inr (inr (inl (record {
          above = level (pos (x1 * 65536) -ℤ pos (x0 * 65536))
              (pos (y0 * 65536) -ℤ pos (y0 * 65536)) (line (pos y +ℤ pos 1) -ℤ pos (y0 * 65536))
              (line (pos x) -ℤ pos (x0 * 65536)) (omega (arith, ints)) (product_above _ _ on below);
        }))),
        (
          inl (record {
            above = upright (pos (x1 * 65536) -ℤ pos (x1 * 65536))
                (pos (y1 * 65536) -ℤ pos (y0 * 65536)) (line (pos y) -ℤ pos (y0 * 65536))
                (line (pos x) -ℤ pos (x1 * 65536)) (omega (arith, ints))
                (product_below_turned _ _ fall left_of);
          }),
          (
            inl (record {
              above = level (pos (x0 * 65536) -ℤ pos (x1 * 65536))
                  (pos (y1 * 65536) -ℤ pos (y1 * 65536)) (line (pos y) -ℤ pos (y1 * 65536))
                  (line (pos x) -ℤ pos (x1 * 65536)) (omega (arith, ints))
                  (product_of_two_below _ _ back above);
            }),
            tt,
          ),
        ),
      ),
    )

-- the obstacles that meet a rectangle of whole cells are those in it
pub HasHit-rect : (cells : Cells) (x0 y0 x1 y1 : ℕ) → x0 < x1 → y0 < y1
    → HasHit cells (ring_of_rect x0 y0 x1 y1) ↔ HasObstacleIn cells x0 y0 x1 y1
HasHit-rect cells x0 y0 x1 y1 wide high = (
  λ some.
      let (x, y, hit) = some in
      let columns = column_in x0 x1 y0 y1 x wide hit.meets.columns in
      let rows = row_in x0 x1 y0 y1 y high hit.meets.rows in
      record {
        x = x;
        y = y;
        obstacle = hit.obstacle;
        left = columns.0;
        right = columns.1;
        top = rows.0;
        bottom = rows.1;
      },
  λ in_rect.
      let left = in_rect.left in
      let right = in_rect.right in
      let top = in_rect.top in
      let bottom = in_rect.bottom in (
        in_rect.x,
        in_rect.y,
        record {
          obstacle = in_rect.obstacle;
          meets = record {
            columns = record {
              below = (0, corner_of_cell x0 y0, omega arith, refl, omega (arith, ints, left));
              above = (1, corner_of_cell x1 y0, omega arith, refl, omega (arith, ints, right));
            };
            rows = record {
              below = (0, corner_of_cell x0 y0, omega arith, refl, omega (arith, ints, top));
              above = (2, corner_of_cell x1 y1, omega arith, refl, omega (arith, ints, bottom));
            };
            sides = sides_leave x0 y0 x1 y1 in_rect.x in_rect.y left right top bottom;
          };
        },
      ),
)
