-- The least and the greatest of corners' numbers, as their x, one corner more at a time.
use Rattle.std.proofs.Common.{◌≡◌, ℕ, ◌+◌, ◌<◌, ◌≤◌, ◌⊎◌, inl, inr, ℤ, List, get_or, length}
use Rattle.std.proofs.Common.{arith, ◌≤ℤ◌, ◌<ℤ◌, ◌-ℤ◌, ◌+ℤ◌, subst, sym, ◌∙◌, pos, negsuc, ◌↔◌}
use Rattle.std.proofs.Common.{unsigned_abs}
use Rattle.std.specs.Int.{int_min, int_max}
use Rattle.std.specs.List.{All, Any}
use Rattle.std.proofs.lemmas.Bool.{cases_eq}
use Rattle.std.proofs.lemmas.Int.{ints, clamps, by_lt_z}
use Rattle.std.proofs.lemmas.List.{get_or_default}
use Rattle.bits.specs.Cells.{Cells}
use Rattle.footprint.specs.declared.corner.Corner.{Corner}
use Rattle.footprint.specs.declared.span.Stretch.{Stretch}
use Rattle.footprint.specs.Polygon.{IsNear, IsNearBy, IsOff, IsOverlapped, line}
use Rattle.footprint.specs.Rows.{AreOverlapped}
use Rattle.footprint.specs.Sides.{IsIn, IsOn, IsRange, Overlaps}

-- what the lesser of two is
pub lesser_is : (m a b : ℤ) → m ≡ int_min a b → (m ≤ℤ a) × ((m ≤ℤ b) × ((m ≡ a) ⊎ (m ≡ b)))
lesser_is m a b e = (
  omega (arith, ints, clamps, e),
  (
    omega (arith, ints, clamps, e),
    by_lt_z a b (λ less. inl (omega (arith, ints, clamps, e, less)))
        (λ more. inr (omega (arith, ints, clamps, e, more))),
  ),
)

-- what the greater of two is
pub greater_is : (m a b : ℤ) → m ≡ int_max a b → (a ≤ℤ m) × ((b ≤ℤ m) × ((m ≡ a) ⊎ (m ≡ b)))
greater_is m a b e = (
  omega (arith, ints, clamps, e),
  (
    omega (arith, ints, clamps, e),
    by_lt_z a b (λ less. inr (omega (arith, ints, clamps, e, less)))
        (λ more. inl (omega (arith, ints, clamps, e, more))),
  ),
)

-- a number that a corner has, or another corner
some_is : (number : Corner → ℤ) (ring : List Corner) (i : ℕ) (d : Corner) (m a : ℤ)
    → i < length ring → Any (λ c. number c ≡ a) ring → (m ≡ a) ⊎ (m ≡ number (get_or ring i d))
    → Any (λ c. number c ≡ m) ring
some_is number ring i d m a within some (inl same) =
    (some.0, some.1, some.2, some.3, some.4 ∙ sym same)
some_is number ring i d m a within some (inr here) =
    (i, get_or ring i d, within, get_or_default ring i (get_or ring i d) d within, sym here)

-- the range of the first corners is that of one more, joined with its number
pub IsRange-more : (number : Corner → ℤ) (ring : List Corner) (i : ℕ) (d : Corner)
    (least most less more : ℤ) → i < length ring → IsRange number ring i least most
    → less ≡ int_min least (number (get_or ring i d))
    → more ≡ int_max most (number (get_or ring i d))
    → IsRange number ring (i + 1) less more
IsRange-more number ring i d least most less more within so_far is_less is_more =
    let low = lesser_is less least (number (get_or ring i d)) is_less in
    let high = greater_is more most (number (get_or ring i d)) is_more in
    record {
      from = λ k e before. elim (cases_eq k i) [
        | inl here ↦ rw (here, get_or_default ring i e d within) low.1.0
        | inr earlier ↦
            let from = so_far.from k e (omega arith) in
            let under = low.0 in omega (arith, ints, from, under)
      ];
      to = λ k e before. elim (cases_eq k i) [
        | inl here ↦ rw (here, get_or_default ring i e d within) high.1.0
        | inr earlier ↦
            let to = so_far.to k e (omega arith) in
            let over = high.0 in omega (arith, ints, to, over)
      ];
      least_is = some_is number ring i d less least within so_far.least_is low.1.1;
      most_is = some_is number ring i d more most within so_far.most_is high.1.1;
    }

-- the columns of a span that a map of this many has
pub within_is : (first last low high : ℤ) (count n : ℕ) → low ≡ int_max first (pos 0)
    → high ≡ int_min last (pos count -ℤ pos 1) → (low ≤ℤ high)
    → IsIn (unsigned_abs low) (unsigned_abs high + 1) n ↔ ((n < count) × IsOn first last (pos n))
within_is first last (pos low) (pos high) count n low_is high_is some = (
  λ is.
      let after = is.after in
      let before = is.before in (
        omega (arith, ints, clamps, high_is),
        record {
          after = omega (arith, ints, clamps, low_is, after);
          before = omega (arith, ints, clamps, high_is, before);
        },
      ),
  λ both.
      let few = both.0 in
      let after = both.1.after in
      let before = both.1.before in
      record {
        after = omega (arith, ints, clamps, low_is, after);
        before = omega (arith, ints, clamps, high_is, few, before);
      },
)
within_is first last (negsuc low) high count n low_is high_is some =
    absurd (omega (arith, ints, clamps, low_is))
within_is first last (pos low) (negsuc high) count n low_is high_is some =
    absurd (omega (arith, ints, some))

-- those of some columns that are left are the same where they are integers
pub left_in_map : (x from to first end : ℕ) (low high start last : ℤ) (Pass : Type 0)
    → start ≡ pos from → last ≡ pos to -ℤ pos 1
    → (IsOn low high (pos x) ↔ (IsOn start last (pos x) × Pass))
    → (IsIn first end x ↔ ((x < to) × IsOn low high (pos x)))
    → (IsIn first end x ↔ (IsIn from to x × Pass))
left_in_map x from to first end low high start last Pass start_is last_is left within = (
  λ is.
      let both = left.0 (within.0 is).1 in
      let few = (within.0 is).0 in
      let after = both.0.after in
      (record { after = omega (arith, ints, start_is, after); before = few }, both.1),
  λ both.
      let after = both.0.after in
      let before = both.0.before in
      let on : IsOn start last (pos x) = record {
        after = omega (arith, ints, start_is, after);
        before = omega (arith, ints, last_is, before);
      } in
      within.1 (before, left.1 (on, both.1)),
)

-- where some corner's number is the one, all below it are those that a corner's is below
some_below : (number : Corner → ℤ) (ring : List Corner) (n m : ℤ) → (n <ℤ m)
    → Any (λ c. number c ≡ n) ring → Any (λ c. number c <ℤ m) ring
some_below number ring n m less some =
    let is = some.4 in
    (some.0, some.1, some.2, some.3, omega (arith, ints, is, less))

-- where some corner's number is the one, all above it are those that a corner's is above
some_above : (number : Corner → ℤ) (ring : List Corner) (n m : ℤ) → (m <ℤ n)
    → Any (λ c. number c ≡ n) ring → Any (λ c. m <ℤ number c) ring
some_above number ring n m more some =
    let is = some.4 in
    (some.0, some.1, some.2, some.3, omega (arith, ints, is, more))

-- a column overlaps the range of the corners' numbers where it is below one and above another
pub IsOverlapped-range : (number : Corner → ℤ) (ring : List Corner) (least most n : ℤ)
    → IsRange number ring (length ring) least most
    → Overlaps least most n ↔ IsOverlapped number ring n
IsOverlapped-range number ring least most n range = (
  λ overlaps. record {
    below = some_below number ring least (line (n +ℤ pos 1)) overlaps.0 range.least_is;
    above = some_above number ring most (line n) overlaps.1 range.most_is;
  },
  λ both.
      let (i, c, within, is, less) = both.below in
      let (j, d, inside, at, more) = both.above in
      let from = subst (λ (e : Corner). least ≤ℤ number e) is (range.from i c within) in
      let to = subst (λ (e : Corner). number e ≤ℤ most) at (range.to j d inside) in
      (omega (arith, ints, from, less), omega (arith, ints, to, more)),
)

-- the columns of a map that overlap the bounds are those that overlap the polygon's range
pub AreOverlapped-range : (number : Corner → ℤ) (ring : List Corner) (least most : ℤ) (count : ℕ)
    (columns : Stretch) → IsRange number ring (length ring) least most
    → ((n : ℕ) → IsIn columns.first columns.end n ↔ ((n < count) × Overlaps least most (pos n)))
    → columns.end ≤ count → AreOverlapped number ring count columns
AreOverlapped-range number ring least most count columns range on few = record {
  on = λ n.
      let same = IsOverlapped-range number ring least most (pos n) range in (
        λ is. let both = (on n).0 is in (both.0, same.0 both.1),
        λ both. (on n).1 (both.0, same.1 both.1),
      );
  few = few;
}

-- the range leaves a map where a corner is off it
pub IsOff-range : (cells : Cells) (ring : List Corner) (left right top bottom : ℤ)
    → IsRange (λ c. c.x) ring (length ring) left right
    → IsRange (λ c. c.y) ring (length ring) top bottom
    → (((left <ℤ pos 0) ⊎ (line (pos cells.width) <ℤ right))
    ⊎ ((top <ℤ pos 0) ⊎ (line (pos cells.height) <ℤ bottom)))
    → Any (IsOff cells) ring
IsOff-range cells ring left right top bottom columns rows (inl (inl less)) =
    let (i, c, within, is, at) = columns.least_is in
    (i, c, within, is, inl (inl (omega (arith, ints, at, less))))
IsOff-range cells ring left right top bottom columns rows (inl (inr more)) =
    let (i, c, within, is, at) = columns.most_is in
    (i, c, within, is, inl (inr (omega (arith, ints, at, more))))
IsOff-range cells ring left right top bottom columns rows (inr (inl less)) =
    let (i, c, within, is, at) = rows.least_is in
    (i, c, within, is, inr (inl (omega (arith, ints, at, less))))
IsOff-range cells ring left right top bottom columns rows (inr (inr more)) =
    let (i, c, within, is, at) = rows.most_is in
    (i, c, within, is, inr (inr (omega (arith, ints, at, more))))

-- a corner off a map leaves it with its range
leaves : (cells : Cells) (c : Corner) (left right top bottom : ℤ) → (left ≤ℤ c.x) → (c.x ≤ℤ right)
    → (top ≤ℤ c.y) → (c.y ≤ℤ bottom) → IsOff cells c
    → (((left <ℤ pos 0) ⊎ (line (pos cells.width) <ℤ right))
    ⊎ ((top <ℤ pos 0) ⊎ (line (pos cells.height) <ℤ bottom)))
leaves cells c left right top bottom a b d e (inl (inl off)) = inl (inl (omega (arith, ints, a, off)))
leaves cells c left right top bottom a b d e (inl (inr off)) = inl (inr (omega (arith, ints, b, off)))
leaves cells c left right top bottom a b d e (inr (inl off)) = inr (inl (omega (arith, ints, d, off)))
leaves cells c left right top bottom a b d e (inr (inr off)) = inr (inr (omega (arith, ints, e, off)))

-- a ring with a corner off a map leaves it with its range
pub range_off : (cells : Cells) (ring : List Corner) (left right top bottom : ℤ)
    → IsRange (λ c. c.x) ring (length ring) left right
    → IsRange (λ c. c.y) ring (length ring) top bottom
    → Any (IsOff cells) ring
    → (((left <ℤ pos 0) ⊎ (line (pos cells.width) <ℤ right))
    ⊎ ((top <ℤ pos 0) ⊎ (line (pos cells.height) <ℤ bottom)))
range_off cells ring left right top bottom columns rows (i, c, within, is, off) =
    leaves cells c left right top bottom
    (subst (λ (e : Corner). left ≤ℤ e.x) is (columns.from i c within))
    (subst (λ (e : Corner). e.x ≤ℤ right) is (columns.to i c within))
    (subst (λ (e : Corner). top ≤ℤ e.y) is (rows.from i c within))
    (subst (λ (e : Corner). e.y ≤ℤ bottom) is (rows.to i c within)) off

-- a column of near corners is near
pub IsNearBy-column : (ring : List Corner) (n : ℤ) → All IsNear ring
    → Any (λ c. c.x ≡ n) ring → IsNearBy n
IsNearBy-column ring n near (i, c, within, is, at) =
    subst IsNearBy at (subst IsNear is (near i c within)).column

-- a row of near corners is near
pub IsNearBy-row : (ring : List Corner) (n : ℤ) → All IsNear ring
    → Any (λ c. c.y ≡ n) ring → IsNearBy n
IsNearBy-row ring n near (i, c, within, is, at) =
    subst IsNearBy at (subst IsNear is (near i c within)).row
