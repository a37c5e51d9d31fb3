-- The columns of a row that a side leaves.
use Rattle.std.proofs.Common.{◌≡◌, ℕ, ◌*◌, ◌↔◌, inl, inr, refl, sym}
use Rattle.std.proofs.Common.{◌∙◌, arith, ℤ, pos, ◌+ℤ◌, ◌-ℤ◌, ◌*ℤ◌, neg_ℤ, ◌≤ℤ◌, ◌<ℤ◌}
use Rattle.std.proofs.Common.{unsigned_abs}
use Rattle.std.proofs.lemmas.Int.{by_lt_z, ints}
use borrow.Author.Differences.{down, le_out, lt_in, lt_out, up}
use Rattle.footprint.specs.declared.corner.Corner.{Corner}
use Rattle.footprint.specs.Polygon.{Passes, cross, line}
use Rattle.footprint.specs.Sides.{IsOn, IsReach}
use Rattle.footprint.proofs.Multiples.{down_is, from_line, from_line_up, one_further, up_is}

-- none of the four corners is further in than the one that decides
passes_below : (a b : Corner) (x y m : ℤ)
    → (cross a b (line x) (line y) ≤ℤ m)
    → (cross a b (line (x +ℤ pos 1)) (line y) ≤ℤ m)
    → (cross a b (line x) (line (y +ℤ pos 1)) ≤ℤ m)
    → (cross a b (line (x +ℤ pos 1)) (line (y +ℤ pos 1)) ≤ℤ m)
    → Passes a b x y → (pos 0 <ℤ m)
passes_below a b x y m h1 h2 h3 h4 (inl i) =
    let above = i.above in omega (arith, lt_out, le_out, lt_in, above, h1)
passes_below a b x y m h1 h2 h3 h4 (inr (inl i)) =
    let above = i.above in omega (arith, lt_out, le_out, lt_in, above, h2)
passes_below a b x y m h1 h2 h3 h4 (inr (inr (inl i))) =
    let above = i.above in omega (arith, lt_out, le_out, lt_in, above, h3)
passes_below a b x y m h1 h2 h3 h4 (inr (inr (inr i))) =
    let above = i.above in omega (arith, lt_out, le_out, lt_in, above, h4)

-- the left lower corner is the farthest inside of a side down to the right
deciding : (a b : Corner) (x y : ℤ) → (pos 0 ≤ℤ (b.x -ℤ a.x)) → (pos 0 ≤ℤ (b.y -ℤ a.y))
    → Passes a b x y → (pos 0 <ℤ cross a b (line x) (line (y +ℤ pos 1)))
deciding a b x y right down passes =
    let down_one = one_further (b.x -ℤ a.x) y a.y in
    let right_one = one_further (b.y -ℤ a.y) x a.x in
    passes_below a b x y (cross a b (line x) (line (y +ℤ pos 1)))
    (omega (arith, ints, right, down, down_one, right_one))
    (omega (arith, ints, right, down, down_one, right_one))
    (omega (arith, ints, right, down, down_one, right_one))
    (omega (arith, ints, right, down, down_one, right_one)) passes

-- the left upper corner is the farthest inside of a side down to the left
deciding_left : (a b : Corner) (x y : ℤ) → ((b.x -ℤ a.x) ≤ℤ pos 0) → (pos 0 ≤ℤ (b.y -ℤ a.y))
    → Passes a b x y → (pos 0 <ℤ cross a b (line x) (line y))
deciding_left a b x y right down passes =
    let down_one = one_further (b.x -ℤ a.x) y a.y in
    let right_one = one_further (b.y -ℤ a.y) x a.x in
    passes_below a b x y (cross a b (line x) (line y))
    (omega (arith, ints, right, down, down_one, right_one))
    (omega (arith, ints, right, down, down_one, right_one))
    (omega (arith, ints, right, down, down_one, right_one))
    (omega (arith, ints, right, down, down_one, right_one)) passes

-- the right lower corner is the farthest inside of a side up to the right
deciding_up : (a b : Corner) (x y : ℤ) → (pos 0 ≤ℤ (b.x -ℤ a.x)) → ((b.y -ℤ a.y) ≤ℤ pos 0)
    → Passes a b x y → (pos 0 <ℤ cross a b (line (x +ℤ pos 1)) (line (y +ℤ pos 1)))
deciding_up a b x y right down passes =
    let down_one = one_further (b.x -ℤ a.x) y a.y in
    let right_one = one_further (b.y -ℤ a.y) x a.x in
    passes_below a b x y (cross a b (line (x +ℤ pos 1)) (line (y +ℤ pos 1)))
    (omega (arith, ints, right, down, down_one, right_one))
    (omega (arith, ints, right, down, down_one, right_one))
    (omega (arith, ints, right, down, down_one, right_one))
    (omega (arith, ints, right, down, down_one, right_one)) passes

-- the right upper corner is the farthest inside of a side up to the left
deciding_up_left : (a b : Corner) (x y : ℤ) → ((b.x -ℤ a.x) ≤ℤ pos 0) → ((b.y -ℤ a.y) ≤ℤ pos 0)
    → Passes a b x y → (pos 0 <ℤ cross a b (line (x +ℤ pos 1)) (line y))
deciding_up_left a b x y right down passes =
    let down_one = one_further (b.x -ℤ a.x) y a.y in
    let right_one = one_further (b.y -ℤ a.y) x a.x in
    passes_below a b x y (cross a b (line (x +ℤ pos 1)) (line y))
    (omega (arith, ints, right, down, down_one, right_one))
    (omega (arith, ints, right, down, down_one, right_one))
    (omega (arith, ints, right, down, down_one, right_one))
    (omega (arith, ints, right, down, down_one, right_one)) passes

-- a side that goes down: the column's multiple is below the reach
pub passes_down : (a b : Corner) (x y r : ℤ) (k : ℕ) → b.y -ℤ a.y ≡ pos k
    → IsReach a b y r → Passes a b x y → ((x *ℤ pos (k * 65536)) ≤ℤ (r -ℤ pos 1))
passes_down a b x y r k e reach passes =
    let start = from_line (b.y -ℤ a.y) x a.x k e in
    let down : pos 0 ≤ℤ (b.y -ℤ a.y) = rw e (omega (arith, ints)) in
    by_lt_z (pos 0) (b.x -ℤ a.x)
    (λ right. let is = reach.rightwards right in
    let above = deciding a b x y (omega (arith, ints, right)) down passes in
    omega (arith, ints, above, is, start))
    (λ left. let is = reach.leftwards left in
    let above = deciding_left a b x y left down passes in
    omega (arith, ints, above, is, start))

-- a square whose column's multiple is below the reach of a side down passes it
pub down_passes : (a b : Corner) (x y r : ℤ) (k : ℕ) → b.y -ℤ a.y ≡ pos k
    → IsReach a b y r → ((x *ℤ pos (k * 65536)) ≤ℤ (r -ℤ pos 1)) → Passes a b x y
down_passes a b x y r k e reach within =
    let start = from_line (b.y -ℤ a.y) x a.x k e in
    by_lt_z (pos 0) (b.x -ℤ a.x)
    (λ right. let is = reach.rightwards right in
    inr (inr (inl (record { above = omega (arith, ints, is, within, start) }))))
    (λ left. let is = reach.leftwards left in
    inl (record { above = omega (arith, ints, is, within, start) }))

-- a side that goes up: the multiple of the next column is above what is against it
pub passes_up : (a b : Corner) (x y r : ℤ) (k : ℕ) → b.y -ℤ a.y ≡ neg_ℤ (pos k)
    → IsReach a b y r → Passes a b x y → (neg_ℤ r <ℤ ((x +ℤ pos 1) *ℤ pos (k * 65536)))
passes_up a b x y r k e reach passes =
    let start = from_line_up (b.y -ℤ a.y) (x +ℤ pos 1) a.x k e in
    let up : (b.y -ℤ a.y) ≤ℤ pos 0 = rw e (omega (arith, ints)) in
    by_lt_z (pos 0) (b.x -ℤ a.x)
    (λ right. let is = reach.rightwards right in
    let above = deciding_up a b x y (omega (arith, ints, right)) up passes in
    omega (arith, ints, above, is, start))
    (λ left. let is = reach.leftwards left in
    let above = deciding_up_left a b x y left up passes in
    omega (arith, ints, above, is, start))

-- a square whose next column's multiple is above what is against it passes a side up
pub up_passes : (a b : Corner) (x y r : ℤ) (k : ℕ) → b.y -ℤ a.y ≡ neg_ℤ (pos k)
    → IsReach a b y r → (neg_ℤ r <ℤ ((x +ℤ pos 1) *ℤ pos (k * 65536))) → Passes a b x y
up_passes a b x y r k e reach within =
    let start = from_line_up (b.y -ℤ a.y) (x +ℤ pos 1) a.x k e in
    by_lt_z (pos 0) (b.x -ℤ a.x)
    (λ right. let is = reach.rightwards right in
    inr (inr (inr (record { above = omega (arith, ints, is, within, start) }))))
    (λ left. let is = reach.leftwards left in
    inr (inl (record { above = omega (arith, ints, is, within, start) })))

-- the parts of the reach make it up
pub reach_is : (a b : Corner) (row dx edge h across dy down r : ℤ) → dx ≡ b.x -ℤ a.x
    → ((pos 0 <ℤ dx) → edge ≡ row +ℤ pos 1) → ((dx ≤ℤ pos 0) → edge ≡ row)
    → h ≡ line edge -ℤ a.y → across ≡ dx *ℤ h → dy ≡ b.y -ℤ a.y → down ≡ dy *ℤ a.x
    → r ≡ across +ℤ down → IsReach a b row r
reach_is a b row dx edge h across dy down r edx right left eh ea edy ed er = record {
  rightwards = λ more. let ee = right (rw edx more) in rw (er, ea, ed, eh, edy, edx, ee) refl;
  leftwards = λ less. let ee = left (rw edx less) in rw (er, ea, ed, eh, edy, edx, ee) refl;
}

-- a side down ends the columns
pub cut_down : (a b : Corner) (row dy free first last m : ℤ) → dy ≡ b.y -ℤ a.y
    → (pos 0 <ℤ dy) → IsReach a b row free
    → ((x : ℤ) → (x ≤ℤ m) ↔ ((x ≤ℤ last)
    × ((x *ℤ pos (unsigned_abs dy * 65536)) ≤ℤ (free -ℤ pos 1))))
    → (x : ℤ) → IsOn first m x ↔ (IsOn first last x × Passes a b x row)
cut_down a b row dy free first last m is some reach left x =
    let e : b.y -ℤ a.y ≡ pos (unsigned_abs dy) = sym is ∙ down_is dy (omega (arith, ints, some)) in (
      λ on.
          let both = (left x).0 on.before in (
            record { after = on.after; before = both.0 },
            down_passes a b x row free (unsigned_abs dy) e reach both.1,
          ),
      λ both. record {
        after = both.0.after;
        before = (left x).1
            (both.0.before, passes_down a b x row free (unsigned_abs dy) e reach both.1);
      },
    )

-- a side up begins them
pub cut_up : (a b : Corner) (row dy free first last m : ℤ) → dy ≡ b.y -ℤ a.y
    → (dy <ℤ pos 0) → IsReach a b row free
    → ((x : ℤ) → (m ≤ℤ x) ↔ ((first ≤ℤ x)
    × (neg_ℤ free <ℤ ((x +ℤ pos 1) *ℤ pos (unsigned_abs dy * 65536)))))
    → (x : ℤ) → IsOn m last x ↔ (IsOn first last x × Passes a b x row)
cut_up a b row dy free first last m is some reach left x =
    let e : b.y -ℤ a.y ≡ neg_ℤ (pos (unsigned_abs dy)) =
    sym is ∙ up_is dy (omega (arith, ints, some)) in (
      λ on.
          let both = (left x).0 on.after in (
            record { after = both.0; before = on.before },
            up_passes a b x row free (unsigned_abs dy) e reach both.1,
          ),
      λ both. record {
        after = (left x).1
            (both.0.after, passes_up a b x row free (unsigned_abs dy) e reach both.1);
        before = both.0.before;
      },
    )

-- a level side above its line leaves all squares
pub level_all : (a b : Corner) (row dy free x : ℤ) → dy ≡ b.y -ℤ a.y → (dy ≤ℤ pos 0)
    → (pos 0 ≤ℤ dy)
    → IsReach a b row free → (pos 0 <ℤ free) → Passes a b x row
level_all a b row dy free x edy up down reach some =
    let e : b.y -ℤ a.y ≡ pos 0 = sym edy ∙ (omega (arith, ints, up, down)) in
    down_passes a b x row free 0 e reach (omega (arith, ints, some))

-- a level side below its line leaves none
pub level_none : (a b : Corner) (row dy free x : ℤ) → dy ≡ b.y -ℤ a.y → (dy ≤ℤ pos 0)
    → (pos 0 ≤ℤ dy)
    → IsReach a b row free → (free ≤ℤ pos 0) → Passes a b x row → ⊥
level_none a b row dy free x edy up down reach none passes =
    let e : b.y -ℤ a.y ≡ pos 0 = sym edy ∙ (omega (arith, ints, up, down)) in
    let less = passes_down a b x row free 0 e reach passes in
    omega (arith, ints, less, none)
