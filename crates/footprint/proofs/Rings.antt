-- What is left of a ring, one side after another.
use Rattle.std.proofs.Common.{◌≡◌, ℕ, zero, suc, ◌+◌, ◌<◌, ◌≤◌, ◌↔◌, ℤ, List, [], ◌∷◌, drop, get_or}
use Rattle.std.proofs.Common.{length, refl, rules, arith, drop-cons}
use Rattle.footprint.specs.declared.corner.Corner.{Corner}
use Rattle.footprint.specs.Polygon.{Passes, PassesFrom}
use Rattle.footprint.specs.Sides.{IsOn}

-- what is left of a list is its next element and what is left after that
pub ring_step : (ring : List Corner) (i : ℕ) (d : Corner) → i < length ring
    → drop i ring ≡ get_or ring i d ∷ drop (i + 1) ring
ring_step ring i d within = search (rules, drop-cons)

-- the columns that are left, cut by one side more, are those that the rest of the sides leave
pub side_more : (ring : List Corner) (i : ℕ) (d from : Corner) (x y first last start end : ℤ)
    (All : Type 0) → i < length ring
    → (IsOn start end x ↔ (IsOn first last x × Passes from (get_or ring i d) x y))
    → ((IsOn first last x × PassesFrom from (drop i ring) x y) ↔ All)
    → ((IsOn start end x × PassesFrom (get_or ring i d) (drop (i + 1) ring) x y) ↔ All)
side_more ring i d from x y first last start end All within cuts before =
    let here : (IsOn first last x × (Passes from (get_or ring i d) x y
    × PassesFrom (get_or ring i d) (drop (i + 1) ring) x y)) ↔ All =
    rw (ring_step ring i d within) at before in (
      λ left. here.0 ((cuts.0 left.0).0, ((cuts.0 left.0).1, left.1)),
      λ all. let both = here.1 all in (cuts.1 (both.0, both.1.0), both.1.1),
    )

-- nothing is left of a list after its end
ring_end : (ring : List Corner) (i : ℕ) → length ring ≤ i → drop i ring ≡ []
ring_end [] zero over = refl
ring_end [] (suc i) over = refl
ring_end (a ∷ ring) zero over = absurd (omega (arith, over))
ring_end (a ∷ ring) (suc i) over = ring_end ring i (omega (arith, over))

-- the columns that are left after the last side are those that all sides leave
pub ended : (ring : List Corner) (i : ℕ) (from : Corner) (x y first last : ℤ) (All : Type 0)
    → length ring ≤ i → ((IsOn first last x × PassesFrom from (drop i ring) x y) ↔ All)
    → (IsOn first last x ↔ All)
ended ring i from x y first last All over before =
    let here : (IsOn first last x × PassesFrom from [] x y) ↔ All =
    rw (ring_end ring i over) at before in
    (λ on. here.0 (on, tt), λ all. (here.1 all).0)
