-- The corner that a ring starts at makes no difference.
use Rattle.std.proofs.Common.{◌≡◌, ℕ, zero, suc, ◌-◌, ◌↔◌, inl, inr, refl, ap, sym, ◌∙◌}
use Rattle.std.proofs.Common.{arith, List, [], ◌∷◌, ◌++◌, length, get_or, subst, ℤ, pos}
use Rattle.std.specs.List.{Any}
use Rattle.std.proofs.lemmas.Bool.{cases_lt}
use Rattle.std.proofs.lemmas.List.{get_or_append_left, get_or_at, length-append}
use Rattle.metric.specs.declared.edge.Edge.{Edge}
use Rattle.metric.specs.declared.edge.Edge.TheVariants.{Open, Wall}
use Rattle.bits.specs.Cells.{Cells}
use Rattle.footprint.specs.declared.corner.Corner.{Corner}
use Rattle.footprint.specs.Polygon.{HasHit, Hits, IsOff, Passes, PassesFrom, last_of}

-- two rings whose corners pass the same tests, and whose sides separate the same squares
record AreAlike (ring other : List Corner) : Type 1 where
  any : (P : Corner → Type 0) → Any P ring → Any P other
  sides : (x y : ℤ) → PassesFrom (last_of ring) ring x y → PassesFrom (last_of other) other x y

-- what meets one of two rings that are alike meets the other
HasHit-alike : (cells : Cells) (ring other : List Corner) → AreAlike ring other
    → HasHit cells ring → HasHit cells other
HasHit-alike cells ring other alike (x, y, hit) = (
  x,
  y,
  record {
    obstacle = hit.obstacle;
    meets = record {
      columns = record {
        below = alike.any _ hit.meets.columns.below;
        above = alike.any _ hit.meets.columns.above;
      };
      rows = record {
        below = alike.any _ hit.meets.rows.below;
        above = alike.any _ hit.meets.rows.above;
      };
      sides = alike.sides (pos x) (pos y) hit.meets.sides;
    };
  },
)

-- what one of two rings that are alike hits the other hits
Hits-alike : (cells : Cells) (edge : Edge) (ring other : List Corner) → AreAlike ring other
    → Hits cells edge ring → Hits cells edge other
Hits-alike cells Open ring other alike hit = HasHit-alike cells ring other alike hit
Hits-alike cells Wall ring other alike (inl hit) = inl (HasHit-alike cells ring other alike hit)
Hits-alike cells Wall ring other alike (inr off) = inr (alike.any (IsOff cells) off)

-- the last corner of a ring that ends so
last_of-push : (rest : List Corner) (a : Corner) → last_of (rest ++ a ∷ []) ≡ a
last_of-push rest a =
    let long = length-append rest (a ∷ []) in
    let last : length rest ≡ length (rest ++ a ∷ []) - 1 = omega (arith, long) in
    get_or_at rest a [] (record { x = pos 0; y = pos 0 }) (length (rest ++ a ∷ []) - 1) last

-- the last corner of a ring is that of its later corners
last_of-more : (a b : Corner) (rest : List Corner) → last_of (a ∷ b ∷ rest) ≡ last_of (b ∷ rest)
last_of-more a b rest =
    let e : suc (suc (length rest)) - 1 ≡ suc (suc (length rest) - 1) = omega arith in
    ap (λ (n : ℕ). get_or (a ∷ b ∷ rest) n (record { x = pos 0; y = pos 0 })) e

-- one side more at the end
PassesFrom-push : (from : Corner) (rest : List Corner) (a : Corner) (x y : ℤ)
    → PassesFrom from (rest ++ a ∷ []) x y
    ↔ (PassesFrom from rest x y × Passes (last_of (from ∷ rest)) a x y)
PassesFrom-push from [] a x y = (λ side. (tt, side.0), λ both. (both.1, tt))
PassesFrom-push from (b ∷ rest) a x y =
    let later = PassesFrom-push b rest a x y in
    let last = last_of-more from b rest in (
      λ sides.
          let both = later.0 sides.1 in
          ((sides.0, both.0), subst (λ (c : Corner). Passes c a x y) (sym last) both.1),
      λ both.
          (both.0.0, later.1 (both.0.1, subst (λ (c : Corner). Passes c a x y) last both.1)),
    )

-- a corner of a ring is one of the ring that starts a corner later
later_any : (a : Corner) (rest : List Corner) (P : Corner → Type 0)
    → Any P (a ∷ rest) → Any P (rest ++ a ∷ [])
later_any a rest P (zero, c, within, is, holds) =
    let long = length-append rest (a ∷ []) in
    (length rest, c, omega (arith, long), get_or_at rest a [] c (length rest) refl ∙ is, holds)
later_any a rest P (suc k, c, within, is, holds) =
    let long = length-append rest (a ∷ []) in (
      k,
      c,
      omega (arith, long, within),
      get_or_append_left rest (a ∷ []) c k (omega (arith, within)) ∙ is,
      holds,
    )

-- a corner of the ring that starts a corner later is one of the ring
earlier_any : (a : Corner) (rest : List Corner) (P : Corner → Type 0)
    → Any P (rest ++ a ∷ []) → Any P (a ∷ rest)
earlier_any a rest P (k, c, within, is, holds) =
    let long = length-append rest (a ∷ []) in
    elim (cases_lt k (length rest)) [
      | inl before ↦ (
        suc k,
        c,
        omega (arith, before),
        sym (get_or_append_left rest (a ∷ []) c k before) ∙ is,
        holds,
      )
      | inr last ↦
          let here : length rest ≡ k = omega (arith, long, within, last) in
          (zero, c, omega arith, sym (get_or_at rest a [] c k here) ∙ is, holds)
    ]

-- the ring that starts a corner later is alike
later : (a : Corner) (rest : List Corner) → AreAlike (a ∷ rest) (rest ++ a ∷ [])
later a rest = record {
  any = later_any a rest;
  sides = λ x y sides.
      subst (λ (c : Corner). PassesFrom c (rest ++ a ∷ []) x y) (sym (last_of-push rest a))
      ((PassesFrom-push a rest a x y).1 (sides.1, sides.0));
}

-- the ring is alike to the one that starts a corner later
earlier : (a : Corner) (rest : List Corner) → AreAlike (rest ++ a ∷ []) (a ∷ rest)
earlier a rest = record {
  any = earlier_any a rest;
  sides = λ x y sides.
      let both = (PassesFrom-push a rest a x y).0
      (subst (λ (c : Corner). PassesFrom c (rest ++ a ∷ []) x y) (last_of-push rest a) sides) in
      (both.1, both.0);
}

-- a ring that starts a corner later hits the same
pub Hits-later : (cells : Cells) (edge : Edge) (a : Corner) (rest : List Corner)
    → Hits cells edge (a ∷ rest) ↔ Hits cells edge (rest ++ a ∷ [])
Hits-later cells edge a rest = (
  Hits-alike cells edge (a ∷ rest) (rest ++ a ∷ []) (later a rest),
  Hits-alike cells edge (rest ++ a ∷ []) (a ∷ rest) (earlier a rest),
)
