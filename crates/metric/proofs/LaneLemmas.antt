-- Eight numbers side by side are worked number by number.
use Rattle.std.proofs.Common.{◌≡◌, ℕ, ◌-◌, ◌^◌, ◌<◌, Bool, false, cond, ltb, max, min, List, length}
use Rattle.std.proofs.Common.{get_or, map, ap, sym, ◌∙◌, arith, w16}
use Rattle.std.proofs.lemmas.Bool.Decides.{nat_tests}
use Rattle.std.specs.Simd.Lanes.{sel_l, top, zip2}
use Rattle.std.proofs.lemmas.Simd.{get_or-sel_l, get_or-zip2, length-zip2, tops_compared}

-- each of eight numbers is chosen from one list or another by the test of the two numbers at its
-- place
pub chosen_at : (t : ℕ → ℕ → Bool) (a b xs ys : List ℕ) (i : ℕ) → length a ≡ 8 → length b ≡ 8
    → length xs ≡ 8 → length ys ≡ 8 → i < 8
    → get_or (sel_l (map (top 15) (zip2 (λ x y. cond (t x y) (2 ^ 16 - 1) 0) a b)) xs ys) i 0
    ≡ cond (t (get_or a i 0) (get_or b i 0)) (get_or xs i 0) (get_or ys i 0)
chosen_at t a b xs ys i a_is b_is xs_is ys_is within =
    let tests : length (zip2 t a b) ≡ length a = length-zip2 t a b (a_is ∙ sym b_is) in
    ap (λ (m : List Bool). get_or (sel_l m xs ys) i 0) (tops_compared w16 t a b)
    ∙ (get_or-sel_l (zip2 t a b) xs ys i 0 (omega (arith, tests, a_is)) (omega (arith, xs_is))
    (omega (arith, ys_is))
    ∙ ap (λ (b : Bool). cond b (get_or xs i 0) (get_or ys i 0))
    (get_or-zip2 t a b i 0 0 false (omega (arith, a_is)) (omega (arith, b_is))))

-- choosing the second of two numbers where the first is less, and else the first, gives the larger
pub larger_by_test : (p r : ℕ) → cond (ltb p r) r p ≡ max p r
larger_by_test p r = grind (arith, nat_tests)

-- choosing the first of two numbers where it is less, and else the second, gives the lesser
pub lesser_by_test : (p r : ℕ) → cond (ltb p r) p r ≡ min p r
lesser_by_test p r = grind (arith, nat_tests)
