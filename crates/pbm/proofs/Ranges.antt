-- Lists that go over a range.
use Rattle.std.proofs.Common.{◌≡◌, ℕ, zero, suc, ◌+◌, ◌-◌, ◌*◌, ◌≤◌, List, [], ◌∷◌, ◌++◌, map}
use Rattle.std.proofs.Common.{sym, ap, ◌∙◌, append_assoc, arith}
use Rattle.std.specs.List.{range_with_len, flat_map}
use Rattle.std.proofs.lemmas.Grind.{flat_map-append, common_steps}
use Rattle.std.proofs.lemmas.List.{append-nil, map-append}
use Rattle.std.proofs.lemmas.Bool.Decides.{nat_tests}

-- a range goes on where another ends
pub range-append : (a m n : ℕ)
    → range_with_len a (m + n) ≡ range_with_len a m ++ range_with_len (a + m) n
range-append a zero n = grind (arith, nat_tests, common_steps)
range-append a (suc m) n =
    let more : suc m + n ≡ suc (m + n) = omega arith in
    let on : (a + 1) + m ≡ a + suc m = omega arith in
    rw more (ap (λ (t : List ℕ). a ∷ t)
    (range-append (a + 1) m n
    ∙ ap (λ (k : ℕ). range_with_len (a + 1) m ++ range_with_len k n) on))

-- the rows up to y, and row y, are the rows up to the one after it
range-row : (across y : ℕ)
    → range_with_len 0 ((y + 1) * across) ≡ range_with_len 0 (y * across)
    ++ range_with_len (y * across) across
range-row across y = grind (arith, nat_tests, common_steps, range-append)

-- a list that has an item for each place has one more row after the next row's items
pub map-row : (f : ℕ → ℕ) (before : List ℕ) (across y : ℕ)
    → (before ++ map f (range_with_len 0 (y * across)))
    ++ map f (range_with_len (y * across) across)
    ≡ before ++ map f (range_with_len 0 ((y + 1) * across))
map-row f before across y =
    grind (arith, nat_tests, common_steps, append_assoc, map-append, range-row)

-- a list that has some items for each place has one more row after the next row's items
pub flat_map-row : (f : ℕ → List ℕ) (before : List ℕ) (across y : ℕ)
    → (before ++ flat_map f (range_with_len 0 (y * across)))
    ++ flat_map f (range_with_len (y * across) across)
    ≡ before ++ flat_map f (range_with_len 0 ((y + 1) * across))
flat_map-row f before across y =
    grind (arith, nat_tests, common_steps, append_assoc, flat_map-append, range-row)

-- a range with one more place has its end as the last place
range-more : (a n : ℕ) → range_with_len a (n + 1) ≡ range_with_len a n ++ (a + n) ∷ []
range-more a n = range-append a n 1

-- a list of parts with the next one added is that of one more place
pub flat_map-more : (f : ℕ → List ℕ) (before : List ℕ) (a n : ℕ) (items : List ℕ)
    → items ≡ f (a + n) → (before ++ flat_map f (range_with_len a n)) ++ items
    ≡ before ++ flat_map f (range_with_len a (n + 1))
flat_map-more f before a n items is =
    grind (arith, nat_tests, common_steps, append-nil, append_assoc, flat_map-append, range-more)

-- a list that has some items for each place from a row on has one more row after the next row's
-- items
pub flat_map-row_from : (f : ℕ → List ℕ) (before : List ℕ) (across from y : ℕ) → from ≤ y
    → (before ++ flat_map f (range_with_len (from * across) ((y - from) * across)))
    ++ flat_map f (range_with_len (y * across) across)
    ≡ before ++ flat_map f (range_with_len (from * across) ((y + 1 - from) * across))
flat_map-row_from f before across from y order =
    let up : from + (y - from) ≡ y = omega (arith, order) in
    let start : from * across + (y - from) * across ≡ y * across = omega arith
    ∙ ap (λ (k : ℕ). k * across) up in
    let next : y + 1 - from ≡ (y - from) + 1 = omega (arith, order) in
    let both : (y - from) * across + across ≡ ((y - from) + 1) * across = omega arith in
    append_assoc before (flat_map f (range_with_len (from * across) ((y - from) * across)))
    (flat_map f (range_with_len (y * across) across))
    ∙ ap (λ (t : List ℕ). before ++ t)
    (ap (λ (k : ℕ). flat_map f (range_with_len (from * across) ((y - from) * across))
    ++ flat_map f (range_with_len k across)) (sym start)
    ∙ (sym (flat_map-append f (range_with_len (from * across) ((y - from) * across))
    (range_with_len (from * across + (y - from) * across) across))
    ∙ (ap (flat_map f) (sym (range-append (from * across) ((y - from) * across) across))
    ∙ (ap (λ (m : ℕ). flat_map f (range_with_len (from * across) m)) both
    ∙ ap (λ (m : ℕ). flat_map f (range_with_len (from * across) (m * across))) (sym next)))))

-- a list that has some items for each place has some rows more after those rows' items
pub flat_map-rows : (f : ℕ → List ℕ) (across from to : ℕ) → from ≤ to
    → flat_map f (range_with_len 0 (from * across))
    ++ flat_map f (range_with_len (from * across) ((to - from) * across))
    ≡ flat_map f (range_with_len 0 (to * across))
flat_map-rows f across from to order =
    grind (arith, nat_tests, common_steps, flat_map-append, range-append)
