-- The readers of an opening, and what a flag counts for one.
use Rattle.shelf.proofs.Names.{rules, ◌≡◌, ℕ, zero, suc, ◌+◌, ◌<◌, ◌≤◌, List, [], ◌∷◌, ◌++◌, length}
use Rattle.shelf.proofs.Names.{refl, ap, sym, ◌∙◌, arith, eq-eqb, length-append, Option, Some, None}
use Rattle.shelf.proofs.Names.{◌⊎◌, All, map-append, length-map, bool_byte, unmet_by, Newcomer}
use Rattle.shelf.proofs.Names.{newcomer, newcomers}
use Rattle.shelf.specs.Store.{StoreId, readers_of}
use Rattle.std.specs.Prelude.{is_some}
use Rattle.std.proofs.Common.{map}
use Rattle.std.specs.List.{range_with_len}
use Rattle.std.proofs.lemmas.List.FromFn.{length-range_with_len}
use Rattle.std.proofs.Math.Seq.{get_or-append_seam}
use Rattle.events.proofs.shared_words.OpenWords.{range_with_len-push}
use Rattle.shelf.specs.Open.{all_newcomers}

-- the first n readers of a store and its next one are its first n + 1 readers
pub newcomers-push : (store : StoreId) (n : ℕ)
    → newcomers store n ++ newcomer n store ∷ [] ≡ newcomers store (n + 1)
newcomers-push store n =
    let up : suc n ≡ n + 1 = omega arith in
    sym (map-append (λ (m : ℕ). newcomer m store) (range_with_len 0 n) (n ∷ []))
    ∙ (ap (map (λ (m : ℕ). newcomer m store)) (range_with_len-push 0 n n (omega arith))
    ∙ ap (newcomers store) up)

-- each reader in a list that is made for a store is that store's
stores : (z : StoreId) (ns : List ℕ)
    → All (λ (n : Newcomer). n.store ≡ z) (map (λ n. record { number = n; store = z }) ns)
stores z [] k d within = absurd (omega arith)
stores z (n ∷ ns) zero d within = refl
stores z (n ∷ ns) (suc k) d within = stores z ns k d (omega arith)

-- the list of all readers of a store is as long as the store has readers
pub newcomers_counted : (z : StoreId) → length (all_newcomers z) ≡ readers_of z
newcomers_counted z = search (rules, length-map, length-range_with_len)

-- a reader that is taken from the list of all readers of a store is that store's
pub newcomer_of : (z : StoreId) (all front rest : List Newcomer) (x : Newcomer)
    → all ≡ all_newcomers z → front ++ x ∷ rest ≡ all → x.store ≡ z
newcomer_of z all front rest x all_is parts =
    let whole = parts ∙ all_is in
    let within : length front < length (all_newcomers z) =
    omega (arith, ap length whole, length-append front (x ∷ rest)) in
    rw (← get_or-append_seam front x rest x, whole)
    (stores z (range_with_len 0 (readers_of z)) (length front) x within)

-- where a reader is left to take, there is room for its seat
pub room_left : (z : StoreId) (all front rest : List Newcomer) (x : Newcomer) (seats room : ℕ)
    → all ≡ all_newcomers z → front ++ x ∷ rest ≡ all → seats ≡ length front → readers_of z ≤ room
    → seats < room
room_left z all front rest x seats room all_is parts seats_are enough =
    omega (arith, ap length (parts ∙ all_is), length-append front (x ∷ rest), newcomers_counted z)

-- the flag of an unmet commit, as a number, is how many entries of its reader are unmet
pub unmet_counts : (unmet : Option ℕ) (n : ℕ) → (unmet ≡ None) ⊎ (unmet ≡ Some n)
    → bool_byte (is_some unmet) ≡ unmet_by n unmet
unmet_counts unmet n either = search (rules, eq-eqb)
