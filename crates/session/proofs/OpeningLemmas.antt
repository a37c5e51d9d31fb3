-- The readers of an opening become the sessions, in their order.
use Rattle.std.proofs.Common.{◌≡◌, ℕ, List, [], ◌∷◌, ◌++◌, length, map, refl, ap, sym, ◌∙◌, arith}
use Rattle.std.proofs.Common.{append-nil}
use Rattle.std.specs.List.{range_with_len}
use Rattle.std.proofs.lemmas.List.{length-map}
use Rattle.shelf.specs.Open.{Newcomer, all_newcomers}
use Rattle.shelf.specs.Roles.{ReaderView, reader_at_opening}
use Rattle.shelf.specs.Store.{StoreId, readers_of}
use Rattle.session.specs.Sessions.{all_fresh}

-- there are as many sessions as readers were taken
pub sessions_counted : (front : List Newcomer) (sessions : List ReaderView)
    → sessions ≡ map (λ (n : Newcomer). reader_at_opening n.number) front
    → length sessions ≡ length front
sessions_counted front sessions are =
    ap length are ∙ length-map front (λ (n : Newcomer). reader_at_opening n.number)

-- the sessions of the readers with some numbers are fresh readers with these numbers
sessions_map : (z : StoreId) (ns : List ℕ)
    → map (λ (n : Newcomer). reader_at_opening n.number)
    (map (λ n. record { number = n; store = z }) ns) ≡ map reader_at_opening ns
sessions_map z [] = refl
sessions_map z (n ∷ ns) =
    ap (λ (xs : List ReaderView). reader_at_opening n ∷ xs) (sessions_map z ns)

-- once all readers are taken the sessions are those of the store
pub sessions_whole : (z : StoreId) (all front rest : List Newcomer) (sessions : List ReaderView)
    → all ≡ all_newcomers z → front ++ rest ≡ all → rest ≡ []
    → sessions ≡ map (λ (n : Newcomer). reader_at_opening n.number) front → sessions ≡ all_fresh z
sessions_whole z all front rest sessions all_is parts none sessions_are =
    let whole : front ≡ all_newcomers z = sym (append-nil front)
    ∙ (ap (λ (ns : List Newcomer). front ++ ns) (sym none) ∙ (parts ∙ all_is)) in
    sessions_are
    ∙ (ap (map (λ (n : Newcomer). reader_at_opening n.number)) whole
    ∙ sessions_map z (range_with_len 0 (readers_of z)))

-- a list of length 0 is empty
pub nothing_left : (ns : List Newcomer) → length ns ≡ 0 → ns ≡ []
nothing_left [] none = refl
nothing_left (n ∷ ns) none = absurd (omega arith)
