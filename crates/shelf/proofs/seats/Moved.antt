-- Which seat has which reader, where one reader has moved to another seat.
use Rattle.shelf.proofs.Names.{◌≡◌, ◌≢◌, ℕ, refl}
use native.Mathlib.Decide.{ℕ_discrete}

-- the number is one or another, as a decision says
abbrev pick : {P : Type 0} → Dec P → ℕ → ℕ → ℕ
pick (yes _) a b = a
pick (no _) a b = b

-- reader r has moved to this seat, and the others are in theirs
pub moved : (ℕ → ℕ) → ℕ → ℕ → ℕ → ℕ
moved owner r seat n = pick (ℕ_discrete n r) seat (owner n)

-- what holds of the new seat for the reader that moved, and of its seat for another, holds of each
-- reader's seat
pub moved-each : (owner : ℕ → ℕ) (r seat n : ℕ) (P : ℕ → Type 0) → (n ≡ r → P seat)
    → (n ≢ r → P (owner n)) → P (moved owner r seat n)
unfolding moved
moved-each owner r seat n P here else = go (ℕ_discrete n r)
  where
    go : (d : Dec (n ≡ r)) → P (pick d seat (owner n))
    go (yes e) = here e
    go (no f) = else f

-- the reader that moved is in its new seat
pub moved-here : (owner : ℕ → ℕ) (r seat : ℕ) → moved owner r seat r ≡ seat
moved-here owner r seat =
    moved-each owner r seat r (λ q. q ≡ seat) (λ e. refl) (λ f. absurd (f refl))

-- another reader than the one that moved is in its old seat
pub moved-else : (owner : ℕ → ℕ) (r seat n : ℕ) → n ≢ r → moved owner r seat n ≡ owner n
moved-else owner r seat n other =
    moved-each owner r seat n (λ q. q ≡ owner n) (λ e. absurd (other e)) (λ f. refl)
