-- The order of keys of obstacles that are cells.
use Rattle.std.proofs.Common.{◌≡◌, ℕ, ◌<◌, ◌⊎◌, inl, inr, ◌∙◌, arith}
use Rattle.metric.specs.Cellwise.{Key, IsAtMost}

-- an order by a number, and by the rest where numbers are equal, is transitive where the order of
-- the rest is
first_transitive : {R S T : Type 0} (a b c : ℕ) → (R → S → T) → ((a < b) ⊎ ((a ≡ b) × R))
    → ((b < c) ⊎ ((b ≡ c) × S)) → (a < c) ⊎ ((a ≡ c) × T)
first_transitive a b c rest (inl low) (inl high) = inl (omega arith)
first_transitive a b c rest (inl low) (inr high) = let same = high.0 in inl (omega arith)
first_transitive a b c rest (inr low) (inl high) = let same = low.0 in inl (omega arith)
first_transitive a b c rest (inr low) (inr high) = inr (low.0 ∙ high.0, rest low.1 high.1)

-- a key that is at most another is at most what that is at most
pub IsAtMost-transitive : (p q r : Key) → IsAtMost p q → IsAtMost q r → IsAtMost p r
IsAtMost-transitive p q r low high = record {
  order = first_transitive p.distance q.distance r.distance
      (first_transitive p.column q.column r.column
      (first_transitive p.row_difference q.row_difference r.row_difference (λ a b. omega arith)))
      low.order high.order;
}
