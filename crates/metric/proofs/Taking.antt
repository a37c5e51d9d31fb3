-- Bytes that are taken one after another are taken together.
use Rattle.std.proofs.Common.{◌≡◌, ℕ, List, [], ◌∷◌, ◌++◌, Option, Some, None, refl, sym, subst}
use Rattle.std.proofs.Common.{◌∙◌, append_assoc}
use Rattle.metric.specs.Stream.{Takes, TakesByte}

-- where no byte is taken, all that was left is left
pub Takes-nothing : (rest : Option (List ℕ)) → Takes rest [] rest
Takes-nothing None = refl
Takes-nothing (Some left) = (left, refl, refl)

-- a byte that is taken after others is taken with them, where it is told which bytes are left
taken_more : (told left bytes : List ℕ) (byte : ℕ) (new : Option (List ℕ)) → told ≡ bytes ++ left
    → TakesByte (Some left) (Some byte) new → Takes (Some told) (bytes ++ byte ∷ []) new
taken_more told [] bytes byte new split next = let none : Some byte ≡ None = next.0 in absurd (cc)
taken_more told (b ∷ left) bytes byte new split next =
    let same : byte ≡ b = let some = next.0 in cc in
    (left, next.1, split ∙ rw (same) (sym (append_assoc bytes (b ∷ []) left)))

-- a byte that is taken after others is taken with them
pub Takes-more : (old between new : Option (List ℕ)) (bytes : List ℕ) (byte : ℕ)
    → Takes old bytes between → TakesByte between (Some byte) new
    → Takes old (bytes ++ byte ∷ []) new
Takes-more None between new bytes byte taken next =
    let told : TakesByte None (Some byte) new =
    subst (λ r. TakesByte r (Some byte) new) taken next in told
Takes-more (Some told) between new bytes byte (left, rest, split) next =
    taken_more told left bytes byte new split (subst (λ r. TakesByte r (Some byte) new) rest next)

-- bytes that are taken after others are taken with them, where it is told which bytes are left
taken_behind : (told left bytes more : List ℕ) (new : Option (List ℕ)) → told ≡ bytes ++ left
    → Takes (Some left) more new → Takes (Some told) (bytes ++ more) new
taken_behind told left bytes more new split (rest, is_rest, taken) =
    (rest, is_rest, split ∙ rw (taken) (sym (append_assoc bytes more rest)))

-- bytes that are taken after others are taken with them
pub Takes-behind : (old between new : Option (List ℕ)) (bytes more : List ℕ)
    → Takes old bytes between → Takes between more new → Takes old (bytes ++ more) new
Takes-behind None between new bytes more taken next =
    let told : Takes None more new = subst (λ r. Takes r more new) taken next in told
Takes-behind (Some told) between new bytes more (left, rest, split) next =
    taken_behind told left bytes more new split (subst (λ r. Takes r more new) rest next)
