-- The line of a row is assembled an entry at a time.
use Rattle.std.proofs.Common.{◌≡◌, ℕ, List, [], ◌∷◌, ◌++◌, map, Bool, Option, ap, sym}
use Rattle.std.specs.List.{join_with_byte, flat_map}
use Rattle.std.proofs.lemmas.List.{append-nil}
use Rattle.metric.specs.declared.near.Near.{Near}
use Rattle.printing.specs.Table.{entry_text, row_line}

-- pieces that are joined by a byte are the first piece, and then each other one after that byte
pub join_with_byte-cons : {X : Type 0} (byte : ℕ) (f : X → List ℕ) (x : X) (xs : List X)
    → join_with_byte byte (map f (x ∷ xs)) ≡ f x ++ flat_map (λ y. byte ∷ f y) xs
join_with_byte-cons byte f x [] = sym (append-nil (f x))
join_with_byte-cons byte f x (y ∷ ys) =
    ap (λ t. f x ++ (byte ∷ t)) (join_with_byte-cons byte f y ys)

-- the line of a row is its first entry, then each other one after a blank, and LF
pub row_line-cons : (nearest : Bool) (first : Option Near) (others : List (Option Near))
    → row_line nearest (first ∷ others)
    ≡ (entry_text nearest first ++ flat_map (λ near. 32 ∷ entry_text nearest near) others)
    ++ 10 ∷ []
row_line-cons nearest first others =
    ap (λ t. t ++ 10 ∷ []) (join_with_byte-cons 32 (entry_text nearest) first others)
