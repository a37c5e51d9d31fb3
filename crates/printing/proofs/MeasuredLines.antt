-- The line of a row's distances is that of its nearest obstacles.
use Rattle.std.proofs.Common.{◌≡◌, ℕ, ◌==◌, suc, List, [], ◌∷◌, ◌++◌, map}
use Rattle.std.proofs.Common.{false, Option, Some, None, refl, ap, arith}
use Rattle.std.specs.List.{join_with_byte, flat_map}
use Rattle.metric.specs.declared.near.Near.{Near}
use Rattle.printing.specs.Measured.{AreDistances, IsDistanceOf, distance_text, distances_line}
use Rattle.printing.specs.Table.{entry_text, row_line}
use Rattle.printing.proofs.Lines.{join_with_byte-cons}

-- what is printed for a distance is what is printed for its nearest obstacle
pub distance_text-near : (near : Option Near) (number : ℕ) → IsDistanceOf near number
    → distance_text number ≡ entry_text false near
distance_text-near None number is = rw is refl
distance_text-near (Some near) number is =
    let less = is.1 in
    let other : (number == 4294967295) ≡ false = grind (arith, less) in
    rw (other, is.0) refl

-- what is printed for each distance of a line is what is printed for each of its nearest obstacles
entries_text : (nears : List (Option Near)) (numbers : List ℕ) → AreDistances nears numbers
    → map distance_text numbers ≡ map (entry_text false) nears
entries_text [] [] are = refl
entries_text [] (number ∷ numbers) are = let many = are.as_many in absurd (omega (arith, many))
entries_text (near ∷ nears) [] are = let many = are.as_many in absurd (omega (arith, many))
entries_text (near ∷ nears) (number ∷ numbers) are =
    let many = are.as_many in
    let first : distance_text number ≡ entry_text false near =
    distance_text-near near number (are.each 0 (omega arith)) in
    let others : map distance_text numbers ≡ map (entry_text false) nears =
    entries_text nears numbers
    (record {
      as_many = omega (arith, many);
      each = λ x inside. are.each (suc x) (omega (arith, inside));
    }) in
    rw (first, others) refl

-- the line of the distances is that of the nearest obstacles
pub distances_line-nears : (nears : List (Option Near)) (numbers : List ℕ)
    → AreDistances nears numbers → distances_line numbers ≡ row_line false nears
distances_line-nears nears numbers are =
    ap (λ entries. join_with_byte 32 entries ++ 10 ∷ []) (entries_text nears numbers are)

-- the line of a row's distances is the first of them, then each other one after a blank, and LF
pub distances_line-cons : (first : ℕ) (others : List ℕ)
    → distances_line (first ∷ others)
    ≡ (distance_text first ++ flat_map (λ distance. 32 ∷ distance_text distance) others) ++ 10 ∷ []
distances_line-cons first others =
    ap (λ t. t ++ 10 ∷ []) (join_with_byte-cons 32 distance_text first others)
