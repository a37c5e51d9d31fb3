-- The words of a line are split off one after another.
use Rattle.std.proofs.Common.{◌≡◌, ◌≢◌, ℕ, ◌+◌, ◌-◌, ◌≤◌, Bool, true, false, cond, eqb, List}
use Rattle.std.proofs.Common.{[], ◌∷◌, length, take, drop, Some, None, All, refl, ap, ◌∙◌}
use Rattle.std.proofs.Common.{arith}
use Rattle.std.specs.Prelude.{position}
use Rattle.std.specs.List.{slice_split, onto_first, position_or_len, join_with_byte}
use Rattle.std.proofs.lemmas.Bool.{eqb-false, ne_eqb}
use Rattle.std.proofs.lemmas.List.{take_rest}
use Rattle.std.proofs.lemmas.List.Elements.{All-cons, All-nil, All-head, All-tail}
use Rattle.std.proofs.lemmas.List.Splits.{slice_split_first, slice_split_none, slice_split_at}
use Rattle.std.proofs.lemmas.List.Splits.{join_with_byte-slice_split}
use Rattle.words.specs.Words.{words, IsWord}
use Rattle.std.proofs.lemmas.Bool.Decides.{nat_tests}

-- a byte is a blank
abbrev is_blank : ℕ → Bool
is_blank byte = eqb byte 32

-- a byte is the one at which bytes are split
abbrev is_at : ℕ → ℕ → Bool
is_at separator byte = eqb byte separator

-- bytes without a place to split are one part
whole : (separator : ℕ) (bytes : List ℕ) → length bytes ≤ position_or_len (is_at separator) bytes
    → slice_split (is_at separator) bytes ≡ bytes ∷ []
whole separator [] few = refl
whole separator (byte ∷ bytes) few = grind (arith, nat_tests, whole separator bytes)

-- where a place to split is found, the first part ends there
pub parts-first : (separator : ℕ) (bytes : List ℕ) (end : ℕ)
    → position (λ byte. eqb byte separator) bytes ≡ Some end
    → slice_split (λ byte. eqb byte separator) bytes
    ≡ take end bytes ∷ slice_split (λ byte. eqb byte separator)
    (take (length bytes - (end + 1)) (drop (end + 1) bytes))
parts-first separator bytes end e =
    rw (take_rest bytes (end + 1)) (grind (
      arith,
      nat_tests,
      slice_split_first (is_at separator) bytes 0,
    ))

-- where no place to split is found, all of the bytes are one part
pub parts-one : (separator : ℕ) (bytes : List ℕ)
    → position (λ byte. eqb byte separator) bytes ≡ None
    → slice_split (λ byte. eqb byte separator) bytes ≡ bytes ∷ []
parts-one separator bytes e = grind (arith, nat_tests, whole separator bytes)

-- bytes that are split have a part
pub parts-some : (separator : ℕ) (bytes : List ℕ) → (part : List ℕ) × (others : List (List ℕ))
    × (slice_split (λ byte. eqb byte separator) bytes ≡ part ∷ others)
parts-some separator [] = ([], [], refl)
parts-some separator (byte ∷ bytes) =
    some (is_at separator byte) byte (slice_split (is_at separator) bytes)
  where
    some : (b : Bool) (byte : ℕ) (parts : List (List ℕ)) → (part : List ℕ)
        × (others : List (List ℕ)) × (cond b ([] ∷ parts) (onto_first byte parts) ≡ part ∷ others)
    some true byte parts = ([], parts, refl)
    some false byte [] = (byte ∷ [], [], refl)
    some false byte (part ∷ parts) = (byte ∷ part, parts, refl)

-- where a blank is found, the first word ends there
pub words-blank : (bytes : List ℕ) (end : ℕ) → position is_blank bytes ≡ Some end
    → words bytes ≡ take end bytes ∷ words (take (length bytes - (end + 1)) (drop (end + 1) bytes))
unfolding words
words-blank bytes end e = parts-first 32 bytes end e

-- where no blank is found, all of the line is one word
pub words-one : (bytes : List ℕ) → position is_blank bytes ≡ None → words bytes ≡ bytes ∷ []
unfolding words
words-one bytes e = parts-one 32 bytes e

-- a line has a word
pub words-some : (bytes : List ℕ) → (word : List ℕ) × (others : List (List ℕ))
    × (words bytes ≡ word ∷ others)
unfolding words
words-some bytes = parts-some 32 bytes

-- the words of a line, joined, are the line
pub joined-words : (bytes : List ℕ) → join_with_byte 32 (words bytes) ≡ bytes
unfolding words
joined-words bytes = join_with_byte-slice_split 32 bytes

-- parts without a blank stay so with a byte before them: a blank starts a new part, any other byte
-- joins the first
plain-more : (byte : ℕ) (parts : List (List ℕ)) (b : Bool) → is_blank byte ≡ b → All IsWord parts
    → All IsWord (cond b ([] ∷ parts) (onto_first byte parts))
plain-more byte parts true e plain = All-cons IsWord [] parts (All-nil (λ other. other ≢ 32)) plain
plain-more byte [] false e plain =
    All-cons IsWord (byte ∷ []) []
    (All-cons (λ other. other ≢ 32) byte [] (eqb-false byte 32 e) (All-nil (λ other. other ≢ 32)))
    plain
plain-more byte (part ∷ parts) false e plain =
    All-cons IsWord (byte ∷ part) parts
    (All-cons (λ other. other ≢ 32) byte part (eqb-false byte 32 e)
    (All-head IsWord part parts plain)) (All-tail IsWord part parts plain)

-- no word has a blank
pub plain-words : (bytes : List ℕ) → All IsWord (words bytes)
unfolding words
plain-words [] = All-cons IsWord [] [] (All-nil (λ other. other ≢ 32)) (All-nil IsWord)
plain-words (byte ∷ bytes) =
    plain-more byte (slice_split is_blank bytes) (is_blank byte) refl (plain-words bytes)

-- a word passes no test for a blank
none-blank : (word : List ℕ) → IsWord word → All (λ byte. is_blank byte ≡ false) word
none-blank word plain = λ k d h. ne_eqb _ _ (plain k d h)

-- words that are joined into a line are that line's words
pub words-joined : (word : List ℕ) (others : List (List ℕ)) → All IsWord (word ∷ others)
    → words (join_with_byte 32 (word ∷ others)) ≡ word ∷ others
unfolding words
words-joined word [] plain =
    slice_split_none is_blank word (none-blank word (All-head IsWord word [] plain))
words-joined word (next ∷ others) plain =
    let rest : slice_split is_blank (join_with_byte 32 (next ∷ others)) ≡ next ∷ others =
    words-joined next others (All-tail IsWord word (next ∷ others) plain) in
    slice_split_at is_blank word 32 (join_with_byte 32 (next ∷ others))
    (none-blank word (All-head IsWord word (next ∷ others) plain)) refl
    ∙ ap (λ (parts : List (List ℕ)). word ∷ parts) rest
