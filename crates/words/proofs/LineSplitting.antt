-- The lines of a text are split off one after another.
use Rattle.std.proofs.Common.{◌≡◌, ℕ, ◌+◌, ◌-◌, List, [], ◌∷◌, length, take, drop, eqb, Some, None}
use Rattle.std.proofs.Common.{refl, ap, ◌∙◌}
use Rattle.std.specs.Prelude.{position}
use Rattle.std.specs.List.{slice_split}
use Rattle.std.specs.Str.Lines.{strip_carriage_return}
use Rattle.words.proofs.Splitting.{parts-first, parts-one, parts-some}
use Rattle.words.specs.TextLines.{ended_parts, lines_of}

-- a part before the parts of a text is a line before the lines of the text
ended_parts-more : (part bytes : List ℕ)
    → ended_parts (part ∷ slice_split (λ byte. eqb byte 10) bytes)
    ≡ strip_carriage_return part ∷ ended_parts (slice_split (λ byte. eqb byte 10) bytes)
ended_parts-more part bytes = let some = parts-some 10 bytes in rw some.2 refl

-- where a text has an LF, its first line ends there, and the other lines are those of the rest
pub lines_of-more : (text : List ℕ) (end : ℕ) → position (λ byte. eqb byte 10) text ≡ Some end
    → lines_of text ≡ strip_carriage_return (take end text)
    ∷ lines_of (take (length text - (end + 1)) (drop (end + 1) text))
unfolding lines_of
lines_of-more text end e =
    ap ended_parts (parts-first 10 text end e)
    ∙ ended_parts-more (take end text) (take (length text - (end + 1)) (drop (end + 1) text))

-- where a text has no LF, it has no line
pub lines_of-none : (text : List ℕ) → position (λ byte. eqb byte 10) text ≡ None
    → lines_of text ≡ []
unfolding lines_of
lines_of-none text e = ap ended_parts (parts-one 10 text e)
