-- The lines of a text: this project's own rule. LF ends a line, and one CR directly before the LF
-- is dropped.
use Rattle.std.specs.Prelude.{ℕ, ◌==◌, List, [], ◌∷◌}
use Rattle.std.specs.List.{slice_split}
use Rattle.std.specs.Str.Lines.{strip_carriage_return}

-- all parts of a text between its LFs are lines, except the last, after which there is no LF
abbrev pub ended_parts : List (List ℕ) → List (List ℕ)
ended_parts [] = []
ended_parts (last ∷ []) = []
ended_parts (part ∷ next ∷ parts) = strip_carriage_return part ∷ ended_parts (next ∷ parts)

-- the lines of a text; what follows its last LF isn't a line
unfoldable pub lines_of : List ℕ → List (List ℕ)
lines_of text = ended_parts (slice_split (λ byte. byte == 10) text)
