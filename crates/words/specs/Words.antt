-- The words of a line: this project's own rule. Words are separated by exactly one blank, with none
-- at either end.
use Rattle.std.specs.Prelude.{◌≢◌, ℕ, ◌+◌, ◌==◌, List, [], length, Option, Some, None}
use Rattle.std.specs.Borrow.{Bor}
use Rattle.std.specs.List.{All, slice_split}

-- a line has one more word than it has blanks, and some of them may be empty
unfoldable pub words : List ℕ → List (List ℕ)
words bytes = slice_split (λ byte. byte == 32) bytes

-- the words left of a line; none if all of it was taken
abbrev pub words_left : Option (Bor (List ℕ)) → List (List ℕ)
words_left None = []
words_left (Some bytes) = words bytes.now

-- the number of bytes left of a line, counting the blank before them
abbrev pub bytes_left : Option (Bor (List ℕ)) → ℕ
bytes_left None = 0
bytes_left (Some bytes) = length bytes.now + 1

-- a word has no blank
abbrev pub IsWord : List ℕ → Type 0
IsWord word = All (λ byte. byte ≢ 32) word
