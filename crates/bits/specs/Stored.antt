-- A bitmap in words: this project's own rule. The rows lie one after another, each in as many words
-- as it needs.
use Rattle.std.specs.Prelude.{◌≡◌, ℕ, ◌+◌, ◌*◌, ◌/◌, ◌%◌, ◌<◌, ◌≤◌, ◌==◌, Bool, false, List, length}
use Rattle.std.specs.Prelude.{slice_index}
use Rattle.std.specs.Int.{bit_at}
use Rattle.bits.specs.Cells.{Cells, cells_where, IsSide}
use Rattle.bits.specs.Words.{words_across}

-- what the words say of cell (x, y), if a row takes this many of them
abbrev pub is_stored : ℕ → List ℕ → ℕ → ℕ → Bool
is_stored across words x y = bit_at (slice_index words (y * across + x / 64)) (x % 64) == 1

-- the bitmap in the words
abbrev pub cells_stored : ℕ → ℕ → List ℕ → Cells
cells_stored width height words = cells_where width height (is_stored (words_across width) words)

-- the words are a bitmap of this size, and their bits past its edge are 0
pub record IsStored (width height : ℕ) (words : List ℕ) : Type 0 where
  pub width_is : IsSide width
  pub height_is : IsSide height
  pub as_many : length words ≡ height * words_across width
  pub edge : (x y : ℕ) → width ≤ x → x < 64 * words_across width → y < height
      → is_stored (words_across width) words x y ≡ false
