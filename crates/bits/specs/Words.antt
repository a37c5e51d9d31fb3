-- The rows of a bitmap as words of 64 bits: this project's own rule. Bit i of word k is the cell of
-- column 64 k + i; bits past the bitmap's edge are 0.
use Rattle.std.specs.Prelude.{◌≡◌, ℕ, ◌+◌, ◌*◌, ◌/◌, ◌<◌, List, length, slice_index, cond}
use Rattle.std.specs.Int.{bit_at}
use Rattle.bits.specs.Cells.{Cells, has}

-- how many words a row of this width takes
abbrev pub words_across : ℕ → ℕ
words_across width = (width + 63) / 64

-- these words are row y of the bitmap
pub record IsRowOf (cells : Cells) (y : ℕ) (words : List ℕ) : Type 0 where
  pub as_many : length words ≡ words_across cells.width
  pub bits : (k i : ℕ) → k < words_across cells.width → i < 64
      → bit_at (slice_index words k) i ≡ cond (has cells (64 * k + i) y) 1 0
