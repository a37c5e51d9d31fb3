-- The tiles of a bitmap, 64 by 64 cells each, counted in row-major order, and their rows as
-- numbers: this project's own rule.
use Rattle.std.specs.Prelude.{ℕ, zero, suc, ◌+◌, ◌*◌, ◌/◌, ◌%◌, ◌^◌, Bool, cond}
use Rattle.bits.specs.Cells.{Cells, has}
use Rattle.bits.specs.Words.{words_across}

-- the number of tiles in a column of tiles; a row of tiles has as many as a row has words
abbrev pub tiles_down : ℕ → ℕ
tiles_down height = (height + 63) / 64

-- the number of tiles
abbrev pub tile_count : Cells → ℕ
tile_count cells = words_across cells.width * tiles_down cells.height

-- the position of the tile that contains cell (x, y)
abbrev pub tile_of : Cells → ℕ → ℕ → ℕ
tile_of cells x y = y / 64 * words_across cells.width + x / 64

-- whether the cell in column j and row i of the tile at position k is an obstacle
abbrev pub tile_has : Cells → ℕ → ℕ → ℕ → Bool
tile_has cells k i j =
    has cells (64 * (k % words_across cells.width) + j) (64 * (k / words_across cells.width) + i)

-- the number whose bits are the first results of a test, as many as asked for
unfoldable pub word_where : (ℕ → Bool) → ℕ → ℕ
word_where test zero = 0
word_where test (suc n) = cond (test n) 1 0 * 2 ^ n + word_where test n

-- row i of the tile at position k as a number: bit j is column j, and 0 past the bitmap's edge
unfoldable pub row_word : Cells → ℕ → ℕ → ℕ
row_word cells k i = word_where (tile_has cells k i) 64
