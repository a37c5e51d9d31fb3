-- A bitmap with a word of a row, a row, or a tile written: this project's own rule.
use Rattle.std.specs.Prelude.{ℕ, List, slice_index, ◌/◌, ◌%◌, ◌==◌, ◌&&◌, if◌then◌else◌}
use Rattle.std.specs.Int.{bit_at}
use Rattle.bits.specs.Cells.{Cells, has, cells_where}
use Rattle.bits.specs.Tiles.{tile_of}
use Rattle.bits.specs.TileWords.{is_bit}

-- the bitmap with the cells of one word of row y set to its bits; bits past the edge are ignored
abbrev pub with_word : Cells → ℕ → ℕ → ℕ → Cells
with_word cells y index word =
    cells_where cells.width cells.height
    (λ a b. if b == y && a / 64 == index then bit_at word (a % 64) == 1 else has cells a b)

-- the bitmap with the cells of row y set to its words' bits; bits past the edge are ignored
abbrev pub with_row : Cells → ℕ → List ℕ → Cells
with_row cells y words =
    cells_where cells.width cells.height
    (λ a b. if b == y then is_bit (slice_index words (a / 64)) (a % 64) else has cells a b)

-- the bitmap with the cells of tile k set to its words' bits; bits past the edge are ignored
abbrev pub with_tile : Cells → ℕ → List ℕ → Cells
with_tile cells k words =
    cells_where cells.width cells.height
    (λ a b. if tile_of cells a b == k then is_bit (slice_index words (b % 64)) (a % 64)
    else has cells a b)
