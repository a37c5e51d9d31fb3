-- A tile as 64 words of 64 bits, one per row: this project's own rule. Bit j of word i is the cell
-- of column j and row i of the tile.
use Rattle.std.specs.Prelude.{ℕ, ◌+◌, ◌-◌, ◌*◌, ◌/◌, ◌%◌, min, ◌==◌, ◌&&◌, nat_lt, nat_le, Bool}
use Rattle.std.specs.Prelude.{not, List, map, sum_by, count_by, slice_index, if◌then◌else◌}
use Rattle.std.specs.Int.{bit_at}
use Rattle.std.specs.List.{list_any, range_with_len}
use Rattle.bits.specs.Cells.{Cells}
use Rattle.bits.specs.Changes.{differs}
use Rattle.bits.specs.Words.{words_across}
use Rattle.bits.specs.Tiles.{tile_count, tile_has, word_where, row_word}

-- the words of the tile at position k
unfoldable pub tile_words : Cells → ℕ → List ℕ
tile_words cells k = map (row_word cells k) (range_with_len 0 64)

-- whether the bit of column j is 1
abbrev pub is_bit : ℕ → ℕ → Bool
is_bit word j = bit_at word j == 1

-- the word with columns x0 to x1 - 1 set, each to its own value
unfoldable pub filled_word : ℕ → ℕ → ℕ → (ℕ → Bool) → ℕ
filled_word word x0 x1 value =
    word_where (λ j. if nat_le x0 j && nat_lt j x1 then value j else is_bit word j) 64

-- the words of a tile with columns x0 to x1 - 1 of rows y0 to y1 - 1 set, cell by cell
unfoldable pub filled_words : List ℕ → ℕ → ℕ → ℕ → ℕ → (ℕ → ℕ → Bool) → List ℕ
filled_words words x0 y0 x1 y1 value =
    map (λ i. if nat_le y0 i && nat_lt i y1 then filled_word (slice_index words i) x0 x1
    (λ j. value j i) else slice_index words i) (range_with_len 0 64)

-- one value for each cell
abbrev pub every : Bool → ℕ → ℕ → Bool
every value x y = value

-- a picture laid with its cell (x, y) on cell (x0, y0)
abbrev pub laid : (ℕ → ℕ → Bool) → ℕ → ℕ → ℕ → ℕ → ℕ → ℕ → Bool
laid value x y x0 y0 j i = value (x + (j - x0)) (y + (i - y0))

-- how many columns differ between two words
unfoldable pub bits_changed : ℕ → ℕ → ℕ
bits_changed old new = count_by (λ j. differs (is_bit old j) (is_bit new j)) (range_with_len 0 64)

-- how many cells differ between two tiles
unfoldable pub words_changed : List ℕ → List ℕ → ℕ
words_changed old new =
    sum_by (λ i. bits_changed (slice_index old i) (slice_index new i)) (range_with_len 0 64)

-- whether a row differs between two tiles
unfoldable pub words_differ : List ℕ → List ℕ → Bool
words_differ old new =
    list_any (λ i. not (slice_index old i == slice_index new i)) (range_with_len 0 64)

-- how many cells of the tile at position k differ between two bitmaps; none past the edge
unfoldable pub tile_changes : Cells → Cells → ℕ → ℕ
tile_changes old new k =
    sum_by (λ i. count_by (λ j. differs (tile_has old k i j) (tile_has new k i j))
    (range_with_len 0 64)) (range_with_len 0 64)

-- how many cells differ, tile by tile
unfoldable pub changes_by_tile : Cells → Cells → ℕ
changes_by_tile old new = sum_by (tile_changes old new) (range_with_len 0 (tile_count old))

-- a column of the map, counted from the first of the tile at position k, and at most 64
abbrev pub within_column : Cells → ℕ → ℕ → ℕ
within_column cells k x = min (x - 64 * (k % words_across cells.width)) 64

-- a row of the map, counted from the first of the tile at position k, and at most 64
abbrev pub within_row : Cells → ℕ → ℕ → ℕ
within_row cells k y = min (y - 64 * (k / words_across cells.width)) 64
