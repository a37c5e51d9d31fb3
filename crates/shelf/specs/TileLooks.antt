-- What looks at a tile show of the version that a reader holds: this project's own rule.
use Rattle.std.specs.Prelude.{◌≡◌, ℕ, ◌<◌, List, slice_index, Some}
use Rattle.bits.specs.Tiles.{row_word}
use Rattle.events.specs.Story.{bitmap_of}
use Rattle.events.specs.Blocks.{directory_of}
use Rattle.events.specs.Words.{Base, tiles}
use Rattle.events.specs.Views.{story, blocks}
use Rattle.shelf.specs.Roles.{ReaderView, entries}

-- this word is the row of each tile of the version that a reader holds which has this block
abbrev pub ShowsRow : Base → ReaderView → ℕ → ℕ → ℕ → Type 0
ShowsRow z x block row word =
    (v p : ℕ) → x.holds ≡ Some v → p < tiles z
    → block ≡ slice_index (directory_of (blocks z (entries x.seen)) v) p
    → word ≡ row_word (bitmap_of (story z (entries x.seen)) v) p row

-- the first n of these words are those rows
abbrev pub ShowRows : Base → ReaderView → ℕ → ℕ → List ℕ → Type 0
ShowRows z x block n rows = (i : ℕ) → i < n → ShowsRow z x block i (slice_index rows i)
