-- What a borrow of a tile's words leaves in the tile: this project's own rule.
use Rattle.std.specs.Prelude.{ℕ, List}
use Rattle.std.specs.Borrow.{Lends, MutBor, Fml}
use Rattle.arena.specs.Ownership.{block_row}
use Rattle.arena.specs.declared.region.Tile.{Tile}
use Rattle.arena.specs.contracts.region.Tile.{the_row}

-- tile t with the words ws in place of its own
abbrev pub with_words : Tile → List ℕ → Tile
with_words t ws = record t { words = ws }

-- when the borrow r ends, the tile that t refers to has the last words that r refers to
abbrev pub LendsWords : MutBor Tile → MutBor (List ℕ) → Fml
LendsWords t r = Lends the_row block_row t r (with_words t.now)
