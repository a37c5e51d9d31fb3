-- The tiles so far aren't said to be blank.
use Rattle.libclearmap.proofs.Names.{◌≡◌, ℕ, ◌+◌, ◌<◌, ◌≤◌, get_or, bit_at, cells_of_bits}
use Rattle.libclearmap.specs.Paints.{IsChangedTo}
use Rattle.libclearmap.proofs.shown.show_tiles.Given as goal

abbrev pub invariant-tiles : goal.invariant-tiles
invariant-tiles l = record {
  same : IsChangedTo l.map l.fn.words l.map l.words (cells_of_bits l.map l.fn.words);
  shown : (k : ℕ) → l.first ≤ k → k < l.tile
      → bit_at (get_or l.words (l.map.tiles + l.band) 0) k ≡ 0;
}
