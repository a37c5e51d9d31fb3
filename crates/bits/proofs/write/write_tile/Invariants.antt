-- The rows of the tile before this one are written.
use Rattle.std.proofs.Common.{◌≡◌}
use Rattle.bits.specs.Stored.{cells_stored, IsStored}
use Rattle.bits.proofs.PutLemmas.{put_above}
use Rattle.bits.proofs.write.write_tile.Given as goal

abbrev pub invariant-rows : goal.invariant-rows
invariant-rows l = record {
  stored : IsStored l.width l.height l.words;
  written : cells_stored l.width l.height l.words
      ≡ put_above (cells_stored l.width l.height l.fn.words) l.position l.tile l.y;
}
