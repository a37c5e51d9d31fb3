-- The words before the next one are written.
use Rattle.std.proofs.Common.{◌≡◌}
use Rattle.bits.specs.Stored.{cells_stored, IsStored}
use Rattle.bits.proofs.PutLemmas.{row_front}
use Rattle.bits.proofs.write.write_row.Given as goal

abbrev pub invariant-words : goal.invariant-words
invariant-words l = record {
  stored : IsStored l.width l.height l.words;
  written : cells_stored l.width l.height l.words
      ≡ row_front (cells_stored l.width l.height l.fn.words) l.y l.row l.index;
}
