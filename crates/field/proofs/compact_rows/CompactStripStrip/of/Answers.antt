-- The buffers are as long as a row.
use Rattle.std.proofs.Common.{arith}
use Rattle.std.proofs.lemmas.Grind.{common_steps}
use Rattle.field.proofs.compact_rows.CompactStripStrip.of.Goals as goal

pub push_rows-requires : goal.push_rows-requires
push_rows-requires g c = grind (arith, common_steps)
