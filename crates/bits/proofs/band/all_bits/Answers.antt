-- A word joins its bits to those before it.
use Rattle.std.proofs.Common.{arith}
use Rattle.std.proofs.lemmas.Bool.{cases_lt}
use Rattle.bits.proofs.BandLemmas.{joined_before, joined_here}
use Rattle.bits.proofs.band.all_bits.Goals as goal

pub words-preserved : goal.words-preserved
words-preserved c = grind (arith, cases_lt, joined_before, joined_here)
