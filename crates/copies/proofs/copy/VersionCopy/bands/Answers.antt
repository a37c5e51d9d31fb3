-- Bits of either word are bits of both joined.
use Rattle.std.proofs.Common.{◌/◌}
use Rattle.bits.proofs.BandLemmas.{joined_before, joined_here}
use Rattle.copies.proofs.copy.VersionCopy.bands.Goals as goal

pub returns-clause-banded : goal.returns-clause-banded
returns-clause-banded c = λ x y one. joined_before _ _ (y / 64) (c.bands.ensures x y one)

pub returns-clause-unread : goal.returns-clause-unread
returns-clause-unread c = λ k one. joined_here _ _ k one
