-- Where no band is left, the bitmap is the version.
use Rattle.std.proofs.Common.{arith}
use Rattle.copies.proofs.CopyingLemmas.{bands_copied_all, whole_copied}
use Rattle.copies.proofs.copy.VersionCopy.read_rest.Goals as goal

pub returns-then-self-eq0-clause-bitmap : goal.returns-then-self-eq0-clause-bitmap
returns-then-self-eq0-clause-bitmap g c =
    whole_copied _ _ _ _ _ _ c.requires.copying c.if-self-eq0.true

pub returns-clause-bitmap : goal.returns-clause-bitmap
returns-clause-bitmap g c =
    bands_copied_all _ _ _ _ _ _ c.bands.band c.bands.invariant.copying c.bands.invariant.read
    (let same = c.bands.invariant.copying.height_is in
    let first = c.requires.copying.height_is in
    omega (arith, c.bands-test.false, c.height.ensures.height, c.div_ceil-down.ensures))
