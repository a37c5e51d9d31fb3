-- The product of two such factors fits.
use Rattle.std.proofs.Common.{arith, FitsSigned, w64, ◌*ℤ◌, refl}
use Rattle.std.proofs.lemmas.Int.{to_z-of_z, fits_signed_from_abs}
use Rattle.footprint.proofs.Multiples.{product_few}
use Rattle.footprint.proofs.side.product.Goals as goal

pub returns-clause-value : goal.returns-clause-value
returns-clause-value c =
    let few = product_few c.args.a c.args.b c.requires.a_few c.requires.b_few in
    let fits : FitsSigned w64 (c.args.a *ℤ c.args.b) =
    fits_signed_from_abs w64 (c.args.a *ℤ c.args.b) (omega (arith, few)) in
    rw (
      to_z-of_z w64 c.args.a c.ranges.a,
      to_z-of_z w64 c.args.b c.ranges.b,
      to_z-of_z w64 (c.args.a *ℤ c.args.b) fits,
    ) refl

pub returns-clause-few : goal.returns-clause-few
returns-clause-few c =
    let few = product_few c.args.a c.args.b c.requires.a_few c.requires.b_few in
    let fits : FitsSigned w64 (c.args.a *ℤ c.args.b) =
    fits_signed_from_abs w64 (c.args.a *ℤ c.args.b) (omega (arith, few)) in
    rw (
      to_z-of_z w64 c.args.a c.ranges.a,
      to_z-of_z w64 c.args.b c.ranges.b,
      to_z-of_z w64 (c.args.a *ℤ c.args.b) fits,
    ) few
