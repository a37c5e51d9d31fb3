-- By the floored quotients.
use Rattle.std.proofs.Common.{arith, FitsSigned, w64, w32, ◌-ℤ◌, pos}
use Rattle.std.proofs.lemmas.Int.{ints, to_z-of_z}
use Rattle.footprint.proofs.Quotients.{range_is}
use Rattle.footprint.proofs.span.Span.over.Goals as goal

pub returns : goal.returns
returns c =
    let low_least = c.requires.least.low in
    let high_least = c.requires.least.high in
    let low_most = c.requires.most.low in
    let high_most = c.requires.most.high in
    let fit_least : FitsSigned w32 c.args.least = omega (arith, ints, low_least, high_least) in
    let fit_most : FitsSigned w32 c.args.most = omega (arith, ints, low_most, high_most) in
    let wide_least : FitsSigned w64 c.args.least = omega (arith, ints, low_least, high_least) in
    let wide_most : FitsSigned w64 c.args.most = omega (arith, ints, low_most, high_most) in
    let wide_less : FitsSigned w64 (c.args.most -ℤ pos 1) =
    omega (arith, ints, low_most, high_most) in
    let fit_first : FitsSigned w64 c.div_euclid.result = record { sfits = c.div_euclid.type_inv } in
    let fit_last : FitsSigned w64 c.div_euclid-2.result =
    record { sfits = c.div_euclid-2.type_inv } in
    let from = simp to_z-of_z at c.from.ensures in
    let from_2 = simp to_z-of_z at c.from-2.ensures in
    let first = simp (to_z-of_z, from) at c.div_euclid.ensures in
    let last = simp (to_z-of_z, from_2) at c.div_euclid-2.ensures in
    rw (to_z-of_z w64 c.div_euclid.result fit_first, to_z-of_z w64 c.div_euclid-2.result fit_last)
    (range_is c.args.least c.args.most c.div_euclid.result c.div_euclid-2.result first last)
