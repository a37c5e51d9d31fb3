-- The floored quotient is the first column.
use Rattle.std.proofs.Common.{arith, FitsSigned, w64, ◌*ℤ◌, ◌-ℤ◌, pos}
use Rattle.std.proofs.lemmas.Int.{ints, to_z-of_z}
use Rattle.footprint.proofs.Quotients.{first_is_minus}
use Rattle.footprint.proofs.side.first_column.Goals as goal

pub returns : goal.returns
returns c =
    let few = c.requires.free_few in
    let low = c.requires.dy_few.low in
    let high = c.requires.dy_few.high in
    let one : FitsSigned w64 (pos 0 -ℤ c.args.free) = omega (arith, ints, few) in
    let other : FitsSigned w64 (pos 0 -ℤ c.args.dy) = omega (arith, ints, low, high) in
    let another : FitsSigned w64 ((pos 0 -ℤ c.args.dy) *ℤ pos 65536) =
    omega (arith, ints, low, high) in
    let fits : FitsSigned w64 c.div_euclid.result = record { sfits = c.div_euclid.type_inv } in
    let range_free = c.ranges.free in
    let range_dy = c.ranges.dy in
    let value = simp to_z-of_z at c.div_euclid.ensures in
    rw (to_z-of_z w64 c.div_euclid.result fits)
    (first_is_minus c.args.free c.args.dy c.div_euclid.result c.requires.some value)
