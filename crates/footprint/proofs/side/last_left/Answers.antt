-- The last column passes, or is the lesser of two.
use Rattle.std.proofs.Common.{arith, FitsSigned, w64, pos, ◌*ℤ◌, ◌≤◌, unsigned_abs}
use Rattle.std.proofs.lemmas.Int.{fits_signed_mul, ints, to_z-of_z}
use Rattle.footprint.proofs.Quotients.{last_kept, last_lesser}
use Rattle.footprint.proofs.side.last_left.Goals as goal

pub returns-then-last-dy : goal.returns-then-last-dy
returns-then-last-dy c =
    let low = c.requires.dy_few.low in
    let high = c.requires.dy_few.high in
    let from = c.if-last-ge0.true in
    let to = c.if-last-le4096.true in
    let fit_last = c.ranges.last in
    let fit_dy = c.ranges.dy in
    let fit_free = c.ranges.free in
    let fit_steps : FitsSigned w64 (c.args.dy *ℤ pos 65536) = omega (arith, ints, low, high) in
    let few : unsigned_abs c.args.last ≤ 4096 = omega (arith, ints, from, to) in
    let less : unsigned_abs (c.args.dy *ℤ pos 65536) ≤ 140737488289792 =
    omega (arith, ints, low, high) in
    let fit : FitsSigned w64 (c.args.last *ℤ (c.args.dy *ℤ pos 65536)) = fits_signed_mul w64
    c.args.last (c.args.dy *ℤ pos 65536) 4096 140737488289792 few less (omega arith) in
    let test = simp to_z-of_z at c.if-last-dy.true in
    simp to_z-of_z (last_kept c.args.free c.args.dy c.args.last c.requires.some
    (omega (arith, ints, test)))

pub returns : goal.returns
returns c =
    let fit : FitsSigned w64 c.min.result = record { sfits = c.min.type_inv } in
    let fit_bound : FitsSigned w64 c.last_column.result = record { sfits = c.last_column.type_inv } in
    let fit_last = c.ranges.last in
    let fit_dy = c.ranges.dy in
    let fit_free = c.ranges.free in
    let bounds = simp to_z-of_z at c.last_column.ensures in
    let is = simp to_z-of_z at c.min.ensures.value in
    simp to_z-of_z
    (last_lesser c.args.free c.args.dy c.args.last c.last_column.result c.min.result is bounds)
