-- The first column passes, or is the greater of two.
use Rattle.std.proofs.Common.{arith, FitsSigned, w64, pos, ◌*ℤ◌, ◌+ℤ◌, ◌-ℤ◌, ◌≤◌, unsigned_abs}
use Rattle.std.proofs.lemmas.Int.{fits_signed_mul, ints, to_z-of_z}
use Rattle.footprint.proofs.Quotients.{first_greater, first_kept}
use Rattle.footprint.proofs.side.first_left.Goals as goal

pub overflow_mul-first : goal.overflow_mul-first
overflow_mul-first c =
    let low = c.requires.dy_few.low in
    let high = c.requires.dy_few.high in
    let from = c.if-first-ge0.true in
    let to = c.if-first-le4096.true in
    let fit_first = c.ranges.first in
    let fit_dy = c.ranges.dy in
    let fit_next : FitsSigned w64 (c.args.first +ℤ pos 1) = omega (arith, ints, from, to) in
    let fit_rise : FitsSigned w64 (pos 0 -ℤ c.args.dy) = omega (arith, ints, low, high) in
    let fit_steps : FitsSigned w64 ((pos 0 -ℤ c.args.dy) *ℤ pos 65536) =
    omega (arith, ints, low, high) in
    let few : unsigned_abs (c.args.first +ℤ pos 1) ≤ 4097 = omega (arith, ints, from, to) in
    let less : unsigned_abs ((pos 0 -ℤ c.args.dy) *ℤ pos 65536) ≤ 140737488289792 =
    omega (arith, ints, low, high) in
    simp to_z-of_z (fits_signed_mul w64 (c.args.first +ℤ pos 1)
    ((pos 0 -ℤ c.args.dy) *ℤ pos 65536) 4097 140737488289792 few less (omega arith))

pub returns-then-free-first : goal.returns-then-free-first
returns-then-free-first c =
    let low = c.requires.dy_few.low in
    let high = c.requires.dy_few.high in
    let few_free = c.requires.free_few in
    let from = c.if-first-ge0.true in
    let to = c.if-first-le4096.true in
    let fit_first = c.ranges.first in
    let fit_dy = c.ranges.dy in
    let fit_free = c.ranges.free in
    let fit_against : FitsSigned w64 (pos 0 -ℤ c.args.free) = omega (arith, ints, few_free) in
    let fit_next : FitsSigned w64 (c.args.first +ℤ pos 1) = omega (arith, ints, from, to) in
    let fit_rise : FitsSigned w64 (pos 0 -ℤ c.args.dy) = omega (arith, ints, low, high) in
    let fit_steps : FitsSigned w64 ((pos 0 -ℤ c.args.dy) *ℤ pos 65536) =
    omega (arith, ints, low, high) in
    let few : unsigned_abs (c.args.first +ℤ pos 1) ≤ 4097 = omega (arith, ints, from, to) in
    let less : unsigned_abs ((pos 0 -ℤ c.args.dy) *ℤ pos 65536) ≤ 140737488289792 =
    omega (arith, ints, low, high) in
    let fit : FitsSigned w64 ((c.args.first +ℤ pos 1) *ℤ ((pos 0 -ℤ c.args.dy) *ℤ pos 65536)) =
    fits_signed_mul w64 (c.args.first +ℤ pos 1) ((pos 0 -ℤ c.args.dy) *ℤ pos 65536) 4097
    140737488289792 few less (omega arith) in
    let test = simp to_z-of_z at c.if-free-first.true in
    simp to_z-of_z (first_kept c.args.free c.args.dy c.args.first c.requires.some
    (omega (arith, ints, test)))

pub returns : goal.returns
returns c =
    let fit : FitsSigned w64 c.max.result = record { sfits = c.max.type_inv } in
    let fit_bound : FitsSigned w64 c.first_column.result =
    record { sfits = c.first_column.type_inv } in
    let fit_first = c.ranges.first in
    let fit_dy = c.ranges.dy in
    let fit_free = c.ranges.free in
    let bounds = simp to_z-of_z at c.first_column.ensures in
    let is = simp to_z-of_z at c.max.ensures.value in
    simp to_z-of_z
    (first_greater c.args.free c.args.dy c.args.first c.first_column.result c.max.result is bounds)
