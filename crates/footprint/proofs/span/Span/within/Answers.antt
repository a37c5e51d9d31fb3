-- The least is the greater of two, the greatest the lesser.
use Rattle.std.proofs.Common.{FitsSigned, rules, w64, arith, pos, ◌-ℤ◌}
use Rattle.std.proofs.lemmas.Int.{ints, to_z-of_z}
use Rattle.footprint.proofs.Ranges.{within_is}
use Rattle.footprint.proofs.span.Span.within.Goals as goal

pub returns-clause-on : goal.returns-clause-on
returns-clause-on c = λ n.
    let fit_first : FitsSigned w64 c.max-first.result = record { sfits = c.max-first.type_inv } in
    let fit_last : FitsSigned w64 c.min-last.result = record { sfits = c.min-last.type_inv } in
    let fit_self_first : FitsSigned w64 c.args.self.first = search rules in
    let fit_self_last : FitsSigned w64 c.args.self.last = search rules in
    let few = c.ranges.count in
    let fit_count : FitsSigned w64 (pos c.args.count -ℤ pos 1) = omega (arith, ints) in
    let test = simp to_z-of_z at c.if-last-first.false in
    let first = simp to_z-of_z at c.max-first.ensures.value in
    let fit_from : FitsSigned w64 c.from.result = record { sfits = c.from.type_inv } in
    let fit_less : FitsSigned w64 (c.from.result -ℤ pos 1) = rw c.from.ensures fit_count in
    let read = simp to_z-of_z at c.min-last.ensures.value in
    let last = rw c.from.ensures at read in
    simp to_z-of_z
    (within_is c.args.self.first c.args.self.last c.max-first.result c.min-last.result c.args.count n
    first last (omega (arith, ints, test)))
