-- The columns are the same as integers.
use Rattle.std.proofs.Common.{FitsSigned, rules, w64, pos}
use Rattle.std.proofs.lemmas.Int.{to_z-of_z}
use Rattle.footprint.specs.Polygon.{PassesFrom, last_of}
use Rattle.footprint.proofs.Ranges.{left_in_map}
use Rattle.footprint.proofs.ring.covered.Goals as goal

pub returns-clause-on : goal.returns-clause-on
returns-clause-on c = λ x.
    let fit_first : FitsSigned w64 c.columns_left.result.first = search rules in
    let fit_last : FitsSigned w64 c.columns_left.result.last = search rules in
    let fit_row : FitsSigned w64 c.from.result = record { sfits = c.from.type_inv } in
    let read = simp to_z-of_z at c.columns_left.ensures in
    let left = simp c.from.ensures at read in
    left_in_map x c.args.columns.first c.args.columns.end c.within.result.first c.within.result.end
    c.columns_left.result.first c.columns_left.result.last c.span.result.first c.span.result.last
    (PassesFrom (last_of c.args.ring.now) c.args.ring.now (pos x) (pos c.args.y))
    c.span.ensures.first c.span.ensures.last (left (pos x)) (c.within.ensures.on x)
