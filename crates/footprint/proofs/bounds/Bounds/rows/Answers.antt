-- Those that overlap the range, of those that a map has.
use Rattle.std.proofs.Common.{FitsSigned, rules, w32, w64, pos}
use Rattle.std.proofs.lemmas.Int.{to_z-of_z}
use Rattle.footprint.proofs.bounds.Bounds.rows.Goals as goal

pub returns-clause-on : goal.returns-clause-on
returns-clause-on c = λ n.
    let fit_least : FitsSigned w32 c.args.self.top = search rules in
    let fit_most : FitsSigned w32 c.args.self.bottom = search rules in
    let fit_first : FitsSigned w64 c.over.result.first = search rules in
    let fit_last : FitsSigned w64 c.over.result.last = search rules in
    let over = simp to_z-of_z at c.over.ensures in
    let on = c.within.ensures.on in (
      λ is. let both = (on n).0 is in (both.0, (over (pos n)).0 both.1),
      λ both. (on n).1 (both.0, (over (pos n)).1 both.1),
    )
