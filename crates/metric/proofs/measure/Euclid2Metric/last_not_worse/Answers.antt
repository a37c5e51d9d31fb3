-- The quotient is the last cell at which the left column isn't worse; below the first cell there is
-- none.
use Rattle.std.proofs.Common.{◌≤◌, ◌<◌, refl, arith, FitsSigned, w64}
use Rattle.std.proofs.lemmas.Int.{to_z-of_z}
use Rattle.metric.specs.Distance.{euclid2}
use Rattle.metric.proofs.Separators.{euclid2_behind, euclid2_last}
use Rattle.metric.proofs.measure.Euclid2Metric.last_not_worse.Goals as goal

pub returns-then-right-left : goal.returns-then-right-left
returns-then-right-left c =
    let behind : euclid2 c.args.u c.args.gu < euclid2 c.args.i c.args.gi =
    omega (arith, c.of-left.ensures, c.of-right.ensures) in (
      refl,
      λ x within. euclid2_behind c.args.i c.args.gi c.args.u c.args.gu x c.requires.order
          behind,
    )

pub returns : goal.returns
returns c =
    let front : euclid2 c.args.i c.args.gi ≤ euclid2 c.args.u c.args.gu =
    omega (arith, c.of-left.ensures, c.of-right.ensures) in
    let fits : FitsSigned w64 c.from.result = record { sfits = c.from.type_inv } in
    rw (
      to_z-of_z w64 c.from.result fits,
      c.from.ensures,
      c.min.ensures,
      c.half_quotient-last.ensures,
      c.of-left.ensures,
      c.of-right.ensures,
    )
    (euclid2_last c.args.i c.args.gi c.args.u c.args.gu c.requires.order front)
