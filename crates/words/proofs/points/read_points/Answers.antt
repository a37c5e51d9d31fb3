-- A line in which a point is missing has no count, and it has fewer points than bytes, so the count
-- can be raised. The point that was read joins those that are kept.
use Rattle.std.proofs.Common.{◌+◌, ◌++◌, take, length, ap, ◌∙◌, sym, rules, arith}
use Rattle.std.specs.Prelude.{option_map}
use Rattle.words.specs.Numbers.{points}
use Rattle.words.specs.Words.{words_left}
use Rattle.words.proofs.Pointing.{points-none, few-more, kept-none, kept-more}
use Rattle.words.proofs.points.read_points.Goals as goal

pub returns-in_err-cell-clause-count : goal.returns-in_err-cell-clause-count
returns-in_err-cell-clause-count c =
    let none = points-none c.points.rest (search rules) c.in_err-cell.ensures.points in
    rw c.from_residual.ensures
    (sym (c.points.invariant.counted
    ∙ ap (option_map (λ cells. c.points.count + length cells)) none))

pub overflow_add-count : goal.overflow_add-count
overflow_add-count c =
    let few = few-more c.points.count _ _ c.points.invariant.few c.in_ok-cell.ensures.fewer
    c.in_ok-cell.ensures.small in omega arith

pub points-init : goal.points-init
points-init c = record {
  counted = search rules;
  few = search rules;
  kept = λ fits. kept-none c.args.cells.now (points (words_left c.args.rest));
}

pub points-preserved : goal.points-preserved
points-preserved c = record {
  counted = search rules;
  few = search rules;
  kept = λ fits. kept-more c.points.cells c.keep.new.cells c.points.count c.in_ok-cell.cell _
      (points (words_left c.in_ok-cell.others))
      (c.points.invariant.kept (omega arith)
      ∙ ap (option_map (λ more. take c.points.count c.points.cells ++ more))
      c.in_ok-cell.ensures.points)
      (c.keep.ensures (omega arith));
}
