-- The word's bits are obstacles, in a row of the rectangle.
use Rattle.std.proofs.Common.{arith, ◌∙◌}
use Rattle.clearance.proofs.SeekerSteps.{AreObstacles-word, IsOnward-twice}
use Rattle.clearance.proofs.around.search_row.Goals as goal

pub meet-requires-clause-gap : goal.meet-requires-clause-gap
meet-requires-clause-gap g c =
    let inside = c.rect-rect.ensures.start in
    let top = inside.top in
    let bottom = inside.bottom in
    record {
      rect = c.rect-rect.result;
      counted = c.row.invariant.onward.counted c.rect-rect.result c.rect-rect.ensures.counts;
      gap_is = rw (c.start-start.ensures.start, c.rect-rect.ensures.rect) (omega arith);
    }

pub returns-then-is_far-clause-onward : goal.returns-then-is_far-clause-onward
returns-then-is_far-clause-onward g c =
    IsOnward-twice g.S.Seeker.aim _ c.args.seeker.now c.row.seeker c.meet.new.self
    c.row.invariant.onward
    (c.meet.ensures.onward (g.R.Rows.cells c.args.rows.now)
    (AreObstacles-word _ _ _ _ (rw (c.from.ensures, c.row.invariant.rows) at
    c.word-word.ensures.word)))

pub row-preserved : goal.row-preserved
row-preserved g c = record {
  rows = c.word-word.ensures.rows ∙ c.row.invariant.rows;
  onward =
      IsOnward-twice g.S.Seeker.aim _ c.args.seeker.now c.row.seeker c.meet.new.self
      c.row.invariant.onward
      (c.meet.ensures.onward (g.R.Rows.cells c.args.rows.now)
      (AreObstacles-word _ _ _ _ (rw (c.from.ensures, c.row.invariant.rows) at
      c.word-word.ensures.word)));
}
