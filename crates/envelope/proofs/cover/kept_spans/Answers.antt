-- What is known of the last span that is left, and what stays when it is taken off.
use Rattle.std.proofs.Common.{◌≤◌, arith}
use Rattle.envelope.specs.Columns.{IsColumnFrom, gap_of}
use Rattle.envelope.proofs.Envelopes.{cut_begin, cut_drop}
use Rattle.envelope.proofs.Entries.{pairs_from, top_known}
use Rattle.envelope.proofs.cover.kept_spans.Goals as goal

pub spans-init : goal.spans-init
spans-init g c = record {
  few = omega arith;
  cut = cut_begin _ (gap_of c.args.entries.now c.args.y)
      (IsColumnFrom c.args.entries.now c.args._piece.first c.args.column) c.args.column
      c.args.spans.now c.args._piece.end c.args.count c.requires.covered;
}

pub distance-own-requires : goal.distance-own-requires
distance-own-requires g c =
    let top = top_known _ c.args.entries.now c.args.y c.args._piece.first c.args._piece.end
    c.args.column c.args.spans.now c.spans.kept c.requires.entries c.requires.column.among
    c.spans-test.true c.requires.piece.within c.spans.invariant.cut in
    record { column = top.column; gap = top.gap; cell = top.start }

pub distance-requires-clause-cell : goal.distance-requires-clause-cell
distance-requires-clause-cell g c =
    (top_known _ c.args.entries.now c.args.y c.args._piece.first c.args._piece.end c.args.column
    c.args.spans.now c.spans.kept c.requires.entries c.requires.column.among c.spans-test.true
    c.requires.piece.within c.spans.invariant.cut).start

pub returns-then-own-distance : goal.returns-then-own-distance
returns-then-own-distance g c =
    let top = top_known _ c.args.entries.now c.args.y c.args._piece.first c.args._piece.end
    c.args.column c.args.spans.now c.spans.kept c.requires.entries c.requires.column.among
    c.spans-test.true c.requires.piece.within c.spans.invariant.cut in
    let own = rw top.gap_is at c.distance-own.ensures in
    let other = rw c.gap-gap.ensures.gap at c.distance.ensures in
    record {
      few = c.spans.invariant.few;
      cut = c.spans.invariant.cut;
      top = λ some. omega (arith, own, other, c.if-own-distance.true);
    }

pub spans-preserved : goal.spans-preserved
spans-preserved g c =
    let top = top_known _ c.args.entries.now c.args.y c.args._piece.first c.args._piece.end
    c.args.column c.args.spans.now c.spans.kept c.requires.entries c.requires.column.among
    c.spans-test.true c.requires.piece.within c.spans.invariant.cut in
    let own = rw top.gap_is at c.distance-own.ensures in
    let other = rw c.gap-gap.ensures.gap at c.distance.ensures in
    let few = c.requires.entries.few in
    let within = c.requires.piece.within in
    let end_few : c.args._piece.end ≤ 4098 = omega (arith, few, within) in
    record {
      few = omega arith;
      cut =
          cut_drop _ (gap_of c.args.entries.now c.args.y)
          (IsColumnFrom c.args.entries.now c.args._piece.first c.args.column) c.args.column
          c.args.spans.now c.args._piece.end c.spans.kept c.spans-test.true
          g.met.M.Metric.stays_nearer end_few
          (pairs_from c.args.entries.now c.args.y c.args._piece.first c.args.column
          c.requires.entries c.requires.column.among)
          c.spans.invariant.cut (omega (arith, own, other, c.if-own-distance.false));
    }
