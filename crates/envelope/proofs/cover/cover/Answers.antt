-- A column is put on those so far, or is nowhere the nearest, or there is no obstacle in it.
use Rattle.std.proofs.Common.{◌+◌, ◌≤◌, length, slice_set, get_or-set_same}
use Rattle.std.proofs.Common.{get_or-set_other, refl, arith, rules}
use Rattle.envelope.specs.Columns.{IsColumnFrom, gap_of}
use Rattle.envelope.specs.declared.cover.Span.{Span}
use Rattle.envelope.specs.Envelope.{IsStart, no_span}
use Rattle.envelope.proofs.Entries.{more_left, more_with, same_without, top_known}
use Rattle.envelope.proofs.Envelopes.{covered_equal}
use Rattle.envelope.proofs.Putting.{covered_with, covered_without}
use Rattle.envelope.proofs.cover.cover.Goals as goal
use Rattle.envelope.proofs.cover.cover.Goals.{then-entries-column+then-from-piece}
use Rattle.envelope.proofs.cover.cover.Goals.{then-entries-column+else-from-piece}
use Rattle.envelope.proofs.cover.cover.Goals.{else-entries-column, then-kept-gt0, else-kept-gt0}

pub crossing-start-requires : goal.crossing-start-requires
crossing-start-requires g c =
    let right : IsColumnFrom c.args.entries.now c.args.piece.first (length c.args.entries.now)
    c.columns.column = search rules in
    rw c.gap-gap.ensures.gap (top_known _ c.args.entries.now c.args.y c.args.piece.first
    c.args.piece.end c.columns.column c.columns.spans c.kept_spans-kept.result c.requires.entries
    right.among c.if-kept-gt0.true c.requires.piece.within c.kept_spans-kept.ensures.cut).pair

pub columns-preserved : goal.columns-preserved
columns-preserved g c =
    let gaps = gap_of c.args.entries.now c.args.y in
    let first = c.args.piece.first in
    let u = c.columns.column in
    let spans = c.columns.spans in
    let end = c.args.piece.end in
    let so_far = IsColumnFrom c.args.entries.now first u in
    let and_here = IsColumnFrom c.args.entries.now first (u + 1) in
    let end_few : end ≤ 4098 = omega (arith, c.requires.entries.few, c.requires.piece.within) in
    let more = λ (right : IsColumnFrom c.args.entries.now first (length c.args.entries.now) u).
    more_with c.args.entries.now c.args.y first u c.requires.entries right in
    elim c.if-entries-column.branch [
      | then-entries-column+then-from-piece w ↦
          let kept = w.kept_spans-kept in
          let start = w.if-kept-gt0.start in
          let span : Span = record { start = start; column = u; gap = gaps u } in
          let meets : IsStart g.M.Metric.distance gaps spans kept.result u start =
          elim w.if-kept-gt0.branch [
            | then-kept-gt0 v ↦ search
                (rules, rw (← v.start-is, w.gap-gap.ensures.gap) at v.crossing-start.ensures)
            | else-kept-gt0 v ↦ search rules
          ] in
          record {
            few = omega (arith, w.count-is, kept.ensures.few, c.columns.invariant.few);
            covered = rw (w.spans-is, w.count-is, w.gap-gap.ensures.gap)
                (covered_with _ gaps so_far and_here u spans (slice_set spans kept.result span) end
                c.columns.count kept.result start end_few (more (search rules)) kept.ensures meets
                (omega (arith, w.from.ensures, w.if-from-piece.true))
                (get_or-set_same spans kept.result span no_span (search rules))
                (λ place below. get_or-set_other spans kept.result place span no_span
                (omega (arith, below))));
            end_is = refl;
          }
      | then-entries-column+else-from-piece w ↦
          let kept = w.kept_spans-kept in
          let start = w.if-kept-gt0.start in
          let meets : IsStart g.M.Metric.distance gaps spans kept.result u start =
          elim w.if-kept-gt0.branch [
            | then-kept-gt0 v ↦ search
                (rules, rw (← v.start-is, w.gap-gap.ensures.gap) at v.crossing-start.ensures)
            | else-kept-gt0 v ↦ search rules
          ] in
          record {
            few = omega (arith, w.count-is, kept.ensures.few, c.columns.invariant.few);
            covered = rw (w.spans-is, w.count-is)
                (covered_without _ gaps so_far and_here u spans end c.columns.count kept.result
                start (omega (arith, c.requires.piece.some)) end_few (more (search rules))
                kept.ensures meets (omega (arith, w.from.ensures, w.if-from-piece.false)));
            end_is = refl;
          }
      | else-entries-column w ↦ record {
        few = omega (arith, w.count-is, c.columns.invariant.few);
        covered = rw (w.spans-is, w.count-is) (covered_equal _ gaps so_far and_here spans
            c.columns.count end (more_left c.args.entries.now first u)
            (same_without c.args.entries.now first u w.if-entries-column.false)
            c.columns.invariant.covered);
        end_is = refl;
      }
    ]
