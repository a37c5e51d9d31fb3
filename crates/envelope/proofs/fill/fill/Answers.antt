-- One span less is left, and its cells are filled, one by one.
use Rattle.std.proofs.Common.{◌≡◌, ◌+◌, ◌-◌, ◌<◌, ◌≤◌, ◌∙◌, ℕ, ◌⊎◌, List, length, inl, inr, refl}
use Rattle.std.proofs.Common.{None, arith, rules}
use Rattle.std.proofs.lemmas.Bool.{cases_lt}
use Rattle.std.proofs.lemmas.Grind.{common_steps}
use Rattle.metric.specs.Edge.{shift}
use Rattle.envelope.specs.Columns.{IsAmong, IsColumnFrom, IsSaid, gap_of}
use Rattle.envelope.specs.Envelope.{span_at}
use Rattle.envelope.specs.Pieces.{IsPiece}
use Rattle.envelope.specs.declared.piece.Piece.{Piece}
use Rattle.envelope.proofs.Filling.{envelope_last, set_more}
use Rattle.envelope.proofs.Nears.{said_kept}
use Rattle.envelope.proofs.PieceLemmas.{best_of_enough}
use Rattle.envelope.proofs.fill.fill.Goals as goal

-- a column of a piece is one of the row
of_row : (entries : List ℕ) (piece : Piece) (column : ℕ) → IsPiece entries piece
    → IsColumnFrom entries piece.first piece.last column → IsAmong entries (length entries) column
of_row entries piece column is from = let left = from.among.left in let inside = is.inside in
    record { left = omega (arith, left, inside); some = from.among.some }

-- what lies outside of a piece lies outside of its beginning
outside : (x from end whole : ℕ) → end ≤ whole → (x < from) ⊎ (whole ≤ x) → (x < from) ⊎ (end ≤ x)
outside x from end whole within (inl before) = inl before
outside x from end whole within (inr behind) = inr (omega (arith, within, behind))

pub returns-then-is_empty-clause-filled : goal.returns-then-is_empty-clause-filled
returns-then-is_empty-clause-filled g c = λ x from below inside.
    let none : length c.args.spans.now ≡ 0 = search rules in
    let before = c.from-before.ensures ∙ (rw c.EDGE-edge.ensures at c.shift.ensures) in
    record {
      near = None;
      near_is = λ column among. let it = c.requires.enough (x + shift g.B.Border.EDGE) column from
          below among in c.requires.covered.none none it.by it.among;
      said = rw (c.fill_none.ensures.none x (omega (arith, before)) (omega (arith, before)))
          (g.met.A.CellValue.says_none g.M.Metric.distance x (c.args.y - shift g.B.Border.EDGE));
    }

pub cells-init : goal.cells-init
cells-init g c =
    let span = span_at c.args.spans.now (c.spans.count - 1) in
    let last = envelope_last _ (gap_of c.args.entries.now c.args.y)
    (IsColumnFrom c.args.entries.now c.args.piece.first c.args.piece.last) c.args.spans.now
    c.spans.count c.spans.end c.spans-test.true c.spans.invariant.covered in
    let among = of_row c.args.entries.now c.args.piece span.column c.requires.piece
    (last.0.best span.start (omega arith) last.0.some).among in
    let row = c.requires.entries.each span.column among.left among.some in
    record {
      among = among;
      gap_is = last.0.gap_is;
      gap_few = rw last.0.gap_is (omega (arith, row, c.requires.entries.seen_from));
      filled = search rules;
      others = search rules;
    }

pub cells-preserved : goal.cells-preserved
cells-preserved g c =
    let span = span_at c.args.spans.now (c.spans.count - 1) in
    let last = envelope_last _ (gap_of c.args.entries.now c.args.y)
    (IsColumnFrom c.args.entries.now c.args.piece.first c.args.piece.last) c.args.spans.now
    c.spans.count c.spans.end c.spans-test.true c.spans.invariant.covered in
    let within = c.spans.invariant.within in
    let edge = g.B.Border.EDGE in
    let p = c.cells.x in
    let k = shift edge in
    let is : c.from-before.result ≡ k =
    c.from-before.ensures ∙ (rw c.EDGE-edge.ensures at c.shift.ensures) in
    let inside : p < length c.cells.answers =
    omega (arith, c.cells-test.true, c.cells.auto.answers, c.min-high.ensures) in
    let before : p + k < c.spans.end = omega (arith, is, c.cells-test.true, c.min-high.ensures) in
    let here = λ (after : span.start ≤ p + k) (from : c.args.piece.from ≤ p + k).
    said_kept g.A.CellValue.says g.M.Metric.distance c.args.entries.now edge c.args.y p
    c.near_at.result c.with.result (
      span.column,
      best_of_enough g.M.Metric.distance (gap_of c.args.entries.now c.args.y)
          (IsAmong c.args.entries.now (length c.args.entries.now))
          (IsColumnFrom c.args.entries.now c.args.piece.first c.args.piece.last) (p + k) span.column
          (λ column among. of_row c.args.entries.now c.args.piece column c.requires.piece among)
          (λ other among. c.requires.enough (p + k) other from (omega (arith, before, within)) among)
          (last.0.best (p + k) after before),
      rw (c.near_at.ensures.near, c.distance-dist.ensures, c.cells.invariant.gap_is)
          (rw (c.from-in-cells.ensures, c.EDGE-edge.ensures, is) refl),
    ) c.requires.row c.with.ensures in
    record {
      among = c.cells.invariant.among;
      gap_is = c.cells.invariant.gap_is;
      gap_few = c.cells.invariant.gap_few;
      filled = λ x after from below. set_more (λ x answer. span.start ≤ x + k
          → c.args.piece.from ≤ x + k
          → IsSaid g.A.CellValue.says g.M.Metric.distance c.args.entries.now c.args.y edge x answer)
          0 p c.cells.answers c.with.result g.A.CellValue.unset inside
          (λ x low up_to after from. c.cells.invariant.filled x after from up_to) here x
          (omega arith) below after from;
      others = grind (arith, common_steps);
    }

pub spans-preserved : goal.spans-preserved
spans-preserved g c =
    let span = span_at c.args.spans.now (c.spans.count - 1) in
    let last = envelope_last _ (gap_of c.args.entries.now c.args.y)
    (IsColumnFrom c.args.entries.now c.args.piece.first c.args.piece.last) c.args.spans.now
    c.spans.count c.spans.end c.spans-test.true c.spans.invariant.covered in
    let within = c.spans.invariant.within in
    let k = shift g.B.Border.EDGE in
    let is : c.from-before.result ≡ k =
    c.from-before.ensures ∙ (rw c.EDGE-edge.ensures at c.shift.ensures) in
    record {
      few = omega arith;
      within = omega (arith, last.0.some, within, c.from-end.ensures);
      covered = rw c.from-end.ensures last.1;
      filled = λ x after from below inside.
          let there : x < length c.spans.answers =
          omega (arith, c.cells.auto.answers, inside) in
          elim (cases_lt (x + k) c.spans.end) [
            | inl before ↦ c.cells.invariant.filled x (omega (arith, after, c.from-end.ensures)) from
                (omega (arith, before, there, is))
            | inr past ↦ rw (c.cells.invariant.others x (inr past))
                (c.spans.invariant.filled x past from below there)
          ];
      others = λ x aside. c.cells.invariant.others x
          (outside (x + k) c.args.piece.from c.spans.end c.args.piece.end within aside)
          ∙ c.spans.invariant.others x aside;
    }
