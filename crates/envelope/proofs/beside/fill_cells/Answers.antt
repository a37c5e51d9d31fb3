-- The columns that were found are the nearest ones, and a piece lies between those of the cells
-- next to it.
use Rattle.std.proofs.Common.{◌≡◌, ◌∙◌, ◌+◌, ◌<◌, length, inl, inr, arith}
use Rattle.std.proofs.lemmas.Bool.{cases_lt}
use Rattle.metric.specs.Edge.{shift}
use Rattle.envelope.proofs.BesideLemmas.{are_told}
use Rattle.envelope.proofs.PieceLemmas.{enough_between, piece_between}
use Rattle.envelope.proofs.beside.fill_cells.Goals as goal

pub fill_eight-requires-clause-told : goal.fill_eight-requires-clause-told
fill_eight-requires-clause-told g c =
    let before : c.from-before.result ≡ shift g.B.Border.EDGE = c.from-before.ensures
    ∙ (rw c.EDGE.ensures at c.shift.ensures) in
    are_told g.M.Metric.distance g.M.Metric.joined g.M.Metric.part_of c.args.entries.now
    c.args.parts.now g.B.Border.EDGE c.args.y (c.cells.start + shift g.B.Border.EDGE + 128)
    (c.cells.start + shift g.B.Border.EDGE) c.in-Some.low.best c.in-Some.low.away
    (g.met.M.Metric.small c.requires.laned) g.met.M.Metric.grows g.met.M.Metric.stays_nearer
    c.requires.entries c.requires.parts (omega arith) (rw before at c.in-Some.ensures.low)

pub fill_eight-requires-in-Some-clause-told : goal.fill_eight-requires-in-Some-clause-told
fill_eight-requires-in-Some-clause-told g c =
    let before : c.from-before.result ≡ shift g.B.Border.EDGE = c.from-before.ensures
    ∙ (rw c.EDGE.ensures at c.shift.ensures) in
    are_told g.M.Metric.distance g.M.Metric.joined g.M.Metric.part_of c.args.entries.now
    c.args.parts.now g.B.Border.EDGE c.args.y
    (c.cells.start + shift g.B.Border.EDGE + 128 + 8)
    (c.cells.start + 8 + shift g.B.Border.EDGE) c.in-Some.high.best c.in-Some.high.away
    (g.met.M.Metric.small c.requires.laned) g.met.M.Metric.grows g.met.M.Metric.stays_nearer
    c.requires.entries c.requires.parts (omega arith) (rw before at c.in-Some.ensures.high)

pub cells-preserved-in-Some : goal.cells-preserved-in-Some
cells-preserved-in-Some g c =
    let start = c.cells.start in
    let low = c.fill_eight in
    let high = c.fill_eight-in-Some in
    record {
      within = omega (arith, c.cells-test.true, high.ensures.len, low.ensures.len);
      filled = λ x below inside.
          let here : x < length c.cells.answers = omega
          (arith, inside, high.ensures.len, low.ensures.len) in
          let there : x < length c.fill_eight.new.answers =
          omega (arith, inside, high.ensures.len) in
          elim (cases_lt x start) [
            | inl before ↦ rw (
              high.ensures.others x (inl (omega (arith, before))),
              low.ensures.others x (inl before),
            ) (c.cells.invariant.filled x before here)
            | inr from ↦ elim (cases_lt x (start + 8)) [
              | inl near ↦ rw (high.ensures.others x (inl near))
                  (low.ensures.filled x from near here)
              | inr far ↦ high.ensures.filled x far (omega (arith, below)) there
            ]
          ];
    }

pub fill_piece-requires-clause-piece : goal.fill_piece-requires-clause-piece
fill_piece-requires-clause-piece g c =
    piece_between g.M.Metric.distance c.args.entries.now c.args.y g.met.M.Metric.stays_nearer
    c.requires.entries (c.cells.start + c.from-before.result) c.next_found-end.result.0
    c.first_column-first.result c.next_found-end.result.1
    c.first_column-first.ensures c.next_found-end.ensures.bound c.next_found-end.ensures.further

pub fill_piece-requires-clause-enough : goal.fill_piece-requires-clause-enough
fill_piece-requires-clause-enough g c =
    enough_between g.M.Metric.distance c.args.entries.now c.args.y g.met.M.Metric.stays_nearer
    c.requires.entries (c.cells.start + c.from-before.result) c.next_found-end.result.0
    c.first_column-first.result c.next_found-end.result.1
    c.first_column-first.ensures c.next_found-end.ensures.bound c.next_found-end.ensures.further
