-- Each part's text follows that of the parts before it; where its write fails, a prefix of all of
-- them is written.
use Rattle.std.proofs.Common.{◌≡◌, ◌+◌, ◌-◌, ◌*◌, ◌∙◌, refl, min, arith}
use Rattle.std.proofs.lemmas.Result.{err_from_is_err_and}
use Rattle.metric.proofs.Appending.{Appends-nothing}
use Rattle.printing.specs.Parts.{HasRows}
use Rattle.printing.proofs.RowLemmas.{rows_text-none}
use Rattle.printing.proofs.PartLemmas.{Appends-part, AppendsFront-part}
use Rattle.printing.proofs.printer.Printer.write_parts.Goals as goal

pub parts-init : goal.parts-init
parts-init g c =
    let start : c.args.from + c.args.self.now.rows * 0 ≡ c.args.from = omega arith in
    let none : min c.args.self.now.table.height c.args.from
    - min c.args.self.now.table.height c.args.from ≡ 0 = omega arith in
    record {
      written = rw (
        start,
        none,
        rows_text-none c.args.self.now.nearest c.args.self.now.table.width
            (min c.args.self.now.table.height c.args.from) c.args.self.now.table.nears,
      )
          (Appends-nothing _);
      none_failed = refl;
    }

pub returns-in_err-write_all-clause-front : goal.returns-in_err-write_all-clause-front
returns-in_err-write_all-clause-front g c =
    let table = c.args.self.now.table in
    let k = c.parts.part-index in
    let has : HasRows c.args.self.now.nearest table c.args.self.now.rows
    (c.args.from + c.args.self.now.rows * k) c.part-item.result =
    rw (← c.part-item.is) at (c.requires.rows k c.part-item.result (omega arith)) in
    let p = err_from_is_err_and c.from_residual.result c.from_residual.ensures.1 in
    rw p.1 (AppendsFront-part c.args.self.now.nearest table.width table.height table.nears
    c.args.self.now.rows c.args.from k _ c.text.result.now _ _ _
    (omega arith) c.parts.invariant.written (c.text.ensures ∙ has.text)
    c.in_err-write_all.ensures.front)

pub parts-preserved : goal.parts-preserved
parts-preserved g c =
    let table = c.args.self.now.table in
    let k = c.parts.part-index in
    let has : HasRows c.args.self.now.nearest table c.args.self.now.rows
    (c.args.from + c.args.self.now.rows * k) c.part-item.result =
    rw (← c.part-item.is) at (c.requires.rows k c.part-item.result (omega arith)) in
    record {
      written = Appends-part c.args.self.now.nearest table.width table.height table.nears
          c.args.self.now.rows c.args.from k c.text.result.now _ _ _ c.parts.invariant.written
          (c.text.ensures ∙ has.text) c.in_ok-write_all.ensures.all;
      none_failed = c.in_ok-write_all.ensures.counts ∙ c.parts.invariant.none_failed;
    }
