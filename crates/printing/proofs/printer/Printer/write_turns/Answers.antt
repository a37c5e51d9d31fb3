-- Each turn writes the rows that the full parts hold; after the last turn all lines of the table
-- are written.
use Rattle.std.proofs.Common.{◌≡◌, ◌+◌, ◌*◌, ◌∙◌, refl, length, min, arith, rules}
use Rattle.std.proofs.lemmas.List.{with_items_is}
use Rattle.std.proofs.lemmas.Result.{err_from_is_err_and}
use Rattle.metric.proofs.Appending.{Appends-nothing, AppendsFront-whole}
use Rattle.printing.specs.Parts.{ShareRows}
use Rattle.printing.proofs.RowLemmas.{rows_text-none}
use Rattle.printing.proofs.PartLemmas.{Appends-parts, AppendsFront-parts, AreParts-put}
use Rattle.printing.proofs.PartLemmas.{table_text-between}
use Rattle.printing.proofs.printer.Printer.write_turns.Goals as goal

pub turns-init : goal.turns-init
turns-init g c =
    let printer = c.args.self.now in
    let table = printer.table in
    let none : min table.height 0 ≡ 0 = omega arith in
    let many : length c.put_parts.new.parts ≡ c.args.full.now.len = search rules in
    let full = AreParts-put printer.nearest table printer.rows 0 c.as_mut_slice.result.now
    c.put_parts.new.parts (rw c.as_mut_slice.ensures.value c.requires.full) c.put_parts.auto.parts
    c.put_parts.ensures in
    record {
      written = rw (none, rows_text-none printer.nearest table.width 0 table.nears)
          (Appends-nothing _);
      none_failed = refl;
      put = rw (with_items_is c.args.full.now c.put_parts.new.parts many) c.put_parts.ensures;
      full = rw (with_items_is c.args.full.now c.put_parts.new.parts many) full;
      free = c.requires.free;
      height_is = search rules;
      from = omega arith;
    }

pub returns-in_err-write_and_put-clause-front : goal.returns-in_err-write_and_put-clause-front
returns-in_err-write_and_put-clause-front g c =
    let printer = c.args.self.now in
    let p = err_from_is_err_and c.from_residual.result c.from_residual.ensures.1 in
    rw p.1 (AppendsFront-parts printer.nearest printer.table printer.rows c.turns.from
    (length c.as_slice.result.now) _ _ _ c.turns.invariant.written
    c.in_err-write_and_put.ensures.front)

pub turns-preserved : goal.turns-preserved
turns-preserved g c =
    let printer = c.args.self.now in
    let table = printer.table in
    let next : c.row_after-from.result ≡ c.turns.from + printer.rows
    * length c.as_slice.result.now = search rules in
    let many : length c.write_and_put.new.free ≡ c.turns.free.len = search rules in
    let put : ShareRows printer.nearest table printer.rows c.row_after-from.result
    c.write_and_put.new.free = rw next c.write_and_put.ensures.next in
    let full = AreParts-put printer.nearest table printer.rows c.row_after-from.result
    c.as_mut_slice-in-turns.result.now c.write_and_put.new.free
    (rw c.as_mut_slice-in-turns.ensures.value c.turns.invariant.free) c.write_and_put.auto.free
    put in
    record {
      written = rw next (Appends-parts printer.nearest table printer.rows c.turns.from
          (length c.as_slice.result.now) _ _ _ c.turns.invariant.written
          c.in_ok-write_and_put.ensures.all);
      none_failed = c.in_ok-write_and_put.ensures.counts ∙ c.turns.invariant.none_failed;
      put = rw (c.swap.ensures.x_after, with_items_is c.turns.free c.write_and_put.new.free many)
          put;
      full = rw (c.swap.ensures.x_after, with_items_is c.turns.free c.write_and_put.new.free many)
          full;
      free = rw c.swap.ensures.y_after c.turns.invariant.full;
      height_is = c.turns.invariant.height_is;
      from = omega (arith, c.row_after-from.ensures.near);
    }

pub returns-clause-all : goal.returns-clause-all
returns-clause-all g c =
    let table = c.args.self.now.table in
    let height = c.turns.invariant.height_is in
    let last : min table.height c.turns.from ≡ table.height = omega arith in
    rw (
      c.flush.ensures.held,
      table_text-between c.args.self.now.nearest table.width table.height table.nears,
    )
    (rw last at c.turns.invariant.written)

pub returns-in_err-flush-clause-front : goal.returns-in_err-flush-clause-front
returns-in_err-flush-clause-front g c =
    let table = c.args.self.now.table in
    let height = c.turns.invariant.height_is in
    let last : min table.height c.turns.from ≡ table.height = omega arith in
    let p = err_from_is_err_and c.from_residual-in_err-flush.result
    c.from_residual-in_err-flush.ensures.1 in
    rw (
      p.1,
      c.flush.ensures.held,
      table_text-between c.args.self.now.nearest table.width table.height table.nears,
    )
    (AppendsFront-whole _ _ _ (rw last at c.turns.invariant.written))
