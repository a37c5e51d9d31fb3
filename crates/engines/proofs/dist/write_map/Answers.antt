-- A write that failed leaves a prefix of the answer: a table's lines, or the line for out of
-- memory.
use Rattle.std.proofs.lemmas.Result.{err_from_is_err_and}
use Rattle.printing.specs.Table.{table_text}
use Rattle.engines.proofs.Answering.{asked_of_table, map_wanting_front, map_wanting_whole}
use Rattle.engines.proofs.dist.write_map.Goals as goal

pub returns-in_ok-write-in-Ok-clause-whole : goal.returns-in_ok-write-in-Ok-clause-whole
returns-in_ok-write-in-Ok-clause-whole g c =
    let options = c.args.options.now in
    let table = c.in-Ok.table.table in (
      table_text options.nearest table.width table.height table.nears,
      asked_of_table options c.args.map.now g.M.Metric.distance table c.requires.table
          c.requires.metric c.in-Ok.ensures.nearest c.in-Ok.ensures.table,
      rw c.in-Ok.ensures.nearest at c.in_ok-write-in-Ok.ensures.all,
    )

pub returns-in_err-write-in-Ok-clause-front : goal.returns-in_err-write-in-Ok-clause-front
returns-in_err-write-in-Ok-clause-front g c =
    let options = c.args.options.now in
    let table = c.in-Ok.table.table in
    let p = err_from_is_err_and c.from_residual.result c.from_residual.ensures.1 in
    rw p.1 (
      table_text options.nearest table.width table.height table.nears,
      0,
      asked_of_table options c.args.map.now g.M.Metric.distance table c.requires.table
          c.requires.metric c.in-Ok.ensures.nearest c.in-Ok.ensures.table,
      rw c.in-Ok.ensures.nearest at c.in_err-write-in-Ok.ensures.front,
    )

pub returns-in-Err-clause-front : goal.returns-in-Err-clause-front
returns-in-Err-clause-front g c =
    map_wanting_front c.args.options.now c.args.map.now c.from.result _ _ c.write_refusal.result
    c.from.ensures c.write_refusal.ensures.front

pub returns-in-Err-clause-whole : goal.returns-in-Err-clause-whole
returns-in-Err-clause-whole g c =
    map_wanting_whole c.args.options.now c.args.map.now c.from.result _ _ c.write_refusal.result
    c.from.ensures c.write_refusal.ensures.status c.write_refusal.ensures.whole
