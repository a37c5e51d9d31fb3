-- Each row gets its entries, and once all have them these are the table of the bitmap.
use Rattle.std.proofs.Common.{◌≡◌, ◌+◌, ◌*◌, length, ap, drop, sym, rules}
use Rattle.std.proofs.lemmas.List.{take_at}
use Rattle.metric.specs.Edge.{shift}
use Rattle.bits.specs.Cells.{Cells}
use Rattle.bits.proofs.Framing.{framed_size}
use Rattle.column.specs.Tabled.{HasRows}
use Rattle.column.proofs.Places.{row_ends}
use Rattle.column.proofs.Tables.{HasRows-more, bordered, cells_tabled-all, IsTabled-all}
use Rattle.column.proofs.column_table.ColumnTable.of.Goals as goal

pub put_line-requires : goal.put_line-requires
put_line-requires c =
    let cells = c.args.bitmap.now in
    let across = cells.width + 2 * shift c.args.edge in
    let many : length c.deref.result.now ≡ across =
    rw (
      c.deref.ensures.value,
      c.look.ensures.entries.as_many,
      c.new-batch.ensures.bitmap,
      c.new-batch.ensures.edge,
    ) (framed_size c.args.edge cells).0 in
    let wide : c.from-across.result ≡ across = search rules in
    let all : length c.rows.lines ≡ c.height-height.result * across = search rules in
    let end = row_ends c.rows.y c.height-height.result across c.rows-test.true in
    rw (c.from-in-rows.ensures, wide, many, all) end

pub rows-preserved : goal.rows-preserved
rows-preserved c =
    let cells = c.args.bitmap.now in
    let start : c.from-in-rows.result * c.from-across.result
    ≡ c.rows.y * (cells.width + 2 * shift c.args.edge) = search rules in
    record {
      columns = c.look.ensures.ready;
      rows = HasRows-more cells c.args.edge c.rows.y c.deref.result.now c.rows.lines
          c.put_line.new.lines
          (rw (c.new-batch.ensures.bitmap, c.new-batch.ensures.edge, sym c.deref.ensures.value)
          at c.look.ensures.entries)
          (rw start at c.put_line.ensures.copied) (rw start at c.put_line.ensures.others)
          c.rows.invariant.rows;
    }

pub invariant_of-result : goal.invariant_of-result
invariant_of-result c =
    let cells = c.args.bitmap.now in
    let reached : c.rows.y ≡ cells.height = search rules in
    let rows : HasRows cells c.args.edge cells.width cells.height c.rows.lines =
    rw reached at c.rows.invariant.rows in
    let many : length c.rows.lines ≡ cells.height * (cells.width + 2 * shift c.args.edge) =
    search rules in
    let written : c.in_ok-entries.entries.len ≡ length c.rows.lines = search rules in
    rw (take_at c.rows.lines (drop (length c.rows.lines) c.in_ok-entries.entries.items)
    c.in_ok-entries.entries.len (sym written))
    (IsTabled-all cells c.width-width.result c.height-height.result c.args.edge c.rows.lines
    c.width-width.ensures.bitmap c.width-width.ensures.width c.height-height.ensures.height
    many rows)

pub returns : goal.returns
returns c =
    let cells = c.args.bitmap.now in
    let reached : c.rows.y ≡ cells.height = search rules in
    let rows : HasRows cells c.args.edge cells.width cells.height c.rows.lines =
    rw reached at c.rows.invariant.rows in
    let written : c.in_ok-entries.entries.len ≡ length c.rows.lines = search rules in
    rw (take_at c.rows.lines (drop (length c.rows.lines) c.in_ok-entries.entries.items)
    c.in_ok-entries.entries.len (sym written))
    (ap (λ (cells : Cells). bordered cells c.args.edge)
    (cells_tabled-all cells c.width-width.result c.height-height.result c.args.edge c.rows.lines
    c.width-width.ensures.bitmap c.width-width.ensures.width c.height-height.ensures.height rows))
