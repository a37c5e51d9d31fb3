-- One more piece was written, or its write failed.
use Rattle.std.proofs.Common.{◌∙◌}
use Rattle.std.proofs.lemmas.Result.{err_from_is_err_and}
use Rattle.line_io.proofs.DumpedRows.{rows_on, rows_failed}
use Rattle.line_io.proofs.dump.put_rows.Goals as goal

pub pieces-preserved : goal.pieces-preserved
pieces-preserved g c = record {
  side = c.pieces.invariant.side;
  rows = c.next_piece-next.ensures.inside;
  room = c.next_piece-next.ensures.room;
  written = rows_on c.args.bitmap.now _ _ _ c.pieces.y c.next_piece-next.result
      c.as_slice.result.now
      c.next_piece-next.ensures.more (c.as_slice.ensures.value ∙ c.next_piece-next.ensures.text)
      c.pieces.invariant.written c.in_ok-put.ensures;
}

pub returns-in_err-put : goal.returns-in_err-put
returns-in_err-put g c =
    let p = err_from_is_err_and c.from_residual.result c.from_residual.ensures.1 in
    rw (p.1) (rows_failed c.args.bitmap.now _ _ _ c.pieces.y c.next_piece-next.result
    c.args.bitmap.now.height c.as_slice.result.now
    c.next_piece-next.ensures.more c.next_piece-next.ensures.inside
    (c.as_slice.ensures.value ∙ c.next_piece-next.ensures.text) c.pieces.invariant.written
    c.in_err-put.ensures)
