-- The image was counted and written, a write failed, or there was no memory for a piece.
use Rattle.std.proofs.Common.{[], refl, ap}
use Rattle.std.proofs.lemmas.Result.{err_from_is_err_and}
use Rattle.pbm.specs.declared.header.Form.TheVariants.{Plain}
use Rattle.pbm.specs.Writing.{front_text, plain_text}
use Rattle.lines.specs.declared.answer.Answer.TheVariants as answers
use Rattle.lines.specs.Replies.{reply_line}
use Rattle.line_io.proofs.DumpedRows.{dumped, rows_text}
use Rattle.line_io.proofs.Wires.{failed_first, failed_on, put_alone, put_on}
use Rattle.line_io.proofs.dump.say_dump.Goals as goal

pub returns-in-Err : goal.returns-in-Err
returns-in-Err g c = record {
  answer = answers.Refused c.from.result;
  body = [];
  is_dump = (ap answers.Refused c.from.ensures, refl);
  put = put_alone c.say.result _ _ (reply_line (answers.Refused c.from.result)) c.say.ensures;
}

pub returns-in_err-say : goal.returns-in_err-say
returns-in_err-say g c =
    let p = err_from_is_err_and c.from_residual.result c.from_residual.ensures.1 in
    dumped _ _ _ _ _ c.plain_length.ensures
    (rw (p.1) (failed_first _ _ _ (plain_text c.args.bitmap.now) c.in_err-say.ensures))

pub returns-in_err-put : goal.returns-in_err-put
unfolding plain_text
returns-in_err-put g c =
    let p = err_from_is_err_and c.from_residual-in_err-put.result
    c.from_residual-in_err-put.ensures.1 in
    let front = rw (c.as_slice-2.ensures.value, c.in-Ok.ensures.text) at c.in_err-put.ensures in
    dumped _ _ _ _ _ c.plain_length.ensures
    (rw (p.1) (failed_on _ _ _ _ (plain_text c.args.bitmap.now) c.in_ok-say.ensures
    (failed_first _ _ (front_text Plain c.args.bitmap.now)
    (rows_text c.args.bitmap.now c.args.bitmap.now.height) front)))

pub returns : goal.returns
unfolding plain_text
returns g c =
    let front = rw (c.as_slice-2.ensures.value, c.in-Ok.ensures.text) at c.in_ok-put.ensures in
    dumped _ _ _ _ _ c.plain_length.ensures
    (put_on c.put_rows.result _ _ _ _ (plain_text c.args.bitmap.now) c.in_ok-say.ensures
    (put_on c.put_rows.result _ _ _ (front_text Plain c.args.bitmap.now)
    (rows_text c.args.bitmap.now c.args.bitmap.now.height) front c.put_rows.ensures))
