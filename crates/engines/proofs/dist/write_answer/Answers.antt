-- A write that failed leaves a prefix of the answer: a reply's text, or the line of a fault.
use Rattle.std.proofs.lemmas.Result.{on_err_weaker}
use Rattle.engines.proofs.Answering.{asked_of_reply, map_wanting_front, map_wanting_whole}
use Rattle.engines.proofs.dist.write_answer.Goals as goal

pub returns-in-Ok-clause-front : goal.returns-in-Ok-clause-front
returns-in-Ok-clause-front g c =
    let reply = c.in-Ok.reply in
    on_err_weaker c.write_text.result
    (λ front. (
      reply.text,
      reply.status,
      asked_of_reply c.args.options.now c.args.map.now c.in-Some.line reply c.in-Some.is
          (rw (← c.as_bytes.ensures.value) c.in-Ok.ensures),
      front,
    ))
    (rw (← c.as_bytes-in-Ok.ensures) c.write_text.ensures.front)

pub returns-in-Err-clause-front : goal.returns-in-Err-clause-front
returns-in-Err-clause-front g c =
    map_wanting_front c.args.options.now c.args.map.now c.from.result _ _ c.write_refusal.result
    c.from.ensures c.write_refusal.ensures.front

pub returns-in-Err-clause-whole : goal.returns-in-Err-clause-whole
returns-in-Err-clause-whole g c =
    map_wanting_whole c.args.options.now c.args.map.now c.from.result _ _ c.write_refusal.result
    c.from.ensures c.write_refusal.ensures.status c.write_refusal.ensures.whole
