-- Where a request isn't sent, nothing of its reply is taken; where it is, its reply is read after
-- it, which leaves what was sent.
use Rattle.std.proofs.Common.{◌∙◌, ap, Err, [], inl, inr}
use Rattle.std.proofs.lemmas.Result.{err_from_is_err_and, on_ok_weaker}
use Rattle.metric.proofs.Taking.{Takes-nothing}
use Rattle.streams.proofs.Gathering.{Gathers-taken}
use Rattle.ask.proofs.CutLines.{TakesAtMost-nothing}
use Rattle.ask.proofs.Faults.{held_on_err, held_on_ok, no_standard, same_parts}
use Rattle.ask.proofs.NetFaults.{within_reply}
use Rattle.ask.proofs.ask.exchange.exchange.Goals as goal

pub returns-in_err-send : goal.returns-in_err-send
returns-in_err-send g c =
    let p = err_from_is_err_and c.from_residual.result c.from_residual.ensures.1 in
    let unread = same_parts _ _ _ _ _ _ c.send.ensures.unread
    (g.met.S.Stream.reading c.send.new.stream) (g.met.S.Stream.reading c.args.stream.now) in
    let net = p.1 ∙ ap Err (p.2 ∙ c.in_err-send.ensures.net) in
    record {
      sent = rw p.1 tt;
      front = c.send.ensures.front;
      all = rw p.1 tt;
      taken = ([], rw unread.0 (Takes-nothing _));
      counts = λ other. absurd (other net);
      fault = λ same. inl (inr c.in_err-send.ensures.counts);
      net = no_standard _ net;
      reply = rw p.1 tt;
      part = rw p.1 (TakesAtMost-nothing _ _ _ unread.0);
      cut = rw p.1 (inl unread.0);
    }

pub returns : goal.returns
returns g c =
    let unread = same_parts _ _ _ _ _ _ c.send.ensures.unread
    (g.met.S.Stream.reading c.send.new.stream) (g.met.S.Stream.reading c.args.stream.now) in
    let written = same_parts _ _ _ _ _ _ c.read_reply.ensures.written
    (g.met.S.Stream.writing c.read_reply.new.stream) (g.met.S.Stream.writing c.send.new.stream) in
    let read = c.read_reply.ensures in
    record {
      sent = rw written.0 (held_on_ok c.read_reply.result c.in_ok-send.ensures.all);
      front = rw written.0 c.send.ensures.front;
      all = on_ok_weaker c.read_reply.result
          (λ all. Gathers-taken _ _ _ _ c.clear.ensures.items all) (rw unread.0 at read.all);
      taken = rw unread.0 at read.taken;
      counts = λ other. (read.reads other ∙ unread.1, written.1 ∙ c.in_ok-send.ensures.counts);
      fault = λ net.
          within_reply (rw written.0 c.in_ok-send.ensures.all)
          (rw (c.asks_for_bytes.ensures, unread.0, unread.1)
          at (read.fault c.clear.ensures.items net));
      net = read.net;
      reply = rw c.asks_for_bytes.ensures at (read.reply c.clear.ensures.items);
      part = rw (c.asks_for_bytes.ensures, unread.0) at (read.part c.clear.ensures.items);
      cut = rw written.0 (held_on_err c.read_reply.result (inr c.in_ok-send.ensures.all));
    }
