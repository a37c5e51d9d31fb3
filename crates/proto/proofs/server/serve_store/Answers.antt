-- What is written is the port and then the counts, or a line that says why nothing is served. A
-- write that fails leaves a prefix of it.
use Rattle.std.proofs.Common.{◌∙◌, List, ℕ, OnOk, OnErr, subst}
use Rattle.metric.specs.Stream.{Appends, AppendsFront}
use Rattle.proto.proofs.ServerLemmas.{lacking_front, port_front, served_front, served_whole}
use Rattle.proto.proofs.ServerLemmas.{stopped_front, stopped_whole}
use Rattle.proto.proofs.server.serve_store.Goals as goal

pub returns-in-Err-clause-begun : goal.returns-in-Err-clause-begun
returns-in-Err-clause-begun g c =
    lacking_front _ _ _ _ _ c.write_refusal.result c.from.ensures c.write_refusal.ensures.front

pub returns-in-Err-write_text-clause-begun : goal.returns-in-Err-write_text-clause-begun
returns-in-Err-write_text-clause-begun g c =
    port_front c.args.place.port _ _ _
    (subst (λ (t : List ℕ). AppendsFront (g.W.Sink.held c.args.writer.now) t
    (g.W.Sink.held c.write_text.new.writer)) (c.as_bytes.ensures ∙ c.listening_line.ensures)
    c.in-Err-write_text.ensures.front)

pub returns-in-Ok-pool-clause-served : goal.returns-in-Ok-pool-clause-served
returns-in-Ok-pool-clause-served g c =
    let between = g.W.Sink.held c.write_text.new.writer in
    let after = g.W.Sink.held c.write_text-in-Ok-pool.new.writer in
    served_whole c.args.place.port _ _ _ between after c.write_text-in-Ok-pool.result
    (subst (λ (t : List ℕ). Appends (g.W.Sink.held c.args.writer.now) t between)
    (c.as_bytes.ensures ∙ c.listening_line.ensures) c.in_default.ensures.whole)
    c.write_text-in-Ok-pool.ensures.status
    (subst (λ (t : List ℕ). OnOk c.write_text-in-Ok-pool.result (Appends between t after))
    (c.as_bytes-in-Ok-pool.ensures ∙ c.served_line.ensures) c.write_text-in-Ok-pool.ensures.whole)

pub returns-in-Ok-pool-clause-begun : goal.returns-in-Ok-pool-clause-begun
returns-in-Ok-pool-clause-begun g c =
    let between = g.W.Sink.held c.write_text.new.writer in
    let after = g.W.Sink.held c.write_text-in-Ok-pool.new.writer in
    served_front c.args.place.port _ _ _ between after c.write_text-in-Ok-pool.result
    (subst (λ (t : List ℕ). Appends (g.W.Sink.held c.args.writer.now) t between)
    (c.as_bytes.ensures ∙ c.listening_line.ensures) c.in_default.ensures.whole)
    (subst (λ (t : List ℕ). OnErr c.write_text-in-Ok-pool.result (AppendsFront between t after))
    (c.as_bytes-in-Ok-pool.ensures ∙ c.served_line.ensures) c.write_text-in-Ok-pool.ensures.front)

pub returns-clause-served : goal.returns-clause-served
returns-clause-served g c =
    let between = g.W.Sink.held c.write_text.new.writer in
    stopped_whole c.args.place.port _ _ between _ c.from-in-Err-pool.result
    c.write_refusal-in-Err-pool.result c.from-in-Err-pool.ensures
    (subst (λ (t : List ℕ). Appends (g.W.Sink.held c.args.writer.now) t between)
    (c.as_bytes.ensures ∙ c.listening_line.ensures) c.in_default.ensures.whole)
    c.write_refusal-in-Err-pool.ensures.status c.write_refusal-in-Err-pool.ensures.whole

pub returns-clause-begun : goal.returns-clause-begun
returns-clause-begun g c =
    let between = g.W.Sink.held c.write_text.new.writer in
    stopped_front c.args.place.port _ _ between _ c.from-in-Err-pool.result
    c.write_refusal-in-Err-pool.result c.from-in-Err-pool.ensures
    (subst (λ (t : List ℕ). Appends (g.W.Sink.held c.args.writer.now) t between)
    (c.as_bytes.ensures ∙ c.listening_line.ensures) c.in_default.ensures.whole)
    c.write_refusal-in-Err-pool.ensures.front
