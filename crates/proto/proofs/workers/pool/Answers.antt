-- Each session that is returned is the one of its place, led on by fresh streams, since seats keep
-- their order.
use Rattle.std.proofs.Common.{◌≡◌, ◌∙◌, ap, drop, length}
use Rattle.events.proofs.steps.Events.{written_back}
use Rattle.proto.proofs.Pooling.{AreRelated-seats}
use Rattle.proto.proofs.workers.pool.Goals as goal

pub returns-clause-worked : goal.returns-clause-worked
returns-clause-worked g c =
    let items = c.seat_all-empty.result.1.items in
    let lent : c.as_mut_slice.result.now ≡ items = c.as_mut_slice.ensures.value in
    let after = c.work_all.new.seats in
    let long : length after ≡ length items = c.work_all.ensures.as_many ∙ ap length lent in
    let back = written_back c.seat_all-empty.result.1.len items after
    (drop (length after) items) c.seat_all-empty.result.1.ok.0 long in
    AreRelated-seats _ _ _ _ _ (c.as_mut_slice.ensures.value ∙ c.seat_all-empty.ensures.seats)
    c.work_all.ensures.as_many c.work_all.ensures.worked (rw back at c.unseat_all.ensures)
