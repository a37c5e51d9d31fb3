-- What a reader counts after a meeting is no more than the log has.
use Rattle.shelf.proofs.Names.{rules, now-within, ◌≡◌, ◌≤◌, ◌+◌, ap, ◌∙◌, arith, bool_byte}
use Rattle.shelf.proofs.Names.{keeper_in, made_by, unmet_by, reader_on}
use Rattle.shelf.proofs.logs.LogParts.{made_by-fits}
use Rattle.shelf.proofs.seats.Newcomers.{unmet_counts}
use Rattle.shelf.specs.Steps.{Meets}
use Rattle.shelf.proofs.meeting.meet.Goals as goal

pub meet_on-requires-clause-table : goal.meet_on-requires-clause-table
meet_on-requires-clause-table g c = rw c.deref.ensures (search (rules, now-within))

pub overflow_add-reader : goal.overflow_add-reader
overflow_add-reader g c =
    let k = keeper_in c.keeper.inside.seat.me.0 in
    let x = reader_on c.reader.inside.seat.views in
    let meets : Meets g.Id.StoreName.store.base k x =
    rw c.replace-seat.ensures.value at c.meet_on.ensures.meets in
    let counted : made_by x.number k.log ≡ x.made + unmet_by x.number k.unmet = meets.counted in
    let most = made_by-fits x.number k.log in
    let counts = unmet_counts k.unmet x.number (rw (c.keeper.view_is, c.reader.view_is) c.requires)
    in
    let flag : c.from.result ≡ unmet_by x.number k.unmet = c.from.ensures
    ∙ (ap bool_byte c.keeper.invariant.2.unmet_is ∙ counts) in
    let made = c.reader.invariant.2.made_is in
    let place = c.keeper.invariant.2.place_is in
    let fits = c.keeper.ranges in
    let enough : c.reader.inside.made + c.from.result ≤ c.keeper.inside.now.place = omega arith in
    omega arith
