-- A ticket's view is joined, and the load tells.
use Rattle.shelf.proofs.Names.{rules, ap, ◌∙◌, reader_on}
use Rattle.shelf.specs.Seats.{ticket_on}
use Rattle.shelf.specs.Steps.{handed}
use Rattle.shelf.proofs.seats.OwnTable.{its_role}
use Rattle.shelf.proofs.steps.TicketSteps.{joins_ticket, learns_it}
use Rattle.shelf.proofs.ticket.learn_on.Goals as goal

pub join_seat-requires : goal.join_seat-requires
join_seat-requires g c =
    let role = its_role _ _ _ c.into_seat-seat.ensures.2
    (ap (λ b. b.views) c.replace.ensures.value ∙ c.requires.reader) in
    let its = its_role _ _ _ c.into_seat.ensures.2 c.requires.token in
    rw (role, its) (search (rules, joins_ticket))

pub load-word-requires : goal.load-word-requires
load-word-requires g c =
    let role = its_role _ _ _ c.into_seat-seat.ensures.2
    (ap (λ b. b.views) c.replace.ensures.value ∙ c.requires.reader) in
    let its = its_role _ _ _ c.into_seat.ensures.2 c.requires.token in
    let now = ap (λ m. m.0) c.join_seat.ensures.2 ∙ (λ i. handed (role i) (its i)) in (
      search rules,
      c.requires.table.2,
      rw c.requires.base (learns_it g.Id.StoreName.store.base _ _ _
          (reader_on c.args.reader.now.views) (ticket_on c.args.token.views) now),
    )

pub returns-clause-learned : goal.returns-clause-learned
returns-clause-learned g c =
    let role = its_role _ _ _ c.into_seat-seat.ensures.2
    (ap (λ b. b.views) c.replace.ensures.value ∙ c.requires.reader) in
    let its = its_role _ _ _ c.into_seat.ensures.2 c.requires.token in
    let now = ap (λ m. m.0) c.join_seat.ensures.2 ∙ (λ i. handed (role i) (its i)) in
    let told = c.load-word.ensures.2 _ _ now in
    search rules
