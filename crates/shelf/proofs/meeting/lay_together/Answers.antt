-- Laying a reader's view in the keeper's seat keeps the rule.
use Rattle.shelf.proofs.Names.{rules, ap}
use Rattle.shelf.proofs.seats.OwnTable.{its_role}
use Rattle.shelf.proofs.steps.MeetingSteps.{joins}
use Rattle.shelf.proofs.meeting.lay_together.Goals as goal

pub join_seat-requires : goal.join_seat-requires
join_seat-requires c =
    let role = ap (λ m. m.0) c.requires.roles.0 in
    let its = its_role _ _ _ c.into_seat.ensures.2 c.requires.roles.1 in
    rw (role, its) (search (rules, joins))
