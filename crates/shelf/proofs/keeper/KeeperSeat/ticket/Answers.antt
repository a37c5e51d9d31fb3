-- A ticket is cut off.
use Rattle.shelf.proofs.Names.{rules, now-within}
use Rattle.shelf.proofs.steps.TicketSteps.{cuts_ticket}
use Rattle.shelf.proofs.keeper.KeeperSeat.ticket.Goals as goal

pub split_seat-requires : goal.split_seat-requires
split_seat-requires g c =
    let of = c.self.invariant.0 in
    rw (c.deref.ensures, of.basis_is) (search (rules, now-within, cuts_ticket))
