-- Both seats are at the store's table.
use Rattle.shelf.proofs.Names.{rules, now-within}
use Rattle.shelf.proofs.closing.Closing.give_up.Goals as goal

pub give_up_on-requires-clause-table : goal.give_up_on-requires-clause-table
give_up_on-requires-clause-table g c = rw c.deref.ensures (search (rules, now-within))
