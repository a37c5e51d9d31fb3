-- The seat that has learned a ticket keeps what its new view says.
use Rattle.shelf.proofs.Names.{now-within, rules, ap, reader_on}
use Rattle.shelf.proofs.seats.ReaderSeats.{says_loaded}
use Rattle.shelf.proofs.reader.ReaderSeat.learn.Goals as goal

pub learn_on-word-requires-clause-table : goal.learn_on-word-requires-clause-table
learn_on-word-requires-clause-table g c = rw c.deref.ensures (search (rules, now-within))

pub invariant_of-self : goal.invariant_of-self
invariant_of-self g c =
    let it = c.learn_on-word.ensures.learned in (
      search rules,
      search rules,
      says_loaded g.Id.StoreName.store.base _ _ _ _ _ _ _ it.log c.self.invariant.2 it.sees
          (search rules) (ap reader_on it.views_are),
    )

pub returns-clause-legal : goal.returns-clause-legal
returns-clause-legal g c =
    let it = c.learn_on-word.ensures.learned in
    rw (ap (λ views. (reader_on views).seen) it.views_are) it.sees.legal
