-- Giving a reader up keeps the rule, and the load tells what the keeper and the reader have of each
-- other.
use Rattle.shelf.proofs.Names.{rules, keeper_in, reader_on}
use Rattle.shelf.proofs.steps.MeetingSteps.{gives_it_up}
use Rattle.shelf.proofs.closing.give_up_on.Goals as goal

pub load-requires : goal.load-requires
load-requires g c = (
  search rules,
  c.requires.table.2,
  rw c.requires.base (gives_it_up g.Id.StoreName.store.base _ _ _ (keeper_in c.args.keeper.now.me.0)
      (reader_on c.args.reader.views) (search rules) c.requires.quiet),
)

pub returns-clause-keeper : goal.returns-clause-keeper
returns-clause-keeper g c =
    let told = c.load.ensures.2 (keeper_in c.args.keeper.now.me.0) (reader_on c.args.reader.views)
    (search rules) in
    search rules

pub returns-clause-meets : goal.returns-clause-meets
returns-clause-meets g c =
    (c.load.ensures.2 (keeper_in c.args.keeper.now.me.0) (reader_on c.args.reader.views)
    (search rules)).1
