-- The steps of a meeting keep the rule, and the load tells what the keeper and the reader have of
-- each other.
use Rattle.shelf.proofs.Names.{rules, ap, keeper_in, reader_on}
use Rattle.shelf.proofs.steps.MeetingSteps.{meets_it, parts}
use Rattle.shelf.proofs.meeting.meet_on.Goals as goal

pub load-requires : goal.load-requires
load-requires g c = (
  search rules,
  c.requires.table.2,
  rw c.requires.base (meets_it g.Id.StoreName.store.base _ _ _ (keeper_in c.args.keeper.now.me.0)
      (reader_on c.args.reader.views) (search rules) c.requires.unmet),
)

pub split_seat-requires : goal.split_seat-requires
split_seat-requires g c =
    let told = c.load.ensures.2 (keeper_in c.args.keeper.now.me.0) (reader_on c.args.reader.views)
    (search rules) in
    let role = ap (λ m. m.0) told.0 in
    rw role (search (rules, parts))

pub returns-clause-keeper : goal.returns-clause-keeper
returns-clause-keeper g c =
    let told = c.load.ensures.2 (keeper_in c.args.keeper.now.me.0) (reader_on c.args.reader.views)
    (search rules) in
    search rules

pub returns-clause-meets : goal.returns-clause-meets
returns-clause-meets g c =
    (c.load.ensures.2 (keeper_in c.args.keeper.now.me.0) (reader_on c.args.reader.views)
    (search rules)).1
