-- The positions before this one are given to the next version.
use Rattle.events.proofs.Names.{◌≡◌, vec_capacity}
use Rattle.events.proofs.accounts.PublishOwn.{IsGiven}
use Rattle.events.proofs.blocks.publish_own.Given as goal

abbrev pub invariant-loop-position : goal.invariant-loop-position
invariant-loop-position l =
    IsGiven l.newest l.directory l.fn.own l.fn.came l.fn.retired.items
    (vec_capacity l.fn.retired) l.position l.own l.came l.retired.items
    × (vec_capacity l.retired ≡ vec_capacity l.fn.retired)
