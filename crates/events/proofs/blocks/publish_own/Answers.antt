-- Each own block is given to the next version at its position.
use Rattle.events.proofs.Names.{ℕ, arith, refl, sym, ◌∙◌, ap}
use Rattle.events.proofs.accounts.PublishOwn.{given_past, given_more, given_fits, given_all}
use Rattle.events.proofs.accounts.GiveBack.{cleared, cleared-all}
use Rattle.events.proofs.blocks.publish_own.Goals.{then-is_some, else-is_some}
use Rattle.events.proofs.blocks.publish_own.Goals as goal

pub push_reserved-requires : goal.push_reserved-requires
push_reserved-requires c =
    omega (
      arith,
      c.loop-position.retired.ok,
      given_fits c.loop-position.invariant.0 _ (omega arith) refl
          (sym c.is_some.ensures ∙ c.if-is_some.true),
      c.loop-position.invariant.1,
    )

pub loop-position-preserved : goal.loop-position-preserved
loop-position-preserved c =
    elim c.if-is_some.branch [
      | then-is_some w ↦ rw (
        w.own-is,
        w.came-is,
        w.retired-is,
        w.push_reserved.ensures.items,
        w.push_reserved.ensures.capacity,
      ) (
        given_more c.loop-position.invariant.0 _ _ _
            record {
              inside = omega arith;
              long = c.requires.came;
              directory_long = c.requires.directory;
              read = refl;
            }
            (sym c.is_some.ensures ∙ w.if-is_some.true) refl refl,
        c.loop-position.invariant.1,
      )
      | else-is_some w ↦ rw (w.own-is, w.came-is, w.retired-is) (
        given_past c.loop-position.invariant.0 _
            record {
              inside = omega arith;
              long = c.requires.came;
              directory_long = c.requires.directory;
              read = refl;
            }
            (sym c.is_some.ensures ∙ w.if-is_some.false),
        c.loop-position.invariant.1,
      )
    ]

pub returns-clause-own : goal.returns-clause-own
returns-clause-own c =
    let given = c.loop-position.invariant.0 in
    given.own_is
    ∙ (ap (λ (n : ℕ). cleared n c.args.own.now) (omega arith) ∙ cleared-all c.args.own.now)

pub returns-clause-came : goal.returns-clause-came
returns-clause-came c = (given_all c.loop-position.invariant.0 c.requires.came (omega arith)).0

pub returns-clause-retired : goal.returns-clause-retired
returns-clause-retired c = (given_all c.loop-position.invariant.0 c.requires.came (omega arith)).1
