-- A command is refused, or committed with its answer.
use Rattle.desk.proofs.Names.{◌≡◌, List, [], ◌∷◌, ◌++◌, ap, ◌∙◌, StoreEntry, KeeperView, ReaderView}
use Rattle.desk.proofs.Names.{signed, DeskView, entries_kept_after}
use Rattle.desk.proofs.DeskLemmas.{IsDone, keeper_met, reader_met, refused_is, log_after}
use Rattle.desk.proofs.DeskLemmas.{desk_after, accepted_is, legal_after, applied_accepted}
use Rattle.desk.proofs.DeskLemmas.{applied_refused}
use Rattle.desk.proofs.HoldOpen.{can_answer}
use Rattle.desk.proofs.desk.Desk.apply.Goals as goal

pub admit-requires : goal.admit-requires
admit-requires g c = can_answer _ _ _ c.self.invariant.told

pub invariant_of-self-2 : goal.invariant_of-self-2
invariant_of-self-2 g c =
    let z = g.Id.StoreName.store in
    let d : DeskView = record {
      log = c.self.inside.keeper.log;
      scanned = c.self.inside.announced.items;
    } in
    let done : IsDone z d c.meet.new.keeper c.self.inside.holding c.number.result c.args.command
    c.carry-reply.result c.carry-reply.new.keeper c.carry-reply.new.holding =
    record {
      told = c.self.invariant.told;
      at_rest = keeper_met z d _ _ _ _ c.self.invariant c.meet.ensures.keeper;
      carried = c.carry-reply.ensures.carried;
    } in
    desk_after z d _ _ _ _ _ _ _ _ c.self.inside.log.items _ _ done c.self.invariant.kept_is
    (c.keep.ensures.items
    ∙ ap (λ (l : List StoreEntry). entries_kept_after l
    (signed c.number.result c.args.command c.carry-reply.result)) c.admit.ensures.items)
    c.meet-2.ensures.keeper c.carry-reply.ensures.place_each

pub returns-in-Err-clause-applied : goal.returns-in-Err-clause-applied
returns-in-Err-clause-applied g c =
    let z = g.Id.StoreName.store in
    let d : DeskView = record {
      log = c.self.inside.keeper.log;
      scanned = c.self.inside.announced.items;
    } in
    let still : c.meet.new.keeper ≡ _ = keeper_met z d _ _ _ _ c.self.invariant
    c.meet.ensures.keeper in
    rw (← c.self.view_is) (applied_refused z _ _ _ _ _ _
    (refused_is z _ _ _ _ _ _ _ _ _ c.self.invariant c.requires c.in-Err.ensures.refused
    (ap (λ (q : KeeperView). record { log = q.log; scanned = c.self.inside.announced.items })
    still) c.meet.ensures.reader)
    c.meet.ensures.began c.self.invariant.told.legal)

pub returns-clause-applied : goal.returns-clause-applied
returns-clause-applied g c =
    let z = g.Id.StoreName.store in
    let d : DeskView = record {
      log = c.self.inside.keeper.log;
      scanned = c.self.inside.announced.items;
    } in
    let done : IsDone z d c.meet.new.keeper c.self.inside.holding c.number.result c.args.command
    c.carry-reply.result c.carry-reply.new.keeper c.carry-reply.new.holding =
    record {
      told = c.self.invariant.told;
      at_rest = keeper_met z d _ _ _ _ c.self.invariant c.meet.ensures.keeper;
      carried = c.carry-reply.ensures.carried;
    } in
    let seen : c.meet.new.reader ≡ record c.args.seat.now { seen = d.log } =
    reader_met z d _ c.self.inside.holding c.self.inside.log.items c.args.seat.now _
    c.self.invariant c.requires c.meet.ensures.reader in
    let by_is : c.number.result ≡ c.args.seat.now.number = c.number.ensures.number
    ∙ ap (λ (x : ReaderView). x.number) seen in
    let log_is : c.meet-2.new.keeper.log ≡ d.log
    ++ signed c.number.result c.args.command c.carry-reply.result ∷ [] =
    log_after z d _ _ _ _ _ _ _ _ done c.meet-2.ensures.keeper in
    let now : DeskView = record {
      log = c.meet-2.new.keeper.log;
      scanned = c.carry-reply.new.announced.items;
    } in
    rw (← c.self.view_is) (applied_accepted z _ now _ _ _ _
    (accepted_is z d now _ _ _ _ _ _ _ c.args.seat.now _ _ done c.requires by_is log_is
    c.carry-reply.ensures.scanned c.carry-reply.ensures.place_each seen c.meet-2.ensures.reader)
    c.meet.ensures.began
    (legal_after z d now _ _ _ _ _ _ _ done log_is))
