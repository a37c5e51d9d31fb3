-- After each of its steps the keeper's seat keeps what its view says.
use Rattle.shelf.proofs.Names.{nat_tests, common_steps, rules, ◌≡◌, ℕ, ◌+◌, ◌<◌, refl, arith, Some}
use Rattle.shelf.proofs.Names.{None, length-append, bool_byte, opened, IsLegal, refused, Base}
use Rattle.shelf.proofs.Names.{now_word, now_of, slot-within, story, blocks, IsReady, IsTidy-legal}
use Rattle.shelf.proofs.Names.{is_publish, Request, Task, KeeperView, entries, with_command}
use Rattle.shelf.proofs.Names.{IsNextWrite, MayCommit, signed_of, committed, newest_slot}
use Rattle.events.specs.Words.{word_count}
use Rattle.std.proofs.Common.{true, ◌^◌, Bool}
use Rattle.shelf.specs.Seats.{KeeperSays}
use Rattle.std.proofs.lemmas.Option.{same_Some}
use Rattle.events.proofs.accounts.SpareLemmas.{spare_write}
use Rattle.events.proofs.accounts.FreedLemmas.{reply_is_answer}
use Rattle.events.proofs.invariants.TidyLog.{IsLegal-push}
use Rattle.events.proofs.accounts.TileCounts.{as_count}
use Rattle.shelf.proofs.logs.LogParts.{entries-push}
use Rattle.shelf.proofs.logs.NowLemmas.{newest-push, now_of_log, room}

-- once there is a current command, what the keeper's seat keeps is what its view says, with a flag
-- for a publish
pub says_ordered : (z : Base) (k : KeeperView) (place version slot : ℕ) (publishes unmet : Bool)
    (a : Request) → KeeperSays z k place version slot publishes unmet
    → refused z.setting (story z (entries k.log)) a.command ≡ None
    → KeeperSays z (with_command k a.by a.command) place version slot (is_publish a.command) unmet
says_ordered z k place version slot publishes unmet a says accepted = search (rules, same_Some)

-- once more is done of the current command, what the keeper's seat keeps is still what its view
-- says
pub says_on : (z : Base) (k : KeeperView) (place version slot : ℕ) (publishes unmet : Bool)
    (t u : Task) → KeeperSays z k place version slot publishes unmet → k.task ≡ Some t
    → t.hand.command ≡ u.hand.command
    → KeeperSays z (record k { task = Some u }) place version slot publishes unmet
says_on z k place version slot publishes unmet t u says task same = search (rules, same_Some)

-- the place of the next word is one of the table's
pub write_within : (z : Base) → IsReady z
    → (k : KeeperView) (place version slot : ℕ) (publishes unmet : Bool) {at word : ℕ}
    → IsNextWrite z k at word → KeeperSays z k place version slot publishes unmet
    → at < word_count z
write_within z ready k place version slot publishes unmet {at} {word} next says =
    grind (arith, nat_tests, common_steps, spare_write, IsTidy-legal)

-- the place, the version and the slot that a seat keeps have room in NOW
pub now_room : (z : Base) → IsReady z
    → (k : KeeperView) (place version slot : ℕ) (publishes unmet : Bool)
    → KeeperSays z k place version slot publishes unmet → (place < 2 ^ 29) × (version < 2 ^ 29)
    × (slot < 64)
now_room z ready k place version slot publishes unmet says =
    grind (arith, nat_tests, common_steps, room, IsTidy-legal, slot-within)

module _ (z : Base) (ready : IsReady z) (k : KeeperView) (place version slot step next : ℕ)
    (publishes unmet : Bool) (may : MayCommit z k) (grows : step ≡ bool_byte publishes)
    (slot_next : next ≡ newest_slot z (committed z k may.task).log)
    (says : KeeperSays z k place version slot publishes unmet) where
  -- the log is legal after a commit
  pub legal_committed : IsLegal z.setting z.opening (entries (committed z k may.task).log)
  unfolding story
  legal_committed =
      rw (entries-push k.log (signed_of z k may.task)) (IsLegal-push z.setting (opened z.opening)
      (entries k.log) (signed_of z k may.task).entry says.legal (reply_is_answer z
      (story z (entries k.log)) (blocks z (entries k.log))
      (IsTidy-legal z (entries k.log) ready says.legal) may.task.hand.command
      may.task.hand.scanned (says.accepted may.task may.in_hand)))

  -- after a commit what the keeper's seat keeps is what its view says, and the commit is unmet
  pub says_committed : KeeperSays z (committed z k may.task) (place + 1)
      (version + step) next publishes true
  says_committed =
      let one_more = newest-push z k.log (signed_of z k may.task) in
      let is = says.publishes_is may.task may.in_hand in
      record {
        legal = legal_committed;
        place_is = search (rules, length-append);
        version_is = grind (arith, as_count);
        slot_is = slot_next;
        publishes_is = λ t none_there. absurd (cc);
        accepted = λ t none_there. absurd (cc);
        unmet_is = refl;
      }

  -- the word that a commit stores is NOW of the log after it
  pub word_committed : now_word (place + 1) (version + step) next
      ≡ now_of (story z (entries (committed z k may.task).log))
  word_committed = let then = says_committed in search (rules, now_of_log)

  -- the place, the version and the slot after a commit have room in NOW
  pub room_committed : (place + 1 < 2 ^ 29) × (version + step < 2 ^ 29) × (next < 64)
  room_committed = now_room z ready (committed z k may.task) (place + 1)
      (version + step) next publishes true says_committed
