-- A command that the keeper commits is carried out: the reply that is computed is the one that its
-- log has.
use Rattle.desk.proofs.Names.{◌≡◌, ℕ, ◌<◌, [], ◌∷◌, ◌++◌, refl, ap, sym, ◌∙◌, Some, None, Command}
use Rattle.desk.proofs.Names.{Reply, Story, Blocks, refused, steps_before, Base, slot_of, story}
use Rattle.desk.proofs.Names.{blocks, StoreId, readers_of, Task, KeeperView, entries, with_command}
use Rattle.desk.proofs.Names.{committed, newest_slot, MayCommit, entries-push, HasKept, the_reply}
use Rattle.desk.proofs.Names.{Holding, IsOneStep, Does, Judged, IsJudged, CanCarry, IsCarried}
use Rattle.desk.proofs.Names.{IsInHand, IsWorked, signed, task_of, with_task, arith}
use Rattle.std.proofs.lemmas.Option.{same_Some}
use Rattle.desk.proofs.HoldDraw.{judged_none}

-- a command that is judged is accepted
pub accepted : (z : StoreId) (k : KeeperView) (h : Holding) (c : Command) (j : Judged)
    → CanCarry z k h → IsJudged h c j
    → refused z.base.setting (story z.base (entries k.log)) c ≡ None
accepted z k h c j able judged = sym (judged_none h c j judged z.base (entries k.log) able.told)

-- a command that the keeper has taken is current
pub taken_in_hand : (z : StoreId) (k u : KeeperView) (h : Holding) (by : ℕ) (c : Command)
    → CanCarry z k h → u ≡ with_command k by c → IsInHand z u h by c
taken_in_hand z k u h by c able is = rw is record {
  keeper_is = ap (λ (q : KeeperView). with_command q by c) able.keeper_is;
  told = able.told;
}

-- a keeper with a current command has it as its task, of which no step is done
pub has_task : (z : StoreId) (k : KeeperView) (h : Holding) (by : ℕ) (c : Command)
    → IsInHand z k h by c → k ≡ with_task k (task_of by c 0 [])
has_task z k h by c hand = rw hand.keeper_is refl

-- a command of one step has none before its last
no_steps : (z : Base) (m : Blocks) (c : Command) → IsOneStep c → 0 ≡ steps_before z m c
unfolding steps_before
no_steps z m c one = grind arith

-- a command of one step is worked once what it does is done
pub worked_at_once : (z : StoreId) (k : KeeperView) (h new : Holding) (by : ℕ) (c d : Command)
    (reply : Reply) → IsInHand z k h by c → c ≡ d → IsOneStep d → Does h d reply new
    → IsWorked z k h by c reply k new
worked_at_once z k h new by c d reply hand is once done =
    let one : IsOneStep c = rw is once in
    let does : Does h c reply new = rw is done in
    record {
      done = 0;
      words = [];
      keeper_is = has_task z k h by c hand;
      all_done = no_steps z.base (blocks z.base (entries k.log)) c one;
      reply_is = the_reply (story z.base (entries k.log)) c reply []
          (does z.base (entries k.log) hand.told).0.reply_is
          (no_scan (story z.base (entries k.log)) c reply one);
      does = does;
    }
  where
    no_scan : (s : Story) (c : Command) (reply : Reply) → IsOneStep c → HasKept s c reply []
    no_scan s c reply one = grind arith

-- a command that is worked, and that a reader asked for, may be committed
pub may_commit : (z : StoreId) (k u : KeeperView) (h new : Holding) (by : ℕ) (c : Command)
    (reply : Reply) → IsInHand z k h by c → by < readers_of z → IsWorked z k h by c reply u new
    → MayCommit z.base u
may_commit z k u h new by c reply hand below worked =
    rw worked.keeper_is record {
      task = task_of by c worked.done worked.words;
      in_hand = refl;
      all_done = worked.all_done;
      caller = rw hand.keeper_is below;
      met = rw hand.keeper_is refl;
    }

-- the commit of a command that is worked puts its entry into the log
commits : (z : StoreId) (k u : KeeperView) (h new : Holding) (by : ℕ) (c : Command) (reply : Reply)
    → IsWorked z k h by c reply u new → (t : Task) → u.task ≡ Some t
    → committed z.base u t ≡ record k {
      log = k.log ++ signed by c reply ∷ [];
      task = None;
      unmet = Some by;
    }
commits z k u h new by c reply worked t there =
    let one : t ≡ task_of by c worked.done worked.words = same_Some _ _
    (sym there ∙ ap (λ (q : KeeperView). q.task) worked.keeper_is) in
    rw (worked.keeper_is, one, worked.reply_is) refl

-- after the commit of a command that is worked the slot that is held as newest's is the slot of the
-- log's newest version
pub slot_told : (z : StoreId) (k u : KeeperView) (h new : Holding) (by : ℕ) (c : Command)
    (reply : Reply) → IsInHand z k h by c → IsWorked z k h by c reply u new
    → (t : Task) → u.task ≡ Some t → new.ledger.slot ≡ newest_slot z.base (committed z.base u t).log
unfolding slot_of
slot_told z k u h new by c reply hand worked t there =
    let log_is = ap (λ (q : KeeperView). q.log) (commits z k u h new by c reply worked t there) in
    rw (log_is, entries-push k.log (signed by c reply))
    (worked.does z.base (entries k.log) hand.told).1.holds.summary.ledger_is.slot_is

-- a current command that was worked is carried out once it is committed
pub carried : (z : StoreId) (k q u l : KeeperView) (h new : Holding) (by : ℕ) (c : Command)
    (reply : Reply) → q ≡ with_command k by c → IsWorked z q h by c reply u new
    → ((t : Task) → u.task ≡ Some t → l ≡ committed z.base u t) → IsCarried k h by c reply l new
carried z k q u l h new by c reply order worked step =
    let task = task_of by c worked.done worked.words in
    let there : u.task ≡ Some task = rw worked.keeper_is refl in
    record {
      keeper_is = rw (step task there, commits z q u h new by c reply worked task there, order)
          refl;
      does = worked.does;
    }

-- how a command is taken
pub ruleset carrying = (accepted, taken_in_hand)
