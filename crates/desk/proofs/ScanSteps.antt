-- What a scan has seen so far, and what it keeps.
use Rattle.desk.proofs.Names.{◌≡◌, ℕ, ◌+◌, ◌^◌, ◌<◌, ◌≤◌, List, [], ◌∷◌, ◌++◌, length, map, take}
use Rattle.desk.proofs.Names.{set, ◌∙◌, refl, arith, Option, None, map-append}
use Rattle.desk.proofs.Names.{length-map, length-take, take_more_set, Command, Collect, Entry}
use Rattle.desk.proofs.Names.{Reply, Kept, Seen, IsIn, kept_after, told, kept_told, newest}
use Rattle.desk.proofs.Names.{IsKept, kept_scanned, steps_before, Base, pin_word, story}
use Rattle.desk.proofs.Names.{story-push, the_reply, StoreId, readers_of, KeeperView, entries}
use Rattle.desk.proofs.Names.{scanning, Holding, IsToldByLog, Does, IsInHand, IsWorked}
use Rattle.desk.proofs.Names.{refused_by_ledger, place_of_ledger}
use Rattle.events.proofs.logs.KeptLemmas.{seen_in-pin_words}
use Rattle.desk.proofs.HoldOpen.{can_answer}
use Rattle.desk.proofs.HoldLemmas.{tidy_told}

-- a scan up to a reader has seen as many words as that reader's number
pub seen_long : (seen : List (Option Seen)) (reader : ℕ) → reader ≤ length seen
    → length (map pin_word (take reader seen)) ≡ reader
seen_long seen reader few =
    omega (arith, length-map (take reader seen) pin_word, length-take reader seen)

-- once one more reader is scanned, the words that are seen have that reader's at their end
pub scan_grows : (seen : List (Option Seen)) (reader word : ℕ) (o : Option Seen)
    → reader < length seen → word ≡ pin_word o
    → map pin_word (take (reader + 1) (set seen reader o))
    ≡ map pin_word (take reader seen) ++ word ∷ []
scan_grows seen reader word o inside is =
    rw (take_more_set seen reader o inside, map-append pin_word (take reader seen) (o ∷ []), is) refl

-- the versions that a scan keeps are those that are computed from what it saw
pub kept_computed : (z : Base) (k : KeeperView) (h : Holding) (kept : Kept)
    (seen as' : List (Option Seen)) → IsToldByLog z (entries k.log) h
    → kept ≡ kept_after h.ledger.kept h.ledger.newest as' → as' ≡ seen
    → kept ≡ kept_scanned (story z (entries k.log)) (map pin_word seen)
unfolding kept_scanned
kept_computed z k h kept seen as' tells is same =
    let ledger = tells.holds.summary.ledger_is in cc (seen_in-pin_words seen)

-- the ledger keeps newest
pub newest_kept : (z : Base) (k : KeeperView) (h : Holding) → IsToldByLog z (entries k.log) h
    → IsIn h.ledger.kept h.ledger.newest
unfolding IsKept
newest_kept z k h tells =
    let ledger = tells.holds.summary.ledger_is in
    rw (ledger.kept_is, ledger.newest_is) (tidy_told z (entries k.log) h tells).slots.newest_in

-- the versions that the ledger keeps after a collect are those of the collect's reply
pub kept_replied : (z : Base) (log : List Entry) (h new : Holding) (reply : Reply) (kept : Kept)
    → IsToldByLog z log h → Does h Collect reply new → new.ledger.kept ≡ kept
    → kept_told (story z log) reply ≡ kept
unfolding told
kept_replied z log h new reply kept tells does is =
    let after = (does z log tells).1.holds.summary.ledger_is.kept_is in
    cc (story-push z log record { command = Collect; reply = reply })

-- where the ledger doesn't refuse the current command, one more version can be counted
pub few_versions : (z : Base) (k : KeeperView) (h : Holding) (c : Command)
    → IsToldByLog z (entries k.log) h → refused_by_ledger h.ledger c ≡ None
    → newest (story z (entries k.log)) + 1 < 2 ^ 32
few_versions z k h c tells judged =
    omega (
      arith,
      place_of_ledger h.ledger c judged,
      can_answer z (entries k.log) h tells,
      tells.holds.summary.ledger_is.newest_is,
    )

-- a collect that has seen each reader's word is worked once what it does is done
pub collect_worked : (z : StoreId) (k u : KeeperView) (h new : Holding) (by : ℕ) (kept : Kept)
    (seen : List (Option Seen)) (reply : Reply) → IsInHand z k h by Collect
    → u ≡ scanning k by (map pin_word seen)
    → length seen ≡ readers_of z → Does h Collect reply new → new.ledger.kept ≡ kept
    → kept ≡ kept_scanned (story z.base (entries k.log)) (map pin_word seen)
    → IsWorked z k h by Collect reply u new
unfolding steps_before
collect_worked z k u h new by kept seen reply hand scanned all does kept_is of_scan =
    let log = entries k.log in
    record {
      done = length (map pin_word seen);
      words = map pin_word seen;
      keeper_is = scanned;
      all_done = length-map seen pin_word ∙ all;
      reply_is = the_reply (story z.base log) Collect reply (map pin_word seen)
          (does z.base log hand.told).0.reply_is
          (kept_replied z.base log h new reply kept hand.told does kept_is ∙ of_scan);
      does = does;
    }
