-- A collect frees just the retired blocks that no kept version maps; its reply is an answer.
use Rattle.events.proofs.Names.{rules, ◌≡◌, ℕ, ◌+◌, not, List, length, refl, arith, None, filter}
use Rattle.events.proofs.Names.{Command, Paint, Stamp, Publish, Revert, Collect, Checkpoint, Kept}
use Rattle.events.proofs.Names.{Story, kept, IsKept, with_kept, inuse, refused, IsAnswer, Blocks}
use Rattle.events.proofs.Names.{RetiredBlock, is_used, blocks_of, Base, kept_scanned, reply_of}
use Rattle.events.proofs.Names.{IsTidy}
use Rattle.events.proofs.logs.KeptLemmas.{part-after, IsIn-after, stay-newest}
use Rattle.events.proofs.invariants.TidyCollect.{IsChoice, IsTidy-keeping}
use Rattle.events.proofs.invariants.TidyDraft.{free_is}
use Rattle.events.proofs.accounts.TimesLemmas.{length-given_back, length-blocks_of}

-- the blocks that are freed are those that are no longer in use
pub freed_is : (k : Base) (s : Story) (m : Blocks) → IsTidy k s m → (kept_now : Kept)
    → IsChoice s kept_now
    → length (filter (λ r. not (is_used (kept (with_kept s kept_now)) r)) m.retired)
    + inuse (with_kept s kept_now) ≡ inuse s
freed_is k s m tidy kept_now choice =
    let back : List RetiredBlock = filter (λ r. not (is_used (kept (with_kept s kept_now)) r))
    m.retired in
    let before = free_is k s m tidy in
    let after = free_is k _ _ (IsTidy-keeping k s m tidy s.places kept_now choice) in
    let given = length-given_back (blocks_of back) m.free in
    let each = length-blocks_of back in
    omega arith

-- what a collect keeps was kept, newest among it
pub scanned_choice : (k : Base) (s : Story) (m : Blocks) → IsTidy k s m → (words : List ℕ)
    → IsChoice s (kept_scanned s words)
unfolding kept_scanned IsKept
scanned_choice k s m tidy words = search (rules, part-after, IsIn-after, stay-newest)

-- the reply that a command commits is an answer
pub reply_is_answer : (k : Base) (s : Story) (m : Blocks) → IsTidy k s m
    → (c : Command) (words : List ℕ) → refused k.setting s c ≡ None
    → IsAnswer k.setting s c (reply_of s c words)
unfolding reply_of
reply_is_answer k s m tidy (Paint r black) words accepted =
    record { accepted = accepted; reply_is = refl }
reply_is_answer k s m tidy (Stamp x y b) words accepted =
    record { accepted = accepted; reply_is = refl }
reply_is_answer k s m tidy Publish words accepted = record { accepted = accepted; reply_is = refl }
reply_is_answer k s m tidy Revert words accepted = record { accepted = accepted; reply_is = refl }
reply_is_answer k s m tidy Checkpoint words accepted =
    record { accepted = accepted; reply_is = refl }
reply_is_answer k s m tidy Collect words accepted =
    let choice = scanned_choice k s m tidy words in
    record {
      accepted = accepted;
      reply_is = (
        _,
        _,
        _,
        refl,
        record {
          part = choice.part;
          newest_in = choice.newest_in;
          floor_is = refl;
          freed_is = let freed = freed_is k s m tidy (kept_scanned s words) choice in omega arith;
        },
      );
    }
