-- What is kept of a log after one more collect.
use Rattle.events.proofs.Names.{rules, ◌≡◌, ℕ, ◌-◌, not, List, length, ap, subst, sym, ◌∙◌, arith}
use Rattle.events.proofs.Names.{filter, RetiredBlock, Collect, Reply, Collected, Kept, Ledger}
use Rattle.events.proofs.Names.{members, Story, newest, bitmap_of, kept, with_kept, inuse, told}
use Rattle.events.proofs.Names.{Blocks, is_used, blocks_of, given_back, moved, IsLedger, Summary}
use Rattle.events.proofs.Names.{IsSummary, Base, IsTidy}
use Rattle.events.proofs.accounts.CameLemmas.{came-same_changes}
use Rattle.events.proofs.accounts.FreedLemmas.{freed_is}
use Rattle.events.proofs.invariants.TidyCollect.{IsChoice, collected_story}
use Rattle.events.proofs.accounts.TimesLemmas.{length-filter}

-- what is kept is right once the blocks that no kept version maps are freed
pub summary_swept : (k : Base) (s : Story) (m : Blocks) (u : Summary) (ledger : Ledger)
    (place f freed : ℕ) (kept_now : Kept) (free : List ℕ) (retired : List RetiredBlock)
    → IsSummary k s m u
    → IsLedger k (told s Collect (Collected place f freed kept_now)) ledger
    → retired ≡ filter (is_used (members kept_now.slots)) u.retired
    → free ≡ given_back
    (blocks_of (filter (λ r. not (is_used (members kept_now.slots) r)) u.retired)) u.free
    → IsSummary k (told s Collect (Collected place f freed kept_now))
    (moved s Collect (Collected place f freed kept_now) m)
    record u { ledger = ledger; free = free; retired = retired }
unfolding told moved newest bitmap_of kept
summary_swept k s m u ledger place f freed kept_now free retired keeps entered retired_is free_is =
    search (rules, came-same_changes, collected_story)

-- what is kept is right after a collect
pub summary_collect : (k : Base) (s : Story) (m : Blocks) (u : Summary) (ledger : Ledger)
    (reply : Reply) (place f freed : ℕ) (kept_now : Kept) (free : List ℕ)
    (retired : List RetiredBlock) → IsSummary k s m u
    → reply ≡ Collected place f freed kept_now → IsLedger k (told s Collect reply) ledger
    → retired ≡ filter (is_used (members kept_now.slots)) u.retired
    → free ≡ given_back
    (blocks_of (filter (λ r. not (is_used (members kept_now.slots) r)) u.retired)) u.free
    → IsSummary k (told s Collect reply) (moved s Collect reply m)
    record u { ledger = ledger; free = free; retired = retired }
summary_collect k s m u ledger reply place f freed kept_now free retired keeps said entered
    retired_is free_is =
    subst (λ (r : Reply). IsSummary k (told s Collect r)
    (moved s Collect r m) record u { ledger = ledger; free = free; retired = retired }) (sym said)
    (summary_swept k s m u ledger place f freed kept_now free retired keeps
    (subst (λ (r : Reply). IsLedger k (told s Collect r) ledger) said entered) retired_is free_is)

-- after a collect as many blocks fewer are in use as it frees
pub freed_collect : (k : Base) (s : Story) (m : Blocks) (u : Summary) (kept_now : Kept) (freed : ℕ)
    (retired : List RetiredBlock) → IsTidy k s m → IsSummary k s m u → IsChoice s kept_now
    → retired ≡ filter (is_used (members kept_now.slots)) u.retired
    → freed ≡ length u.retired - length retired → freed ≡ inuse s - inuse (with_kept s kept_now)
unfolding kept
freed_collect k s m u kept_now freed retired tidy keeps choice retired_is count =
    let all = freed_is k s m tidy kept_now choice in
    let parts = length-filter (is_used (members kept_now.slots)) m.retired in
    let same = ap length keeps.retired_is in
    let stay = ap length (retired_is
    ∙ ap (filter (is_used (members kept_now.slots))) keeps.retired_is) in
    omega arith
