-- What is kept of a log after one more paint or stamp, and after one more revert.
use Rattle.events.proofs.Names.{rules, ◌≡◌, ℕ, Bool, List, length, drop, map, replicate, ap, sym}
use Rattle.events.proofs.Names.{subst, ◌∙◌, Option, None, is_some, Cells, Command, Revert, Reply}
use Rattle.events.proofs.Names.{Checkpoint, Ledger, drawn, touched, differing, IsDraw, Story}
use Rattle.events.proofs.Names.{newest, bitmap_of, trues, new_ones, needed, told, after_draw}
use Rattle.events.proofs.Names.{Blocks, own_list, own_after, given_back, moved, drawn_blocks}
use Rattle.events.proofs.Names.{IsLedger, Summary, IsSummary, Base}
use Rattle.events.proofs.accounts.CameLemmas.{came-same_changes}
use Rattle.events.proofs.logs.LedgerLemmas.{told_draw}

-- the blocks after a paint or a stamp are those after its drawing
pub moved_draw : (s : Story) (c : Command) (reply : Reply) (m : Blocks) → IsDraw c
    → moved s c reply m ≡ drawn_blocks s c m
unfolding moved
moved_draw s c reply m draws = search rules

-- what is kept after a drawing is what the story and the blocks after it say
summary_drawn : (k : Base) (s : Story) (m : Blocks) (u : Summary) (c : Command) (ledger : Ledger)
    (draft : Cells) (own : List (Option ℕ)) (free : List ℕ) → IsSummary k s m u
    → IsLedger k (after_draw s c) ledger
    → draft ≡ drawn s.draft c → own ≡ own_after (touched s.draft c) m.own m.free
    → free ≡ drop (needed s c) m.free
    → IsSummary k (after_draw s c) (drawn_blocks s c m)
    record u { ledger = ledger; draft = draft; own = own; free = free }
unfolding newest bitmap_of
summary_drawn k s m u c ledger draft own free kept entered draft_is own_is free_is =
    search (rules, came-same_changes)

-- this is drawn, as the blocks that it takes are told
pub record IsDrawnOn (u : Summary) (c : Command) (draft : Cells) (own : List (Option ℕ))
    (free : List ℕ) : Type 0 where
  pub draft_is : draft ≡ drawn u.draft c
  pub own_is : own ≡ own_after (differing u.draft draft) u.own u.free
  pub free_is : free ≡ drop (trues (new_ones (differing u.draft draft) (map is_some u.own))) u.free

-- what is kept is right after a paint or a stamp
pub summary_draw : (k : Base) (s : Story) (m : Blocks) (u : Summary) (c : Command) (reply : Reply)
    (ledger : Ledger) (draft : Cells) (own : List (Option ℕ)) (free : List ℕ) → IsSummary k s m u
    → s.changed ≡ map is_some m.own → IsDraw c
    → IsLedger k (told s c reply) ledger → IsDrawnOn u c draft own free
    → IsSummary k (told s c reply) (moved s c reply m)
    record u { ledger = ledger; draft = draft; own = own; free = free }
unfolding touched needed
summary_draw k s m u c reply ledger draft own free kept changed draws entered is =
    let new : draft ≡ drawn s.draft c = is.draft_is ∙ ap (λ (b : Cells). drawn b c) kept.draft_is in
    let ts : differing u.draft draft ≡ differing s.draft (drawn s.draft c) = search rules in
    let before : map is_some u.own ≡ s.changed = ap (map is_some) kept.own_is ∙ sym changed in
    subst (λ (t : Story). IsSummary k t (moved s c reply m)
    record u { ledger = ledger; draft = draft; own = own; free = free })
    (sym (told_draw s c reply draws))
    (subst (λ (n : Blocks). IsSummary k (after_draw s c) n
    record u { ledger = ledger; draft = draft; own = own; free = free })
    (sym (moved_draw s c reply m draws))
    (summary_drawn k s m u c ledger draft own free kept
    (subst (λ (t : Story). IsLedger k t ledger) (told_draw s c reply draws) entered) new
    (is.own_is
    ∙ (ap (λ (bs : List Bool). own_after bs u.own u.free) ts
    ∙ (ap (λ (os : List (Option ℕ)). own_after (touched s.draft c) os u.free) kept.own_is
    ∙ ap (own_after (touched s.draft c) m.own) kept.free_is)))
    (is.free_is ∙ (ap (λ (bs : List Bool). drop (trues (new_ones bs (map is_some u.own))) u.free) ts
    ∙ (ap (λ (bs : List Bool). drop (trues (new_ones (touched s.draft c) bs)) u.free) before
    ∙ ap (drop (needed s c)) kept.free_is)))))

-- what is kept is right after a revert
pub summary_revert : (k : Base) (s : Story) (m : Blocks) (u : Summary) (reply : Reply)
    (ledger : Ledger) (draft : Cells) (own : List (Option ℕ)) (free : List ℕ) → IsSummary k s m u
    → IsLedger k (told s Revert reply) ledger → draft ≡ u.published
    → own ≡ replicate (length u.own) None → free ≡ given_back (own_list u.own) u.free
    → IsSummary k (told s Revert reply) (moved s Revert reply m)
    record u { ledger = ledger; draft = draft; own = own; free = free }
unfolding told moved newest bitmap_of
summary_revert k s m u reply ledger draft own free kept entered draft_is own_is free_is =
    search (rules, came-same_changes)

-- what is kept is right after a checkpoint
pub summary_checkpoint : (k : Base) (s : Story) (m : Blocks) (u : Summary) (reply : Reply)
    (ledger : Ledger) → IsSummary k s m u
    → IsLedger k (told s Checkpoint reply) ledger
    → IsSummary k (told s Checkpoint reply) (moved s Checkpoint reply m)
    record u { ledger = ledger }
unfolding told moved newest bitmap_of
summary_checkpoint k s m u reply ledger kept entered = search (rules, came-same_changes)
