-- What is kept of a log after one more publish.
use Rattle.events.proofs.Names.{rules, ◌≡◌, ℕ, zero, suc, ◌+◌, ◌<◌, Bool, false, List, [], ◌∷◌}
use Rattle.events.proofs.Names.{◌++◌, length, map, replicate, get_or, refl, ap, sym, ◌∙◌, arith}
use Rattle.events.proofs.Names.{Option, Some, None, is_some, Cells, RetiredBlock, Publish, Reply}
use Rattle.events.proofs.Names.{Ledger, Story, newest, came, changed_before, told, Blocks, moved}
use Rattle.events.proofs.Names.{directory_of, replaced, IsLedger, Summary, IsSummary, came_with}
use Rattle.events.proofs.Names.{came_after, retired_by, Base, IsShaped, IsTidy}
use Rattle.events.proofs.accounts.CameLemmas.{came-push, came-changed, came-same}
use Rattle.events.proofs.accounts.CameLemmas.{changed_before_new}
use Rattle.events.proofs.invariants.TidyPublish.{published_story, newest-publish, newest_is}
use Rattle.events.proofs.invariants.TidyPublish.{bitmap_of-new}

-- the version with which a position has come is read position by position
pub get_or-came_after : (newest : ℕ) (own : List (Option ℕ)) (came : List ℕ) (p : ℕ)
    → length came ≡ length own → p < length own
    → get_or (came_after newest own came) p 0 ≡ came_with newest (get_or own p None)
    (get_or came p 0)
get_or-came_after newest [] came p long h = absurd (omega arith)
get_or-came_after newest (o ∷ own) [] p long h = absurd (omega arith)
get_or-came_after newest (o ∷ own) (c ∷ came) zero long h = refl
get_or-came_after newest (o ∷ own) (c ∷ came) (suc p) long h =
    get_or-came_after newest own came p (omega arith) (omega arith)

-- a publish keeps the length of the list that tells with which version each position came
pub length-came_after : (newest : ℕ) (own : List (Option ℕ)) (came : List ℕ)
    → length came ≡ length own → length (came_after newest own came) ≡ length came
length-came_after newest [] [] long = refl
length-came_after newest [] (c ∷ came) long = absurd (omega arith)
length-came_after newest (o ∷ own) [] long = refl
length-came_after newest (o ∷ own) (c ∷ came) long =
    ap suc (length-came_after newest own came (omega arith))

-- the blocks that retire are those that the log says
retired_by-replaced : (s : Story) (k : ℕ) (own : List (Option ℕ)) (came_now blocks : List ℕ)
    → length came_now ≡ length own → length blocks ≡ length own
    → ((p : ℕ) → p < length own → get_or came_now p 0 ≡ came s (k + p) (newest s))
    → retired_by (newest s) k own came_now blocks ≡ replaced s k own blocks
retired_by-replaced s k [] came_now blocks long size is = refl
retired_by-replaced s k (o ∷ own) [] blocks long size is = absurd (omega arith)
retired_by-replaced s k (o ∷ own) (c ∷ came_now) [] long size is = absurd (omega arith)
retired_by-replaced s k (None ∷ own) (c ∷ came_now) (b ∷ blocks) long size is =
    retired_by-replaced s (k + 1) own came_now blocks (omega arith) (omega arith)
    (later s k c own came_now None is)
  where
    later : (s : Story) (k c : ℕ) (own : List (Option ℕ)) (came_now : List ℕ) (o : Option ℕ)
        → ((p : ℕ) → p < length (o ∷ own) → get_or (c ∷ came_now) p 0 ≡ came s (k + p) (newest s))
        → (p : ℕ) → p < length own → get_or came_now p 0 ≡ came s (k + 1 + p) (newest s)
    later s k c own came_now o is p h = is (suc p) (omega arith)
        ∙ ap (λ (q : ℕ). came s q (newest s)) (omega arith)
retired_by-replaced s k (Some x ∷ own) (c ∷ came_now) (b ∷ blocks) long size is =
    let first : c ≡ came s k (newest s) = is 0 (omega arith)
    ∙ ap (λ (q : ℕ). came s q (newest s)) (omega arith) in
    ap (λ (f : ℕ). record { block = b; position = k; first = f; last = newest s }
    ∷ retired_by (newest s) (k + 1) own came_now blocks) first
    ∙ ap (λ (rs : List RetiredBlock).
    record { block = b; position = k; first = came s k (newest s); last = newest s } ∷ rs)
    (retired_by-replaced s (k + 1) own came_now blocks (omega arith) (omega arith)
    (λ p h. is (suc p) (omega arith) ∙ ap (λ (q : ℕ). came s q (newest s)) (omega arith)))

-- whether the draft has an own block at a position is whether one is read there
own_at : (own : List (Option ℕ)) (p : ℕ)
    → get_or (map is_some own) p false ≡ is_some (get_or own p None)
own_at [] p = refl
own_at (o ∷ own) zero = refl
own_at (o ∷ own) (suc p) = own_at own p

-- after a publish a position has come with the new version or with the one that it had
came_published : (k : Base) (s : Story) (m : Blocks) → IsTidy k s m → (p before : ℕ)
    → before ≡ came s p (newest s)
    → came_with (newest s) (get_or m.own p None) before ≡ came (published_story s) p (newest s + 1)
came_published k s m tidy p before is =
    let shape = tidy.shape in
    let t = published_story s in
    let at = newest_is k s m shape in
    let same : came t p (newest s) ≡ came s p (newest s) = search (rules, came-push) in
    let changed : changed_before t (newest s) p ≡ is_some (get_or m.own p None) =
    changed_before_new s t s.changed refl (newest s) p (omega arith)
    ∙ (ap (λ (bs : List Bool). get_or bs p false) shape.changed ∙ own_at m.own p) in
    by_own (get_or m.own p None) changed (is ∙ sym same)
  where
    by_own : (o : Option ℕ) → changed_before (published_story s) (newest s) p ≡ is_some o
        → before ≡ came (published_story s) p (newest s)
        → came_with (newest s) o before ≡ came (published_story s) p (newest s + 1)
    by_own None changed is = let on : suc (newest s) ≡ newest s + 1 = omega arith in
        is ∙ (sym (came-same (published_story s) p (newest s) changed)
        ∙ ap (came (published_story s) p) on)
    by_own (Some b) changed is = let on : newest s + 1 ≡ suc (newest s) = omega arith in
        on ∙ (sym (came-changed (published_story s) p (newest s) changed)
        ∙ ap (came (published_story s) p) (sym on))

-- a publish makes one more version, by the log
pub newest_published : (k : Base) (s : Story) (m : Blocks) (reply : Reply) → IsShaped k s m
    → newest (told s Publish reply) ≡ newest s + 1
unfolding told
newest_published k s m reply shape = newest-publish k s m shape

-- what is kept is right after a publish
pub summary_publish : (k : Base) (s : Story) (m : Blocks) (u : Summary) (reply : Reply)
    (ledger : Ledger) (published : Cells) (came_now : List ℕ) (own : List (Option ℕ))
    (retired : List RetiredBlock) → IsSummary k s m u → IsTidy k s m
    → IsLedger k (told s Publish reply) ledger → published ≡ u.draft
    → own ≡ replicate (length u.own) None → came_now ≡ came_after u.ledger.newest u.own u.came
    → retired ≡ u.retired ++ retired_by u.ledger.newest 0 u.own u.came (directory_of m (newest s))
    → IsSummary k (told s Publish reply) (moved s Publish reply m)
    record u {
      ledger = ledger;
      published = published;
      came = came_now;
      own = own;
      retired = retired;
    }
unfolding told moved
summary_publish k s m u reply ledger published came_now own retired kept tidy entered published_is
    own_is came_now_is retired_is =
    search (
      rules,
      newest-publish,
      bitmap_of-new,
      length-came_after,
      get_or-came_after,
      newest_is,
      came_published,
      retired_by-replaced,
    )

-- each version up to newest has been given a slot
pub slots_published : (k : Base) (s : Story) (m : Blocks) → IsTidy k s m
    → length s.slots ≡ newest s + 1
slots_published k s m tidy = tidy.slots.each ∙ (newest_is k s m tidy.shape).1
