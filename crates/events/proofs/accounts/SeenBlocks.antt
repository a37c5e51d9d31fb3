-- What a prefix of a legal log says of the blocks of its versions, the log says too.
use Rattle.events.proofs.Names.{◌≡◌, ℕ, ◌≤◌, List, [], ◌∷◌, ◌++◌, refl, ap, sym, ◌∙◌, subst, told}
use Rattle.events.proofs.Names.{arith, Entry, Setting, Story, opened, newest, after, IsLegalFrom}
use Rattle.events.proofs.Names.{IsLegal, Blocks, directory_of, moved, opened_blocks, blocks_after}
use Rattle.events.proofs.Names.{Base, tiles, story, blocks, IsBeginning, IsReady, IsTidy}
use Rattle.events.proofs.logs.LogLemmas.{newest-told}
use Rattle.events.proofs.invariants.SoundCommit.{directory_stays}
use Rattle.events.proofs.invariants.TidyLog.{IsTidy-told, IsTidy-after}
use Rattle.events.proofs.invariants.TidyOpened.{IsTidy-opened}

-- the parts of a legal log are legal
legal_parts : (g : Setting) (s : Story) (log more : List Entry) → IsLegalFrom g s (log ++ more)
    → IsLegalFrom g s log × IsLegalFrom g (after s log) more
legal_parts g s [] more legal = (tt, legal)
legal_parts g s (e ∷ es) more legal =
    let rest = legal_parts g (told s e.command e.reply) es more legal.1 in
    ((legal.0, rest.0), rest.1)

-- the blocks after some entries and then some more are those after all of them
blocks_after-append : (s : Story) (m : Blocks) (log more : List Entry)
    → blocks_after s m (log ++ more) ≡ blocks_after (after s log) (blocks_after s m log) more
blocks_after-append s m [] more = refl
blocks_after-append s m (e ∷ es) more =
    blocks_after-append (told s e.command e.reply) (moved s e.command e.reply m) es more

-- no entries change the blocks of a version that is there
directory-after : (k : Base) (s : Story) (m : Blocks) (more : List Entry) → k.setting.versions ≤ 64
    → IsTidy k s m → IsLegalFrom k.setting s more → (v : ℕ) → v ≤ newest s
    → directory_of (blocks_after s m more) v ≡ directory_of m v
directory-after k s m [] few tidy legal v h = refl
directory-after k s m (e ∷ es) few tidy legal v h =
    let up = (newest-told s e.command e.reply).0 in
    directory-after k (told s e.command e.reply) (moved s e.command e.reply m) es few
    (IsTidy-told k s m e.command e.reply few tidy legal.0) legal.1 v (omega arith)
    ∙ directory_stays k s m e.command e.reply tidy.shape v h

-- a prefix of a legal log tells the same blocks for each version that it has
pub directory-beginning : (k : Base) (seen log : List Entry) → IsReady k
    → IsLegal k.setting k.opening log → IsBeginning seen log → (v : ℕ) → v ≤ newest (story k seen)
    → directory_of (blocks k log) v ≡ directory_of (blocks k seen) v
unfolding story blocks
directory-beginning k seen log ready legal h v within =
    let first = opened k.opening in
    let m = opened_blocks (tiles k) k.setting.blocks in
    let parts = legal_parts k.setting first seen h.rest
    (subst (λ (l : List Entry). IsLegal k.setting k.opening l) (sym h.whole) legal) in
    ap (λ (l : List Entry). directory_of (blocks_after first m l) v) (sym h.whole)
    ∙ (ap (λ (b : Blocks). directory_of b v) (blocks_after-append first m seen h.rest)
    ∙ directory-after k (after first seen) (blocks_after first m seen) h.rest ready.few_versions
    (IsTidy-after k first m seen ready.few_versions (IsTidy-opened k ready) parts.0) parts.1 v
    within)
