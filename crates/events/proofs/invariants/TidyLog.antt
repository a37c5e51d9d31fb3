-- What holds of the empty log holds after any legal log: one lemma for each command.
use Rattle.events.proofs.Names.{rules, ◌≡◌, ◌+◌, ◌<◌, ◌≤◌, List, [], ◌∷◌, ◌++◌, length, refl, sym}
use Rattle.events.proofs.Names.{subst, ◌∙◌, None, cases_lt, Command, Paint, Stamp, Publish, Reply}
use Rattle.events.proofs.Names.{Revert, Collect, Checkpoint, Entry, Setting, IsApart, Story, kept}
use Rattle.events.proofs.Names.{refused, IsAnswer, told, after, IsLegalFrom, IsLegal, Blocks}
use Rattle.events.proofs.Names.{moved, blocks_after, Base, story, blocks, IsReady, IsTidy}
use Rattle.events.proofs.invariants.TidyOpened.{IsTidy-opened}
use Rattle.events.proofs.invariants.TidyDraft.{IsTidy-draw, IsTidy-revert, IsTidy-checkpoint}
use Rattle.events.proofs.invariants.TidyPublish.{IsTidy-publish}
use Rattle.events.proofs.invariants.TidyCollect.{IsTidy-keeping}

-- a publish that isn't refused finds a slot
pub room_for : (g : Setting) (s : Story) → refused g s Publish ≡ None → length (kept s) < g.versions
unfolding refused
room_for g s accepted = search (rules, cases_lt)

-- what holds after a legal log holds after one more answer
pub IsTidy-told : (k : Base) (s : Story) (m : Blocks) (c : Command) (reply : Reply)
    → k.setting.versions ≤ 64 → IsTidy k s m → IsAnswer k.setting s c reply
    → IsTidy k (told s c reply) (moved s c reply m)
unfolding refused told moved
IsTidy-told k s m (Paint r black) reply few tidy answer =
    IsTidy-draw k s m (Paint r black) tidy answer.accepted
IsTidy-told k s m (Stamp x y b) reply few tidy answer =
    IsTidy-draw k s m (Stamp x y b) tidy answer.accepted
IsTidy-told k s m Publish reply few tidy answer =
    IsTidy-publish k s m tidy few (room_for k.setting s answer.accepted)
IsTidy-told k s m Revert reply few tidy answer = IsTidy-revert k s m tidy
IsTidy-told k s m Collect reply few tidy answer =
    let (f, freed, kept_now, is, collected) = answer.reply_is in
    subst (λ (r : Reply). IsTidy k (told s Collect r) (moved s Collect r m)) (sym is)
    (IsTidy-keeping k s m tidy (s.places + 1) kept_now
    record { part = collected.part; newest_in = collected.newest_in })
IsTidy-told k s m Checkpoint reply few tidy answer = IsTidy-checkpoint k s m tidy

-- what holds after a legal log holds after more legal entries
pub IsTidy-after : (k : Base) (s : Story) (m : Blocks) (log : List Entry) → k.setting.versions ≤ 64
    → IsTidy k s m → IsLegalFrom k.setting s log
    → IsTidy k (after s log) (blocks_after s m log)
IsTidy-after k s m [] few tidy legal = tidy
IsTidy-after k s m (e ∷ es) few tidy legal =
    IsTidy-after k (told s e.command e.reply) (moved s e.command e.reply m) es few
    (IsTidy-told k s m e.command e.reply few tidy legal.0) legal.1

-- the story and the blocks of a legal log are tidy
pub IsTidy-legal : (k : Base) (log : List Entry) → IsReady k → IsLegal k.setting k.opening log
    → IsTidy k (story k log) (blocks k log)
unfolding story blocks
IsTidy-legal k log ready legal = search (rules, IsTidy-after, IsTidy-opened)

-- after a legal log no version stands in two slots
pub slots_apart : (k : Base) (log : List Entry) → IsReady k → IsLegal k.setting k.opening log
    → IsApart (story k log).kept
slots_apart k log ready legal =
    let slots = (IsTidy-legal k log ready legal).slots in
    λ i j v first second. sym (slots.own i v first) ∙ slots.own j v second

-- a further entry makes the next story of the story before it
pub after-push : (s : Story) (log : List Entry) (e : Entry)
    → after s (log ++ e ∷ []) ≡ told (after s log) e.command e.reply
after-push s [] e = refl
after-push s (f ∷ fs) e = after-push (told s f.command f.reply) fs e

-- a further entry makes the next blocks of the blocks before it
pub blocks_after-push : (s : Story) (m : Blocks) (log : List Entry) (e : Entry)
    → blocks_after s m (log ++ e ∷ []) ≡ moved (after s log) e.command e.reply
    (blocks_after s m log)
blocks_after-push s m [] e = refl
blocks_after-push s m (f ∷ fs) e =
    blocks_after-push (told s f.command f.reply) (moved s f.command f.reply m) fs e

-- a legal log with one more answer is legal
pub IsLegal-push : (g : Setting) (s : Story) (log : List Entry) (e : Entry) → IsLegalFrom g s log
    → IsAnswer g (after s log) e.command e.reply
    → IsLegalFrom g s (log ++ e ∷ [])
IsLegal-push g s [] e legal answer = (answer, tt)
IsLegal-push g s (f ∷ fs) e legal answer =
    (legal.0, IsLegal-push g (told s f.command f.reply) fs e legal.1 answer)
