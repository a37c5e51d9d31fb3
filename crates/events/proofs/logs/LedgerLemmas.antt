-- A ledger judges commands, and enters them, as the log says.
use Rattle.events.proofs.Names.{rules, ◌≡◌, ℕ, ◌+◌, ◌-◌, Bool, true, false, if◌then◌else◌, List}
use Rattle.events.proofs.Names.{length, ap, sym, ◌∙◌, arith, Option, Some, None, nat_le, Refusal}
use Rattle.events.proofs.Names.{nat_tests, get_or_push, OutOfRange, LogFull, PlacesUsed, Command}
use Rattle.events.proofs.Names.{Publish, Revert, Collect, Checkpoint, Entry, Reply, Collected}
use Rattle.events.proofs.Names.{Ledger, Kept, first_free, with_version, Setting, IsDraw, draws}
use Rattle.events.proofs.Names.{is_inside, IsLedger, IsBalanced, HasPlace, refused_by_ledger}
use Rattle.events.proofs.Names.{Story, newest, kept, kept_log, IsLegal, refused, refused_blocks}
use Rattle.events.proofs.Names.{told, after_draw, Base, now_word, now_of, slot_of, story, IsOfMap}
use Rattle.events.proofs.Names.{IsReady}
use Rattle.events.specs.Drawing.{lies_within}
use Rattle.events.specs.Ledger.{has_no_room, has_no_place, has_no_slot, refused_draw_blocks}
use Rattle.events.specs.Ledger.{first_refusal}
use Rattle.events.proofs.logs.LogLemmas.{places-legal}
use Rattle.events.proofs.accounts.SpareLemmas.{slot-within}
use Rattle.events.proofs.invariants.TidyLog.{IsTidy-legal}

-- after a legal log the numbers of a ledger lie below one another
pub balanced : (k : Base) (log : List Entry) (l : Ledger) → IsReady k
    → IsLegal k.setting k.opening log → IsLedger k (story k log) l → IsBalanced l
unfolding slot_of
balanced k log l ready legal is =
    let counts = places-legal k log legal in
    let fewer = counts.1 in
    let last = counts.2 in
    let slots = (IsTidy-legal k log ready legal).slots in
    let within = slot-within k (story k log) slots (newest (story k log)) slots.newest_in in
    let same_slot : l.slot ≡ slot_of k (story k log) (newest (story k log)) = is.slot_is in
    let versions = ap (λ (g : Setting). g.versions) is.setting_is in
    let few_slots = ready.few_versions in
    let places_is = is.places_is in
    let newest_is = is.newest_is in
    let base_is = is.base_is in
    record {
      newest_in = omega arith;
      base_in = omega arith;
      few_slots = omega arith;
      small = omega arith;
    }

-- the first refusal is the same where free blocks are tested after everything else
in_turn : (inside inside_now full full_now used used_now : Bool)
    (slots blocks_short : Option Refusal) → inside ≡ inside_now → full ≡ full_now → used ≡ used_now
    → (if inside then (if full then Some LogFull
    else (if used then Some PlacesUsed else first_refusal slots blocks_short))
    else Some OutOfRange)
    ≡ first_refusal (if inside_now
    then (if full_now then Some LogFull else (if used_now then Some PlacesUsed else slots))
    else Some OutOfRange) blocks_short
in_turn inside inside_now full full_now used used_now slots blocks_short inside_is full_is used_is =
    search (rules, inside_is, full_is, used_is)

-- a command lies in the map by the ledger's sides where it does by the draft's
inside_is : (k : Base) (s : Story) (l : Ledger) → IsLedger k s l → IsOfMap k s.draft → (c : Command)
    → lies_within s.draft.width s.draft.height c ≡ lies_within l.width l.height c
inside_is k s l is of_map c = search rules

-- the log is full by the ledger where it is by the story
full_is : (k : Base) (s : Story) (l : Ledger) → IsLedger k s l
    → nat_le k.setting.log (s.places - s.base) ≡ has_no_room l
full_is k s l is = search (rules, nat_tests)

-- no place is left by the ledger where none is by the story
used_is : (k : Base) (s : Story) (l : Ledger) → IsLedger k s l
    → nat_le 536870911 s.places ≡ has_no_place l
used_is k s l is = ap (nat_le 536870911) (sym is.places_is)

-- no slot is free by the ledger where none is by the story
slots_are : (k : Base) (s : Story) (l : Ledger) → IsLedger k s l
    → nat_le k.setting.versions (length (kept s)) ≡ has_no_slot l
unfolding kept
slots_are k s l is = search (rules, nat_tests)

-- a command is refused by the ledger, or for too few free blocks
refused_in_turn : (k : Base) (s : Story) (l : Ledger) → IsLedger k s l → IsOfMap k s.draft
    → (c : Command) → refused k.setting s c ≡ first_refusal (refused_by_ledger l c)
    (refused_draw_blocks k.setting s c)
unfolding refused refused_by_ledger kept_log
refused_in_turn k s l is of_map c = search (rules, in_turn, inside_is, full_is, used_is, slots_are)

-- a command that the ledger refuses is refused for that reason
pub refused_first : (k : Base) (s : Story) (l : Ledger) → IsLedger k s l → IsOfMap k s.draft
    → (c : Command) (refusal : Refusal) → refused_by_ledger l c ≡ Some refusal
    → refused k.setting s c ≡ Some refusal
refused_first k s l is of_map c refusal by =
    refused_in_turn k s l is of_map c
    ∙ ap (λ (o : Option Refusal). first_refusal o (refused_draw_blocks k.setting s c)) by

-- a command that the ledger doesn't refuse is refused only for too few free blocks, or isn't
-- refused
pub refused_next : (k : Base) (s : Story) (l : Ledger) → IsLedger k s l → IsOfMap k s.draft
    → (c : Command) → refused_by_ledger l c ≡ None
    → refused k.setting s c ≡ refused_draw_blocks k.setting s c
refused_next k s l is of_map c by =
    refused_in_turn k s l is of_map c
    ∙ ap (λ (o : Option Refusal). first_refusal o (refused_draw_blocks k.setting s c)) by

-- a paint or a stamp is refused for too few free blocks as it is
pub refused_for_draw : (g : Setting) (s : Story) (c : Command) → draws c ≡ true
    → refused_draw_blocks g s c ≡ refused_blocks g s c
refused_for_draw g s c is = search rules

-- a command that is no paint and no stamp isn't refused for too few free blocks
pub refused_for_none : (g : Setting) (s : Story) (c : Command) → draws c ≡ false
    → refused_draw_blocks g s c ≡ None
refused_for_none g s c is = search rules

-- what a ledger doesn't refuse lies in the map
inside_of_ledger : (l : Ledger) (c : Command) → refused_by_ledger l c ≡ None
    → lies_within l.width l.height c ≡ true
unfolding refused_by_ledger
inside_of_ledger l c by = search rules

-- what a ledger doesn't refuse finds a place
pub place_of_ledger : (l : Ledger) (c : Command) → refused_by_ledger l c ≡ None → HasPlace l
unfolding refused_by_ledger
place_of_ledger l c by = search rules

-- what the ledger of a story doesn't refuse lies in the map
pub inside_told : (k : Base) (s : Story) (l : Ledger) → IsLedger k s l → IsOfMap k s.draft
    → (c : Command) → refused_by_ledger l c ≡ None → is_inside s.draft c ≡ true
inside_told k s l is of_map c by = inside_is k s l is of_map c ∙ inside_of_ledger l c by

-- the story after a paint or a stamp is the one after its drawing
pub told_draw : (s : Story) (c : Command) (reply : Reply) → IsDraw c
    → told s c reply ≡ after_draw s c
unfolding told
told_draw s c reply draws = search rules

-- a paint or a stamp is entered
pub ledger_draw : (k : Base) (s : Story) (l new : Ledger) (c : Command) (reply : Reply)
    → IsLedger k s l → IsDraw c → new ≡ record l { places = l.places + 1 }
    → IsLedger k (told s c reply) new
unfolding newest
ledger_draw k s l new c reply is draws new_is = search (rules, told_draw)

-- a publish is entered
pub ledger_publish : (k : Base) (s : Story) (l new : Ledger) (reply : Reply) → IsLedger k s l
    → newest (told s Publish reply) ≡ newest s + 1 → length s.slots ≡ newest s + 1
    → new ≡ record l {
      places = l.places + 1;
      newest = l.newest + 1;
      slot = first_free l.kept.slots;
      kept = with_version l.kept (l.newest + 1);
    } → IsLedger k (told s Publish reply) new
unfolding told
ledger_publish k s l new reply is next count new_is = search (rules, get_or_push)

-- a revert is entered
pub ledger_revert : (k : Base) (s : Story) (l new : Ledger) (reply : Reply) → IsLedger k s l
    → new ≡ record l { places = l.places + 1 } → IsLedger k (told s Revert reply) new
unfolding told newest
ledger_revert k s l new reply is new_is = search rules

-- a collect is entered
pub ledger_collect : (k : Base) (s : Story) (l new : Ledger) (reply : Reply) (place f freed : ℕ)
    (kept_now : Kept) → IsLedger k s l → reply ≡ Collected place f freed kept_now
    → new ≡ record l { places = l.places + 1; kept = kept_now }
    → IsLedger k (told s Collect reply) new
unfolding told newest
ledger_collect k s l new reply place f freed kept_now is said new_is = search rules

-- a checkpoint is entered
pub ledger_checkpoint : (k : Base) (s : Story) (l new : Ledger) (reply : Reply) → IsLedger k s l
    → new ≡ record l { places = l.places + 1; base = l.places + 1 }
    → IsLedger k (told s Checkpoint reply) new
unfolding told newest
ledger_checkpoint k s l new reply is new_is = search rules

-- NOW is what the ledger says
pub now_of_ledger : (k : Base) (s : Story) (l : Ledger) (now : ℕ) → IsLedger k s l
    → now ≡ now_word l.places l.newest l.slot → now ≡ now_of s
unfolding now_of
now_of_ledger k s l now is word = search rules
