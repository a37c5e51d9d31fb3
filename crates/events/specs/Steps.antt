-- What an event does if it is enabled: this project's own rule. Each event except an order is one
-- load or one store of one word.
use Rattle.std.specs.Prelude.{ℕ, ◌+◌, ◌-◌, ◌*◌, ◌/◌, ◌%◌, ◌&&◌, nat_lt, List, [], ◌∷◌, ◌++◌, length}
use Rattle.std.specs.Prelude.{map, slice_get, slice_index, slice_set, Option, Some, None, is_some}
use Rattle.std.specs.Prelude.{is_none, if◌then◌else◌}
use Rattle.bits.specs.Tiles.{row_word}
use Rattle.metric.specs.declared.refusal.Refusal.{Refusal}
use Rattle.events.specs.declared.command.Command.{Command}
use Rattle.events.specs.declared.command.Command.TheVariants.{Paint, Stamp, Publish, Revert}
use Rattle.events.specs.declared.command.Command.TheVariants.{Collect, Checkpoint}
use Rattle.events.specs.declared.command.Reply.{Reply}
use Rattle.events.specs.declared.command.Reply.TheVariants.{Painted, Published, Reverted}
use Rattle.events.specs.declared.command.Reply.TheVariants.{Collected, Checkpointed}
use Rattle.events.specs.declared.command.Entry.{Entry}
use Rattle.events.specs.declared.event.Event.{Event}
use Rattle.events.specs.declared.event.Event.TheVariants.{Announce, Load, LookMap, LookTile}
use Rattle.events.specs.declared.event.Event.TheVariants.{Leave, Confirm, Order, Keep}
use Rattle.events.specs.declared.event.StepReply.{StepReply}
use Rattle.events.specs.declared.event.StepReply.TheVariants as says
use Rattle.events.specs.declared.kept.Kept.{Kept}
use Rattle.events.specs.declared.kept.Seen.{Seen}
use Rattle.events.specs.declared.kept.Seen.TheVariants.{From, Exact}
use Rattle.events.specs.Kept.{least_kept, kept_after}
use Rattle.events.specs.Drawing.{cells_changed}
use Rattle.events.specs.Story.{Story, newest, with_kept, inuse}
use Rattle.events.specs.Legal.{refused, told}
use Rattle.events.specs.Blocks.{Blocks, own_list, mapped, directory_of, is_mapped}
use Rattle.events.specs.Words.{Base, tiles, now_at, pin_at, map_at, tile_at, place_told}
use Rattle.events.specs.Words.{version_told, now_of, pin_word, seen_in, slot_of, next_slot}
use Rattle.events.specs.Views.{Hand, Reader, State, story_of, blocks_of_state, newest_seen}

-- the outcome of an event: the state after it, its answer, and the word it has stored, if any
pub record Outcome : Type 0 where
  pub state : State
  pub answer : StepReply
  pub stored : Option ℕ

-- the state with this word stored
abbrev pub with_word_stored : State → ℕ → ℕ → State
with_word_stored w at word = record w { words = slice_set w.words at word }

-- the state with this view of one reader
abbrev pub with_reader : State → ℕ → Reader → State
with_reader w r x = record w { readers = slice_set w.readers r x }

-- the outcome of an event that changes nothing, with this answer
abbrev pub answers : State → StepReply → Option Outcome
answers w reply = Some record { state = w; answer = reply; stored = None }

-- ---- a reader's steps

-- a reader that hasn't announced stores the newest version it has seen
unfoldable pub announce : State → ℕ → Option Reader → Option Outcome
announce w r None = None
announce w r (Some x) =
    if is_some x.announced then None
    else (let version = newest_seen w.base x in
    Some record {
      state = with_word_stored
          (with_reader w r record x { announced = Some (From version) }) (pin_at r)
          (pin_word (Some (From version)));
      answer = says.Announced version;
      stored = Some (pin_at r);
    })

-- a reader that loads a version holds that one if it had announced and held none
abbrev pub next_hold : Reader → ℕ → Option ℕ
next_hold x version = if is_some x.announced && is_none x.holds then Some version else x.holds

-- a reader loads NOW, and has then seen the whole log
unfoldable pub load : State → ℕ → Option Reader → Option Outcome
load w r None = None
load w r (Some x) =
    let word = slice_index w.words now_at in
    Some record {
      state = with_reader w r record x {
        seen = w.keeper.log;
        holds = next_hold x (version_told word);
      };
      answer = says.Now (place_told word) (version_told word);
      stored = None;
    }

-- a reader that holds a version gets the block of a position there
unfoldable pub look_map : State → ℕ → Option ℕ → Option Outcome
look_map w p None = None
look_map w p (Some v) =
    if nat_lt p (tiles w.base) then answers w
    (says.Block (slice_index w.words (map_at w.base (slot_of w.base (story_of w) v) p))) else None

-- a reader that holds a version gets a row of a block that the version maps
unfoldable pub look_tile : State → ℕ → ℕ → Option ℕ → Option Outcome
look_tile w b i None = None
look_tile w b i (Some v) =
    if is_mapped (blocks_of_state w) v b && nat_lt i 64
    then answers w (says.Word (slice_index w.words (tile_at w.base b i))) else None

-- what a reader holds, if it exists
abbrev pub hold_of : Option Reader → Option ℕ
hold_of None = None
hold_of (Some x) = x.holds

-- a reader that has announced stores 0, and holds nothing
unfoldable pub leave : State → ℕ → Option Reader → Option Outcome
leave w r None = None
leave w r (Some x) =
    if is_some x.announced
    then Some record {
      state = with_word_stored
          (with_reader w r record x { announced = None; holds = None }) (pin_at r) (pin_word None);
      answer = says.Left;
      stored = Some (pin_at r);
    }
    else None

-- the version that a reader has to confirm: the one it holds, if its announcement isn't exact
abbrev pub to_confirm : Option Seen → Option ℕ → Option ℕ
to_confirm None holds = None
to_confirm (Some (From a)) holds = holds
to_confirm (Some (Exact v)) holds = None

-- a reader that holds a version and hasn't announced it exactly stores it as exact
abbrev pub confirm_held : State → ℕ → Reader → Option ℕ → Option Outcome
confirm_held w r x None = None
confirm_held w r x (Some v) =
    Some record {
      state = with_word_stored (with_reader w r record x { announced = Some (Exact v) })
          (pin_at r) (pin_word (Some (Exact v)));
      answer = says.Confirmed v;
      stored = Some (pin_at r);
    }

-- a reader that holds a version which it hasn't announced exactly announces it exactly
unfoldable pub confirm : State → ℕ → Option Reader → Option Outcome
confirm w r None = None
confirm w r (Some x) = confirm_held w r x (to_confirm x.announced x.holds)

-- ---- the keeper's steps

-- a write stores this word at an index
pub record Write : Type 0 where
  pub at : ℕ
  pub word : ℕ

-- how many words of the draft's own blocks a publish stores
abbrev pub tile_steps : Blocks → ℕ
tile_steps m = 64 * length (own_list m.own)

-- how many steps a command has before its last
unfoldable pub steps_before : Base → Blocks → Command → ℕ
steps_before k m (Paint r black) = 0
steps_before k m (Stamp x y b) = 0
steps_before k m Publish = tile_steps m + tiles k
steps_before k m Revert = 0
steps_before k m Collect = k.setting.sessions
steps_before k m Checkpoint = 0

-- the positions that have changed, from k on
abbrev pub own_positions : ℕ → List (Option ℕ) → List ℕ
own_positions k [] = []
own_positions k (None ∷ own) = own_positions (k + 1) own
own_positions k (Some b ∷ own) = k ∷ own_positions (k + 1) own

-- the n-th of these words is a row of the draft's own blocks, by position and then by row
unfoldable pub tile_write : Base → Story → Blocks → ℕ → Write
tile_write k s m n =
    record {
      at = tile_at k (slice_index (own_list m.own) (n / 64)) (n % 64);
      word = row_word s.draft (slice_index (own_positions 0 m.own) (n / 64)) (n % 64);
    }

-- the word of position p in the next slot's directory
unfoldable pub map_write : Base → Story → Blocks → ℕ → Write
map_write k s m p =
    record {
      at = map_at k (next_slot k s) p;
      word = slice_index (mapped m.own (directory_of m (newest s))) p;
    }

-- the n-th word that a publish stores: of a row, or after all rows of the directory
abbrev pub write_of : Base → Story → Blocks → ℕ → Write
write_of k s m n = if nat_lt n (tile_steps m) then tile_write k s m n
    else map_write k s m (n - tile_steps m)

-- the versions kept by a collect whose scan saw these words
unfoldable pub kept_scanned : Story → List ℕ → Kept
kept_scanned s words = kept_after s.kept (newest s) (map seen_in words)

-- the reply that a command commits
unfoldable pub reply_of : Story → Command → List ℕ → Reply
reply_of s (Paint r black) words = Painted (s.places + 1) (cells_changed s.draft (Paint r black))
reply_of s (Stamp x y b) words = Painted (s.places + 1) (cells_changed s.draft (Stamp x y b))
reply_of s Publish words = Published (s.places + 1) (newest s + 1)
reply_of s Revert words = Reverted (s.places + 1)
reply_of s Collect words =
    Collected (s.places + 1) (least_kept (newest s) (kept_scanned s words))
    (inuse s - inuse (with_kept s (kept_scanned s words))) (kept_scanned s words)
reply_of s Checkpoint words = Checkpointed (s.places + 1)

-- the entry that the current command commits
abbrev pub entry_of : Story → Hand → Entry
entry_of s h = record { command = h.command; reply = reply_of s h.command h.scanned }

-- a step of a publish stores the next word
abbrev pub write : State → Hand → Outcome
write w h =
    let next = write_of w.base (story_of w) (blocks_of_state w) h.done in
    record {
      state = record (with_word_stored w next.at next.word) {
        keeper =
            record { log = w.keeper.log; hand = Some record h { done = h.done + 1 } };
      };
      answer = says.Written;
      stored = Some next.at;
    }

-- a step of a collect loads the next reader's word
abbrev pub scan : State → Hand → Outcome
scan w h =
    let word = slice_index w.words (pin_at h.done) in
    record {
      state = record w {
        keeper =
            record {
              log = w.keeper.log;
              hand = Some record h { done = h.done + 1; scanned = h.scanned ++ word ∷ [] };
            };
      };
      answer = says.Scanned h.done word;
      stored = None;
    }

-- the last step of a command stores NOW, and the log has the command with its reply
abbrev pub commit : State → Hand → Outcome
commit w h =
    let entry = entry_of (story_of w) h in
    record {
      state = record (with_word_stored w now_at
          (now_of (told (story_of w) entry.command entry.reply))) {
            keeper =
                record { log = w.keeper.log ++ entry ∷ []; hand = None };
          };
      answer = says.Committed entry.reply;
      stored = Some now_at;
    }

-- a step of a command before its last writes or scans: only publish and collect have any
abbrev pub step_before : State → Hand → Command → Outcome
step_before w h Publish = write w h
step_before w h c = scan w h

-- the current command does its next step
unfoldable pub keep : State → Option Hand → Option Outcome
keep w None = None
keep w (Some h) =
    if nat_lt h.done (steps_before w.base (blocks_of_state w) h.command)
    then Some (step_before w h h.command) else Some (commit w h)

-- a refused order is answered with its refusal; an accepted one becomes the current command
abbrev pub ordered : State → Command → Option Refusal → Outcome
ordered w c (Some refusal) = record { state = w; answer = says.Refused refusal; stored = None }
ordered w c None =
    record {
      state = record w {
        keeper =
            record {
              log = w.keeper.log;
              hand = Some record { command = c; done = 0; scanned = [] };
            };
      };
      answer = says.Ordered (steps_before w.base (blocks_of_state w) c + 1);
      stored = None;
    }

-- an order is enabled if there is no current command
unfoldable pub order : State → Command → Option Hand → Option Outcome
order w c (Some h) = None
order w c None = Some (ordered w c (refused w.base.setting (story_of w) c))

-- what an event does; none if it isn't enabled
unfoldable pub does : State → Event → Option Outcome
does w (Announce r) = announce w r (slice_get w.readers r)
does w (Load r) = load w r (slice_get w.readers r)
does w (LookMap r p) = look_map w p (hold_of (slice_get w.readers r))
does w (LookTile r b i) = look_tile w b i (hold_of (slice_get w.readers r))
does w (Leave r) = leave w r (slice_get w.readers r)
does w (Confirm r) = confirm w r (slice_get w.readers r)
does w (Order c) = order w c w.keeper.hand
does w Keep = keep w w.keeper.hand

-- how many steps the current command still has, including its last
unfoldable pub steps_left : State → Option Hand → ℕ
steps_left w None = 0
steps_left w (Some h) = steps_before w.base (blocks_of_state w) h.command + 1 - h.done
