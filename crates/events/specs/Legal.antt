-- The answers to commands after a log, and which logs are legal: this project's own rule.
use Rattle.std.specs.Prelude.{◌≡◌, ℕ, ◌+◌, ◌-◌, nat_lt, nat_le, Bool, false, List, [], ◌∷◌, ◌++◌}
use Rattle.std.specs.Prelude.{length, replicate, Option, Some, None, if◌then◌else◌}
use Rattle.bits.specs.Cells.{Cells}
use Rattle.metric.specs.declared.refusal.Refusal.{Refusal}
use Rattle.metric.specs.declared.refusal.Refusal.TheVariants.{OutOfRange, BlocksFull, VersionsFull}
use Rattle.metric.specs.declared.refusal.Refusal.TheVariants.{LogFull, PlacesUsed}
use Rattle.events.specs.declared.command.Command.{Command}
use Rattle.events.specs.declared.command.Command.TheVariants.{Paint, Stamp, Publish, Revert}
use Rattle.events.specs.declared.command.Command.TheVariants.{Collect, Checkpoint}
use Rattle.events.specs.declared.command.Reply.{Reply}
use Rattle.events.specs.declared.command.Reply.TheVariants.{Painted, Published, Reverted}
use Rattle.events.specs.declared.command.Reply.TheVariants.{Collected, Checkpointed}
use Rattle.events.specs.declared.command.Entry.{Entry}
use Rattle.events.specs.declared.setting.Setting.{Setting}
use Rattle.events.specs.declared.kept.Kept.{Kept}
use Rattle.events.specs.Kept.{first_free, IsIn, with_version, least_kept, IsPartOfKept}
use Rattle.events.specs.Drawing.{drawn, touched, cells_changed, is_inside}
use Rattle.events.specs.Story.{Story, opened, most_places, kept_log, newest, bitmap_of, kept}
use Rattle.events.specs.Story.{with_kept, trues, either, new_ones, inuse}

-- how many new blocks a command needs: one per position that it changes and that hasn't changed yet
unfoldable pub needed : Story → Command → ℕ
needed s c = trues (new_ones (touched s.draft c) s.changed)

-- whether the log has as many entries after its last checkpoint as its limit allows
abbrev pub is_log_full : Setting → Story → Bool
is_log_full g s = nat_le g.log (kept_log s)

-- whether no place is left for another entry
abbrev pub are_places_used : Story → Bool
are_places_used s = nat_le most_places s.places

-- whether as many versions are kept as there are slots
abbrev pub is_versions_full : Setting → Story → Bool
is_versions_full g s = nat_le g.versions (length (kept s))

-- the refusal of a paint or a stamp if too few blocks are free
abbrev pub refused_blocks : Setting → Story → Command → Option Refusal
refused_blocks g s c =
    if nat_lt (g.blocks - inuse s) (needed s c)
    then Some (BlocksFull (needed s c) (g.blocks - inuse s)) else None

-- the refusal of a command if no place is left, else the given one
abbrev pub refused_place : Story → Option Refusal → Option Refusal
refused_place s later = if are_places_used s then Some PlacesUsed else later

-- the refusal of any command but a checkpoint: a full log, then no place, else the given one
abbrev pub refused_log : Setting → Story → Option Refusal → Option Refusal
refused_log g s later = if is_log_full g s then Some LogFull else refused_place s later

-- why a paint or a stamp is refused: its area, then the log and the places, then the blocks
abbrev pub refused_draw : Setting → Story → Command → Option Refusal
refused_draw g s c = if is_inside s.draft c then refused_log g s (refused_blocks g s c)
    else Some OutOfRange

-- why a command is refused after a log; none if it is accepted
unfoldable pub refused : Setting → Story → Command → Option Refusal
refused g s (Paint r black) = refused_draw g s (Paint r black)
refused g s (Stamp x y b) = refused_draw g s (Stamp x y b)
refused g s Publish = refused_log g s (if is_versions_full g s then Some VersionsFull else None)
refused g s Revert = refused_log g s None
refused g s Collect = refused_log g s None
refused g s Checkpoint = refused_place s None

-- a collect keeps some kept versions and the newest; its reply has the least and the blocks freed
pub record IsCollected (s : Story) (floor freed : ℕ) (kept : Kept) : Type 0 where
  pub part : IsPartOfKept kept.slots s.kept.slots
  pub newest_in : IsIn kept (newest s)
  pub floor_is : floor ≡ least_kept (newest s) kept
  pub freed_is : freed + inuse (with_kept s kept) ≡ inuse s

-- this reply belongs to an accepted command after a log
abbrev pub IsReply : Story → Command → Reply → Type 0
IsReply s (Paint r black) reply =
    reply ≡ Painted (s.places + 1) (cells_changed s.draft (Paint r black))
IsReply s (Stamp x y b) reply = reply ≡ Painted (s.places + 1) (cells_changed s.draft (Stamp x y b))
IsReply s Publish reply = reply ≡ Published (s.places + 1) (newest s + 1)
IsReply s Revert reply = reply ≡ Reverted (s.places + 1)
IsReply s Collect reply =
    (floor freed : ℕ) × (kept : Kept) × (reply ≡ Collected (s.places + 1) floor freed kept)
    × IsCollected s floor freed kept
IsReply s Checkpoint reply = reply ≡ Checkpointed (s.places + 1)

-- this is an accepted answer to a command after a log
pub record IsAnswer (g : Setting) (s : Story) (c : Command) (reply : Reply) : Type 0 where
  pub accepted : refused g s c ≡ None
  pub reply_is : IsReply s c reply

-- the story after a paint or a stamp
abbrev pub after_draw : Story → Command → Story
after_draw s c =
    record s {
      places = s.places + 1;
      draft = drawn s.draft c;
      changed = either s.changed (touched s.draft c);
    }

-- the versions kept after a reply
abbrev pub kept_told : Story → Reply → Kept
kept_told s (Collected place floor freed kept) = kept
kept_told s reply = s.kept

-- the story after another entry
unfoldable pub told : Story → Command → Reply → Story
told s (Paint r black) reply = after_draw s (Paint r black)
told s (Stamp x y b) reply = after_draw s (Stamp x y b)
told s Publish reply =
    record s {
      places = s.places + 1;
      published = s.published ++ s.draft ∷ [];
      changes = s.changes ++ s.changed ∷ [];
      changed = replicate (length s.changed) false;
      kept = with_version s.kept (newest s + 1);
      slots = s.slots ++ first_free s.kept.slots ∷ [];
    }
told s Revert reply =
    record s {
      places = s.places + 1;
      draft = bitmap_of s (newest s);
      changed = replicate (length s.changed) false;
    }
told s Collect reply = record s { places = s.places + 1; kept = kept_told s reply }
told s Checkpoint reply = record s { places = s.places + 1; base = s.places + 1 }

-- the story after some more entries
abbrev pub after : Story → List Entry → Story
after s [] = s
after s (e ∷ es) = after (told s e.command e.reply) es

-- each of these entries is an accepted answer after those before it
abbrev pub IsLegalFrom : Setting → Story → List Entry → Type 0
IsLegalFrom g s [] = Unit {0}
IsLegalFrom g s (e ∷ es) =
    IsAnswer g s e.command e.reply × IsLegalFrom g (told s e.command e.reply) es

-- this is a legal log of a map opened with this bitmap
abbrev pub IsLegal : Setting → Cells → List Entry → Type 0
IsLegal g b log = IsLegalFrom g (opened b) log
