-- What a ledger counts of a log, and which commands it refuses: this project's own rule.
use Rattle.std.specs.Prelude.{◌≡◌, ◌^◌, ◌-◌, ◌<◌, ◌≤◌, ◌&&◌, nat_le, Bool, true, false, length}
use Rattle.std.specs.Prelude.{slice_index, Option, Some, None, if◌then◌else◌}
use Rattle.metric.specs.declared.refusal.Refusal.{Refusal}
use Rattle.metric.specs.declared.refusal.Refusal.TheVariants.{OutOfRange, VersionsFull, LogFull}
use Rattle.metric.specs.declared.refusal.Refusal.TheVariants.{PlacesUsed}
use Rattle.events.specs.declared.command.Command.{Command}
use Rattle.events.specs.declared.command.Command.TheVariants.{Paint, Stamp, Publish, Revert}
use Rattle.events.specs.declared.command.Command.TheVariants.{Collect, Checkpoint}
use Rattle.events.specs.declared.ledger.Ledger.{Ledger}
use Rattle.events.specs.declared.setting.Setting.{Setting}
use Rattle.events.specs.Kept.{members}
use Rattle.events.specs.Drawing.{lies_within}
use Rattle.events.specs.Legal.{refused_blocks}
use Rattle.events.specs.Story.{Story, most_places, newest}
use Rattle.events.specs.Words.{Base}

-- a ledger has the counts of a story of this map
pub record IsLedger (k : Base) (s : Story) (l : Ledger) : Type 0 where
  pub setting_is : l.setting ≡ k.setting
  pub width_is : l.width ≡ k.opening.width
  pub height_is : l.height ≡ k.opening.height
  pub places_is : l.places ≡ s.places
  pub base_is : l.base ≡ s.base
  pub newest_is : l.newest ≡ newest s
  pub slot_is : l.slot ≡ slice_index s.slots (newest s)
  pub kept_is : l.kept ≡ s.kept

-- each version and the last checkpoint have a place; at most 64 slots, and the newest is in one
pub record IsBalanced (l : Ledger) : Type 0 where
  pub newest_in : l.newest ≤ l.places
  pub base_in : l.base ≤ l.places
  pub few_slots : l.setting.versions ≤ 64
  pub small : l.slot < 64

-- a place is left for one more entry
abbrev pub HasPlace : Ledger → Type 0
HasPlace l = l.places < most_places

-- a ledger's fields of NOW fit the word
pub record HasNowRoom (l : Ledger) : Type 0 where
  pub place : l.places < 2 ^ 29
  pub version : l.newest < 2 ^ 29
  pub slot : l.slot < 64

-- whether a command's entry takes capacity in the log; only a checkpoint's takes none
abbrev pub takes_room : Command → Bool
takes_room (Paint r black) = true
takes_room (Stamp x y b) = true
takes_room Publish = true
takes_room Revert = true
takes_room Collect = true
takes_room Checkpoint = false

-- whether the log has as many entries after its last checkpoint as its limit allows
abbrev pub has_no_room : Ledger → Bool
has_no_room l = nat_le l.setting.log (l.places - l.base)

-- whether no place is left
abbrev pub has_no_place : Ledger → Bool
has_no_place l = nat_le most_places l.places

-- whether as many versions are kept as there are slots
abbrev pub has_no_slot : Ledger → Bool
has_no_slot l = nat_le l.setting.versions (length (members l.kept.slots))

-- the refusal of a command if no slot is free; only a publish takes one
abbrev pub refused_slots : Ledger → Command → Option Refusal
refused_slots l (Paint r black) = None
refused_slots l (Stamp x y b) = None
refused_slots l Publish = if has_no_slot l then Some VersionsFull else None
refused_slots l Revert = None
refused_slots l Collect = None
refused_slots l Checkpoint = None

-- the reason why a ledger refuses a command, blocks aside
unfoldable pub refused_by_ledger : Ledger → Command → Option Refusal
refused_by_ledger l c =
    if lies_within l.width l.height c
    then (if takes_room c && has_no_room l then Some LogFull
    else (if has_no_place l then Some PlacesUsed else refused_slots l c)) else Some OutOfRange

-- the refusal of a command if too few blocks are free; only a paint or a stamp takes some
abbrev pub refused_draw_blocks : Setting → Story → Command → Option Refusal
refused_draw_blocks g s (Paint r black) = refused_blocks g s (Paint r black)
refused_draw_blocks g s (Stamp x y b) = refused_blocks g s (Stamp x y b)
refused_draw_blocks g s Publish = None
refused_draw_blocks g s Revert = None
refused_draw_blocks g s Collect = None
refused_draw_blocks g s Checkpoint = None

-- the first of two refusals, if there is one
abbrev pub first_refusal : Option Refusal → Option Refusal → Option Refusal
first_refusal (Some refusal) next = Some refusal
first_refusal None next = next
