-- What a desk holds of a map, and how that relates to its log: this project's own rule.
use Rattle.std.specs.Prelude.{◌≡◌, ℕ, ◌+◌, ◌≤◌, ◌⊎◌, true, List, [], ◌∷◌, ◌++◌, length, Option}
use Rattle.std.specs.Prelude.{Some, None}
use Rattle.metric.specs.declared.refusal.Refusal.{Refusal}
use Rattle.metric.specs.declared.refusal.Refusal.TheVariants.{Memory}
use Rattle.events.specs.declared.command.Command.{Command}
use Rattle.events.specs.declared.command.Command.TheVariants.{Publish, Collect}
use Rattle.events.specs.declared.command.Reply.{Reply}
use Rattle.events.specs.declared.command.Entry.{Entry}
use Rattle.events.specs.Story.{Story, newest, bitmap_of, IsKept}
use Rattle.events.specs.Legal.{refused, IsAnswer, IsLegal}
use Rattle.events.specs.Blocks.{Blocks, directory_of, own_list}
use Rattle.events.specs.Words.{Base}
use Rattle.events.specs.Views.{story, blocks}
use Rattle.events.specs.Tidy.{IsReady}
use Rattle.events.specs.Ledger.{IsBalanced, takes_room}
use Rattle.events.specs.Summary.{Summary, IsSummary}
use Rattle.grid.specs.Grids.{draft, bitmap_at, own_blocks, newest_blocks, retired_blocks}
use Rattle.desk.specs.declared.holding.Holding.{Holding}

-- the summary of a log that a desk holds
abbrev pub summary_of : Holding → Summary
summary_of h =
    record {
      ledger = h.ledger;
      draft = draft h.grid;
      published = bitmap_at h.grid h.grid.newest;
      came = h.grid.came;
      own = own_blocks h.grid;
      free = h.arena.free;
      retired = retired_blocks h.grid;
    }

-- ledger, tiles and free blocks agree with a story and its blocks
pub record Holds (k : Base) (s : Story) (m : Blocks) (h : Holding) : Type 0 where
  pub summary : IsSummary k s m (summary_of h)
  pub newest_is : h.grid.newest ≡ newest s
  pub mapped : newest_blocks h.grid ≡ directory_of m (newest s)
  pub versions : (v : ℕ) → IsKept s v → bitmap_at h.grid v ≡ bitmap_of s v
  -- the tiles come from the arena, which has as many blocks as the setting says
  pub home_is : h.grid.home ≡ h.arena.home
  pub count_is : h.arena.home.count ≡ k.setting.blocks
  pub room_is : h.grid.room ≡ k.setting.blocks

-- a legal log of the map gives what is held
pub record IsToldByLog (k : Base) (log : List Entry) (h : Holding) : Type 0 where
  pub ready : IsReady k
  pub legal : IsLegal k.setting k.opening log
  pub holds : Holds k (story k log) (blocks k log) h

-- a command can be answered: the ledger is balanced, and the tiles are the arena's
pub record CanAnswer (h : Holding) : Type 0 where
  pub balanced : IsBalanced h.ledger
  pub newest_is : h.grid.newest ≡ h.ledger.newest
  pub home_is : h.grid.home ≡ h.arena.home
  pub room : length h.grid.retired + length (own_list (own_blocks h.grid)) ≤ h.grid.room

-- after any log that gives what is held, this is the refusal of a command, or none
abbrev pub Judges : Holding → Command → Option Refusal → Type 0
Judges h c refusal = (k : Base) (log : List Entry) → IsToldByLog k log h
    → refusal ≡ refused k.setting (story k log) c

-- a command is refused: by the log for this reason, or for no memory if the log has no reason
abbrev pub Refuses : Holding → Command → Refusal → Type 0
Refuses h c refusal = Judges h c (Some refusal)
    ⊎ (Judges h c None × (refusal ≡ Memory) × (takes_room c ≡ true))

-- the only step of a paint, a stamp or a revert is its last
abbrev pub IsOneStep : Command → Type 0
IsOneStep Publish = ⊥
IsOneStep Collect = ⊥
IsOneStep c = Unit {0}

-- after any log that gives what is held a command is answered, and its entry gives the new holding
abbrev pub Does : Holding → Command → Reply → Holding → Type 0
Does old c reply new =
    (k : Base) (log : List Entry) → IsToldByLog k log old → IsAnswer k.setting (story k log) c reply
    × IsToldByLog k (log ++ record { command = c; reply = reply } ∷ []) new
