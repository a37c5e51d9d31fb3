-- Which block is which, as a function of the log: this project's own rule. A block is taken from
-- the front of the free list, and returned to its front.
use Rattle.std.specs.Prelude.{ℕ, ◌+◌, ◌-◌, ◌==◌, ◌&&◌, nat_le, Bool, true, false, not, List, []}
use Rattle.std.specs.Prelude.{◌∷◌, ◌++◌, length, drop, filter, replicate, slice_index_or, Option}
use Rattle.std.specs.Prelude.{Some, None, unwrap_or}
use Rattle.std.specs.List.{list_any, range_with_len}
use Rattle.events.specs.declared.command.Command.{Command}
use Rattle.events.specs.declared.command.Command.TheVariants.{Paint, Stamp, Publish, Revert}
use Rattle.events.specs.declared.command.Command.TheVariants.{Collect, Checkpoint}
use Rattle.events.specs.declared.command.Reply.{Reply}
use Rattle.events.specs.declared.command.Entry.{Entry}
use Rattle.events.specs.declared.blocks.RetiredBlock.{RetiredBlock}
use Rattle.events.specs.Drawing.{touched}
use Rattle.events.specs.Story.{Story, newest, kept, came}
use Rattle.events.specs.Legal.{told, needed}

-- the state of all blocks
pub record Blocks : Type 0 where
  -- for each position the draft's own block, if the position has changed
  pub own : List (Option ℕ)
  -- for each version the block of each position
  pub directories : List (List ℕ)
  -- the free blocks; the front is taken next
  pub free : List ℕ
  pub retired : List RetiredBlock

-- when a map opens, version 0 maps position k to block k, and each other block is free
unfoldable pub opened_blocks : ℕ → ℕ → Blocks
opened_blocks tiles blocks =
    record {
      own = replicate tiles None;
      directories = range_with_len 0 tiles ∷ [];
      free = range_with_len tiles (blocks - tiles);
      retired = [];
    }

-- the block of each position in version v
unfoldable pub directory_of : Blocks → ℕ → List ℕ
directory_of m v = slice_index_or m.directories v []

-- whether version v maps a block
unfoldable pub is_mapped : Blocks → ℕ → ℕ → Bool
is_mapped m v block = list_any (λ b. b == block) (directory_of m v)

-- the draft's own blocks, by position
abbrev pub own_list : List (Option ℕ) → List ℕ
own_list [] = []
own_list (None ∷ own) = own_list own
own_list (Some b ∷ own) = b ∷ own_list own

-- the draft's own blocks after each touched position without one takes the front of the free list
abbrev pub own_after : List Bool → List (Option ℕ) → List ℕ → List (Option ℕ)
own_after [] own free = own
own_after (t ∷ ts) [] free = []
own_after (t ∷ ts) (Some b ∷ own) free = Some b ∷ own_after ts own free
own_after (false ∷ ts) (None ∷ own) free = None ∷ own_after ts own free
own_after (true ∷ ts) (None ∷ own) [] = None ∷ own_after ts own []
own_after (true ∷ ts) (None ∷ own) (b ∷ free) = Some b ∷ own_after ts own free

-- a new version's directory: the draft's own block if the position has changed, else the newest's
abbrev pub mapped : List (Option ℕ) → List ℕ → List ℕ
mapped [] blocks = blocks
mapped (o ∷ own) [] = []
mapped (o ∷ own) (b ∷ blocks) = unwrap_or o b ∷ mapped own blocks

-- the newest version's blocks that a publish replaces, from position k on
abbrev pub replaced : Story → ℕ → List (Option ℕ) → List ℕ → List RetiredBlock
replaced s k [] blocks = []
replaced s k (o ∷ own) [] = []
replaced s k (None ∷ own) (b ∷ blocks) = replaced s (k + 1) own blocks
replaced s k (Some o ∷ own) (b ∷ blocks) =
    record { block = b; position = k; first = came s k (newest s); last = newest s }
    ∷ replaced s (k + 1) own blocks

-- the free list after blocks are returned, each to the front
abbrev pub given_back : List ℕ → List ℕ → List ℕ
given_back [] free = free
given_back (b ∷ blocks) free = given_back blocks (b ∷ free)

-- whether one of these versions maps a retired block
abbrev pub is_used : List ℕ → RetiredBlock → Bool
is_used versions r = list_any (λ v. nat_le r.first v && nat_le v r.last) versions

-- the numbers of some retired blocks
abbrev pub blocks_of : List RetiredBlock → List ℕ
blocks_of [] = []
blocks_of (r ∷ rs) = r.block ∷ blocks_of rs

-- the blocks after a paint or a stamp
abbrev pub drawn_blocks : Story → Command → Blocks → Blocks
drawn_blocks s c m =
    record m { own = own_after (touched s.draft c) m.own m.free; free = drop (needed s c) m.free }

-- the blocks after those that no kept version maps are freed
abbrev pub swept : List ℕ → Blocks → Blocks
swept versions m =
    record m {
      retired = filter (is_used versions) m.retired;
      free = given_back (blocks_of (filter (λ r. not (is_used versions r)) m.retired)) m.free;
    }

-- the blocks after another entry
unfoldable pub moved : Story → Command → Reply → Blocks → Blocks
moved s (Paint r black) reply m = drawn_blocks s (Paint r black) m
moved s (Stamp x y b) reply m = drawn_blocks s (Stamp x y b) m
moved s Publish reply m =
    record m {
      own = replicate (length m.own) None;
      directories = m.directories ++ mapped m.own (directory_of m (newest s)) ∷ [];
      retired = m.retired ++ replaced s 0 m.own (directory_of m (newest s));
    }
moved s Revert reply m =
    record m { own = replicate (length m.own) None; free = given_back (own_list m.own) m.free }
moved s Collect reply m = swept (kept (told s Collect reply)) m
moved s Checkpoint reply m = m

-- the blocks after some more entries
abbrev pub blocks_after : Story → Blocks → List Entry → Blocks
blocks_after s m [] = m
blocks_after s m (e ∷ es) = blocks_after (told s e.command e.reply) (moved s e.command e.reply m) es
