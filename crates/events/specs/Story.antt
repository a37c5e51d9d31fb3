-- What a log says of the map (the draft and the published bitmaps, what changed, which versions are
-- kept, and how many blocks that takes): this project's own rule.
use Rattle.std.specs.Prelude.{ℕ, zero, suc, ◌+◌, ◌-◌, ◌==◌, ◌&&◌, ◌||◌, Bool, true, false, not}
use Rattle.std.specs.Prelude.{cond, List, [], ◌∷◌, length, map, replicate, sum_by, slice_index_or}
use Rattle.std.specs.Prelude.{if◌then◌else◌}
use Rattle.std.specs.List.{list_any, range_with_len}
use Rattle.bits.specs.Cells.{Cells}
use Rattle.bits.specs.Tiles.{tile_count}
use Rattle.events.specs.declared.kept.Kept.{Kept}
use Rattle.events.specs.Kept.{members, IsIn, first_kept}

-- a story has a draft and a list of published bitmaps, with their counts
pub record Story : Type 0 where
  -- the number of entries of the log: the place of its last entry
  pub places : ℕ
  -- the place of the last checkpoint; 0 where there is none
  pub base : ℕ
  pub draft : Cells
  -- the published bitmaps: version 0, 1, ..
  pub published : List Cells
  -- for each position, whether a command changed a cell of it since the last publish or revert
  pub changed : List Bool
  -- what `changed` was at the publish of version 1, 2, ..
  pub changes : List (List Bool)
  -- the versions that are kept, each in its slot
  pub kept : Kept
  -- the slot of version 0, 1, .., including those no longer kept
  pub slots : List ℕ

-- at the opening the draft and version 0 are the opening bitmap
unfoldable pub opened : Cells → Story
opened b =
    record {
      places = 0;
      base = 0;
      draft = b;
      published = b ∷ [];
      changed = replicate (tile_count b) false;
      changes = [];
      kept = first_kept;
      slots = 0 ∷ [];
    }

-- the most entries of a log, since places count no higher
abbrev pub most_places : ℕ
most_places = 536870911

-- how many entries of the log count against its limit: those after the last checkpoint
unfoldable pub kept_log : Story → ℕ
kept_log s = s.places - s.base

-- the newest version is the last one published
unfoldable pub newest : Story → ℕ
newest s = length s.published - 1

-- the bitmap of a version that was never published
abbrev pub no_bitmap : Cells
no_bitmap = record { width = 0; height = 0; rows = [] }

-- the bitmap published as version v
unfoldable pub bitmap_of : Story → ℕ → Cells
bitmap_of s v = slice_index_or s.published v no_bitmap

-- the versions that are kept
unfoldable pub kept : Story → List ℕ
kept s = members s.kept.slots

-- version v is kept
unfoldable pub IsKept : Story → ℕ → Type 0
IsKept s v = IsIn s.kept v

-- the story with other kept versions
abbrev pub with_kept : Story → Kept → Story
with_kept s kept = record s { kept = kept }

-- how many of the booleans are true
abbrev pub trues : List Bool → ℕ
trues [] = 0
trues (true ∷ bs) = suc (trues bs)
trues (false ∷ bs) = trues bs

-- which positions are in one of two lists of booleans
abbrev pub either : List Bool → List Bool → List Bool
either [] bs = []
either (a ∷ as') [] = []
either (a ∷ as') (b ∷ bs) = (a || b) ∷ either as' bs

-- which positions are in the first list of booleans and not in the second
abbrev pub new_ones : List Bool → List Bool → List Bool
new_ones [] bs = []
new_ones (a ∷ as') [] = []
new_ones (a ∷ as') (b ∷ bs) = (a && not b) ∷ new_ones as' bs

-- how many different numbers a list has
abbrev pub number_of_values : List ℕ → ℕ
number_of_values [] = 0
number_of_values (n ∷ ns) = cond (list_any (λ m. n == m) ns) 0 1 + number_of_values ns

-- whether position k had changed at the publish of version v + 1
abbrev pub changed_before : Story → ℕ → ℕ → Bool
changed_before s v k = slice_index_or (slice_index_or s.changes v []) k false

-- the greatest version up to v at whose publish position k had changed; 0 if there is none
abbrev pub came : Story → ℕ → ℕ → ℕ
came s k zero = 0
came s k (suc v) = if changed_before s v k then suc v else came s k v

-- how many different blocks some versions have at position k
abbrev pub blocks_at : Story → List ℕ → ℕ → ℕ
blocks_at s versions k = number_of_values (map (came s k) versions)

-- how many blocks are in use: those of the kept versions, and one per position that has changed
unfoldable pub inuse : Story → ℕ
inuse s = sum_by (blocks_at s (kept s)) (range_with_len 0 (tile_count s.draft)) + trues s.changed
