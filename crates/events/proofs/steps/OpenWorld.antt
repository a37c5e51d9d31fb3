-- A world that is opened, by its parts.
use Rattle.events.proofs.Names.{rules, ◌≡◌, ℕ, zero, suc, ◌<◌, ◌≤◌, List, [], replicate, subst}
use Rattle.events.proofs.Names.{sym, arith, Some, None, slice_get, length-replicate, Cells}
use Rattle.events.proofs.Names.{IsBitmap, tile_count, Base, Setting, bad_field, tiles, opened}
use Rattle.events.proofs.Names.{newest, bitmap_of, IsKept, now_of, pin_at, opened_blocks}
use Rattle.events.proofs.Names.{directory_of, pin_word, slot_of, State, story, blocks, IsReady}
use Rattle.events.proofs.Names.{Shows, KeeperSound, ReaderSound, IsWhole, AreOpeningWords}
use Rattle.std.proofs.lemmas.List.FromFn.{get_or-range_with_len}
use Rattle.events.specs.Runs.{IsOpened, fresh_reader}
use Rattle.events.proofs.invariants.SafeLemmas.{IsSafe-whole}
use Rattle.events.proofs.invariants.TidyOpened.{opened_at}

-- the limits of a setting say this of its fields
pub record IsFitting (tiles : ℕ) (g : Setting) : Type 0 where
  pub blocks : tiles ≤ g.blocks
  pub few_blocks : g.blocks ≤ 16384
  pub versions : 1 ≤ g.versions
  pub few_versions : g.versions ≤ 64
  pub few_sessions : g.sessions ≤ 64
  pub log : g.log ≤ 1048576

-- a setting none of whose fields is bad is within its limits
pub bad_field-none : (tiles : ℕ) (g : Setting) → bad_field tiles g ≡ None → IsFitting tiles g
unfolding bad_field
bad_field-none tiles g fits = search rules

-- a world can be opened with a setting that fits the bitmap
pub fits_ready : (g : Setting) (b : Cells) → IsBitmap b → bad_field (tile_count b) g ≡ None
    → IsReady record { setting = g; opening = b }
fits_ready g b bitmap fits = search (rules, bad_field-none)

-- the words show version 0
Shows-opening : (k : Base) (words : List ℕ) → AreOpeningWords k words
    → Shows k (story k []) (blocks k []) words 0
unfolding story blocks opened opened_blocks bitmap_of directory_of slot_of
Shows-opening k words opening = search (rules, get_or-range_with_len)

-- before a world's first event its words and its keeper are sound together
KeeperSound-opening : (k : Base) (words : List ℕ) → AreOpeningWords k words
    → KeeperSound k (story k []) (blocks k []) words record { log = []; hand = None }
unfolding story opened newest now_of IsKept
KeeperSound-opening k words opening = record {
  sized = opening.sized;
  legal = tt;
  now = opening.quiet 0 (omega arith);
  shows = λ v kept. let first : 0 ≡ v = sym (opened_at kept.slot v kept.there).1 in
      subst (λ (w : ℕ). Shows k (story k []) (blocks k []) words w) first
      (Shows-opening k words opening);
  hand = tt;
}

-- before a world's first event its words and each reader are sound together
ReaderSound-opening : (k : Base) (words : List ℕ) → AreOpeningWords k words → (r : ℕ)
    → r < k.setting.sessions
    → ReaderSound k (story k []) words record { log = []; hand = None } r fresh_reader
unfolding pin_at pin_word
ReaderSound-opening k words opening r h = search rules

-- a list that has one value at all places has that value at each place, and no more places
pub slice_get-replicate : {A : Type 0} (n i : ℕ) (x y : A) → slice_get (replicate n x) i ≡ Some y
    → (y ≡ x) × (i < n)
slice_get-replicate zero i x y is = absurd (cc)
slice_get-replicate (suc n) zero x y is = search rules
slice_get-replicate (suc n) (suc i) x y is = search (rules, slice_get-replicate n i x y is)

-- a world that was opened has had no event
abbrev pub opened_state : Base → List ℕ → State
opened_state k words =
    record {
      base = k;
      words = words;
      keeper = record { log = []; hand = None };
      readers = replicate k.setting.sessions fresh_reader;
    }

-- a world that is made of opening words is whole
pub IsWhole-opening : (k : Base) (words : List ℕ) → IsReady k → AreOpeningWords k words
    → IsWhole (opened_state k words)
IsWhole-opening k words ready opening =
    search (rules, KeeperSound-opening, length-replicate, slice_get-replicate, ReaderSound-opening)

-- a world that is made of opening words is opened
pub IsOpened-opening : (k : Base) (words : List ℕ) → IsReady k → AreOpeningWords k words
    → IsOpened k (opened_state k words)
IsOpened-opening k words ready opening = search (rules, IsSafe-whole, IsWhole-opening)
