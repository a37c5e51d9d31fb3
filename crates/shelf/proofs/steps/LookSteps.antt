-- A reader's looks at the version that it holds keep the rule, and tell what it has seen.
use Rattle.shelf.proofs.Names.{rules, ◌≡◌, ℕ, ◌<◌, set, get_or, refl, Some, none, some, get_elem?}
use Rattle.shelf.proofs.Names.{State, Me, step, keeps, Allows, set_again, row_word, bitmap_of}
use Rattle.shelf.proofs.Names.{directory_of, Base, tiles, map_at, tile_at, slot_of, story, blocks}
use Rattle.shelf.proofs.Names.{IsTidy-legal, Request, ReaderView, Role, reading, entries, as_reader}
use Rattle.shelf.proofs.Names.{Fits, Agrees}
use Rattle.shelf.proofs.seats.Bridge.{seat_knows, set_get}
use Rattle.events.proofs.logs.LogLemmas.{slot-beginning, bitmap-beginning}
use Rattle.events.specs.Sound.{Shows}
use Rattle.events.proofs.invariants.SoundBlocks.{block_within}
use Rattle.shelf.proofs.logs.LogParts.{prefix-entries}
use Rattle.shelf.specs.Steps.{looks}
use Rattle.events.proofs.accounts.SeenBlocks.{directory-beginning}

-- a load that leaves its seat's view keeps the rule
pub nothing_moves : (z : Base) (s : State Request Role) (r : Agrees z s) (id i : ℕ) (v : Role)
    → get_elem? s.views id ≡ some v
    → Agrees z record {
      words = set s.words i (get_or s.words i 0);
      homes = s.homes;
      views = set s.views id v;
    }
nothing_moves z s r id i v at = search (rules, set_get, set_again)

-- a reader that fits the keeper, and a version that it holds
module _ (z : Base) (s : State Request Role) (r : Agrees z s) (x : ReaderView)
    (f : Fits z r.k r.readers x) (v : ℕ) (held : x.holds ≡ Some v) where
  -- the version stands in the words
  held_shown : Shows z (story z (entries r.k.log)) (blocks z (entries r.k.log)) s.words v
  held_shown =
      r.whole.keeper.shows v ((r.whole.reader x.number (as_reader x) f.there).holds v held).kept

  -- the version has the slot that the reader has seen
  pub same_slot : slot_of z (story z (entries r.k.log)) v ≡ slot_of z (story z (entries x.seen)) v
  same_slot = slot-beginning z (entries x.seen) (entries r.k.log)
      (prefix-entries x.seen r.k.log f.began) v (f.held v held)

  -- the version has the directory that the reader has seen
  same_directory : directory_of (blocks z (entries r.k.log)) v
      ≡ directory_of (blocks z (entries x.seen)) v
  same_directory = directory-beginning z (entries x.seen) (entries r.k.log) r.whole.ready
      r.whole.keeper.legal (prefix-entries x.seen r.k.log f.began) v (f.held v held)

  -- a position's word in the version's directory is the block that the reader has seen there
  pub block_seen : (p : ℕ) → p < tiles z
      → get_or s.words (map_at z (slot_of z (story z (entries x.seen)) v) p) 0
      ≡ get_or (directory_of (blocks z (entries x.seen)) v) p 0
  block_seen p inside = rw (← same_slot, ← same_directory) (held_shown.mapped p inside)

  -- the block at a position of the version is one of the setting's
  block_fits : (p : ℕ) → p < tiles z
      → get_or (directory_of (blocks z (entries x.seen)) v) p 0 < z.setting.blocks
  block_fits p inside =
      rw (← same_directory) (block_within z (story z (entries r.k.log)) (blocks z (entries r.k.log))
      (IsTidy-legal z (entries r.k.log) r.whole.ready r.whole.keeper.legal) v p
      ((r.whole.reader x.number (as_reader x) f.there).holds v held).kept inside)

  -- a row's word in the version is that row of the version's bitmap
  row_seen : (p i : ℕ) → p < tiles z → i < 64
      → get_or s.words (tile_at z (get_or (directory_of (blocks z (entries x.seen)) v) p 0) i) 0
      ≡ row_word (bitmap_of (story z (entries x.seen)) v) p i
  row_seen p i inside row =
      let bitmap = bitmap-beginning z (entries x.seen) (entries r.k.log)
      (prefix-entries x.seen r.k.log f.began) v (f.held v held) in
      rw (← same_directory, ← bitmap) (held_shown.rows p i inside row)

-- a load of any word by a reader keeps the rule, and a word of the version that it holds tells what
-- it has seen
pub looks_it : (z : Base) (slots id i : ℕ) (me : Me Request Role) (x : ReaderView)
    → me.0 ≡ reading x
    → Allows (Agrees z) slots id me i (λ n. n) (looks z (step slots i 0 0 none) me)
looks_it z slots id i me x role s r homes at small = (
  me.0,
  keeps,
  tt,
  nothing_moves z s r id i me.0 at,
  (
    refl,
    (λ y v p said held inside place. let f = (seat_knows z s r id me.0 (reading y) at said).1 in
        rw (place, block_seen z s r y f v held p inside)
        (refl, block_fits z s r y f v held p inside, r.whole.ready)),
    (λ y v p j said held inside row place. rw place
        (row_seen z s r y (seat_knows z s r id me.0 (reading y) at said).1 v held p j inside row)),
  ),
)
