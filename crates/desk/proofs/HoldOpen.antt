-- What is held at the opening, what a command asks, and that all blocks come back at the end.
use Rattle.desk.proofs.Names.{◌≡◌, ℕ, ◌+◌, ◌-◌, suc, List, [], ◌∷◌, ◌++◌, length, map, drop}
use Rattle.desk.proofs.Names.{replicate, ap, sym, ◌∙◌, arith, None, length-map, length-replicate}
use Rattle.desk.proofs.Names.{get_or-replicate, Cells, IsBitmap, Setting, Entry, first_kept, opened}
use Rattle.desk.proofs.Names.{newest, bitmap_of, IsKept, opened_blocks, directory_of, own_list}
use Rattle.desk.proofs.Names.{Base, tiles, story, blocks, balanced, fits_ready, bad_field-none}
use Rattle.desk.proofs.Names.{draft, bitmap_at, own_blocks, newest_blocks, retired_of, Holding}
use Rattle.desk.proofs.Names.{IsToldByLog, CanAnswer, rules}
use Rattle.std.specs.List.{range_with_len}
use Rattle.bits.specs.Tiles.{tile_count}
use Rattle.events.specs.Setting.{bad_field}
use Rattle.events.proofs.invariants.TidyOpened.{opened_at}
use Rattle.desk.proofs.HoldLemmas.{tidy_told}

-- the parts of a holding are these at its opening
pub record IsNew (g : Setting) (b : Cells) (h : Holding) : Type 0 where
  pub fits : bad_field (tile_count b) g ≡ None
  pub bitmap : IsBitmap b
  pub ledger_is : h.ledger ≡ record {
    setting = g;
    width = b.width;
    height = b.height;
    places = 0;
    base = 0;
    newest = 0;
    slot = 0;
    kept = first_kept;
  }
  pub draft_is : draft h.grid ≡ b
  pub version_0 : bitmap_at h.grid 0 ≡ b
  pub newest_is : h.grid.newest ≡ 0
  pub own_is : own_blocks h.grid ≡ replicate (tile_count b) None
  pub came_is : h.grid.came ≡ replicate (tile_count b) 0
  pub retired_is : h.grid.retired ≡ []
  pub pieces_long : length h.grid.pieces ≡ tile_count b
  pub parts : range_with_len 0 g.blocks ≡ newest_blocks h.grid ++ h.arena.free
  pub home_is : h.grid.home ≡ h.arena.home
  pub count_is : h.arena.home.count ≡ g.blocks
  pub room_is : h.grid.room ≡ g.blocks

-- where a range is two lists, one after the other, each of them is a range
range_parts : (xs ys : List ℕ) (a m : ℕ) → range_with_len a (length xs + m) ≡ xs ++ ys
    → (xs ≡ range_with_len a (length xs)) × (ys ≡ range_with_len (a + length xs) m)
range_parts [] ys a m is = grind arith
range_parts (x ∷ xs) ys a m is =
    let more : suc (length xs + m) ≡ suc (length xs) + m = omega arith in
    let whole : a ∷ range_with_len (a + 1) (length xs + m) ≡ x ∷ (xs ++ ys) =
    ap (range_with_len a) more ∙ is in
    let rest = range_parts xs ys (a + 1) m (ap (drop 1) whole) in
    let first : x ≡ a = cc in
    grind arith

-- what is held at the opening is what the empty log tells
pub told_new : (g : Setting) (b : Cells) (h : Holding) → IsNew g b h
    → IsToldByLog record { setting = g; opening = b } [] h
unfolding story blocks opened opened_blocks newest bitmap_of directory_of IsKept
told_new g b h new =
    let k : Base = record { setting = g; opening = b } in
    let within = bad_field-none (tile_count b) g new.fits in
    let enough = within.blocks in
    let long : length (newest_blocks h.grid) ≡ tile_count b =
    length-map h.grid.pieces (λ p. p.block) ∙ new.pieces_long in
    let all : length (newest_blocks h.grid) + (g.blocks - tile_count b) ≡ g.blocks = omega arith in
    let parts = range_parts (newest_blocks h.grid) h.arena.free 0 (g.blocks - tile_count b)
    (ap (range_with_len 0) all ∙ new.parts) in
    let start : 0 + length (newest_blocks h.grid) ≡ tile_count b = omega arith in
    record {
      ready = fits_ready g b new.bitmap new.fits;
      legal = tt;
      holds = record {
        summary = record {
          ledger_is = rw new.ledger_is (search rules);
          draft_is = new.draft_is;
          published_is = cc;
          came_long = ap length new.came_is ∙ length-replicate (tile_count b) 0;
          came_is = λ p inside. rw new.came_is (get_or-replicate (tile_count b) p 0 0 inside);
          own_is = new.own_is;
          free_is = rw start at parts.1;
          retired_is = ap (map retired_of) new.retired_is;
        };
        newest_is = new.newest_is;
        mapped = rw long at parts.0;
        versions = λ v is_kept. let first : v ≡ 0 = (opened_at is_kept.slot v is_kept.there).1 in
            rw first new.version_0;
        home_is = new.home_is;
        count_is = new.count_is;
        room_is = new.room_is;
      };
    }

-- the newest version has one piece for each tile of the map
pieces_counted : (k : Base) (log : List Entry) (h : Holding) → IsToldByLog k log h
    → length h.grid.pieces ≡ tiles k
pieces_counted k log h tells =
    grind (arith, length-map, (tidy_told k log h tells).shape.directory (newest (story k log)))

-- the free blocks, the draft's own, newest's and the retired are all blocks of the setting
all_counted : (k : Base) (log : List Entry) (h : Holding) → IsToldByLog k log h
    → length h.arena.free + (length (own_list (own_blocks h.grid))
    + (length h.grid.pieces + length h.grid.retired)) ≡ k.setting.blocks
all_counted k log h tells =
    grind (arith, tidy_told k log h tells, pieces_counted k log h tells, length-map)

-- the free blocks, the draft's own, newest's and the retired are all blocks of the arena
pub all_back : (k : Base) (log : List Entry) (h : Holding) → IsToldByLog k log h
    → length h.arena.free + (length (own_list (own_blocks h.grid))
    + (length h.grid.pieces + length h.grid.retired)) ≡ h.arena.home.count
all_back k log h tells = all_counted k log h tells ∙ sym tells.holds.count_is

-- where what is held is what a log tells, commands can be answered
pub can_answer : (k : Base) (log : List Entry) (h : Holding) → IsToldByLog k log h → CanAnswer h
can_answer k log h tells =
    grind (
      arith,
      all_counted k log h tells,
      balanced k log h.ledger tells.ready tells.legal
          tells.holds.summary.ledger_is,
    )
