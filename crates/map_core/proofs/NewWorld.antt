-- A world that is opened, by its parts.
use Rattle.map_core.proofs.Names.{rules, ◌≡◌, ℕ, zero, suc, ◌-◌, ◌≤◌, List, [], ◌∷◌, length}
use Rattle.map_core.proofs.Names.{map, replicate, refl, ap, subst, sym, ◌∙◌, arith, None, false}
use Rattle.map_core.proofs.Names.{slice_get, range_with_len, length-replicate, Cells, Entry}
use Rattle.map_core.proofs.Names.{get_or-replicate, IsBitmap, cells_where, tile_count, Base}
use Rattle.map_core.proofs.Names.{IsBitmap-cells_where, Standing, Setting, bad_field, opened}
use Rattle.map_core.proofs.Names.{newest, bitmap_of, first_kept, IsLedger, opened_blocks, Reader}
use Rattle.map_core.proofs.Names.{State, story, blocks, IsOfMap, AreOpeningWords, Summary, Ledger}
use Rattle.map_core.proofs.Names.{Room, reader_of, state_of, IsStanding, IsConsistent}
use Rattle.std.proofs.Common.{lit<}
use Rattle.events.specs.Runs.{IsOpened, fresh_reader}
use Rattle.events.proofs.steps.OpenWorld.{fits_ready, opened_state, IsWhole-opening}
use Rattle.events.proofs.steps.OpenWorld.{IsOpened-opening, slice_get-replicate}

-- a world keeps this of a reader before its first event
abbrev pub fresh_standing : Standing
fresh_standing = record { seen = 0; version = 0; announced = None; holds = None }

-- a world is made of this before its first event
pub record IsNew (g : Setting) (b opening : Cells) (words : List ℕ) (log : List Entry)
    (standings : List Standing) (u : Summary) (room : Room) : Type 0 where
  pub fits : bad_field (tile_count b) g ≡ None
  pub bitmap : IsBitmap b
  pub opening_is : opening ≡ b
  pub words_are : AreOpeningWords record { setting = g; opening = b } words
  pub log_is : log ≡ []
  pub standings_are : standings ≡ replicate g.sessions fresh_standing
  pub ledger_is : u.ledger ≡ record {
    setting = g;
    width = b.width;
    height = b.height;
    places = 0;
    base = 0;
    newest = 0;
    slot = 0;
    kept = first_kept;
  }
  pub draft_is : u.draft ≡ b
  pub scratch_is : room.scratch ≡ cells_where b.width b.height (λ x y. false)
  pub published_is : u.published ≡ b
  pub came_is : u.came ≡ replicate (tile_count b) 0
  pub own_is : u.own ≡ replicate (tile_count b) None
  pub free_is : u.free ≡ range_with_len (tile_count b) (g.blocks - tile_count b)
  pub retired_is : u.retired ≡ []
  pub scanned_room : g.sessions ≤ room.scanned
  pub free_room : g.blocks ≤ room.free
  pub retired_room : g.blocks ≤ room.retired

-- before a world's first event what is kept of each reader is that it has seen nothing
map-fresh : (n : ℕ) → map (reader_of []) (replicate n fresh_standing) ≡ replicate n fresh_reader
map-fresh zero = refl
map-fresh (suc n) = ap (λ (xs : List Reader). fresh_reader ∷ xs) (map-fresh n)

-- before a world's first event its state is the opened one
state-new : (g : Setting) (b opening : Cells) (words : List ℕ) (log : List Entry)
    (standings : List Standing) (u : Summary) (room : Room)
    → IsNew g b opening words log standings u room
    → opened_state record { setting = g; opening = b } words
    ≡ state_of u.ledger.setting opening words log None 0 [] standings
state-new g b opening words log standings u room new = search (rules, map-fresh)

-- what is kept besides the words of a world is what the empty log says
consistent_opened : (g : Setting) (b opening : Cells) (words : List ℕ) (log : List Entry)
    (standings : List Standing) (u : Summary) (room : Room)
    → IsNew g b opening words log standings u room
    → IsConsistent (opened_state record { setting = g; opening = b } words) None 0 standings u room
unfolding story blocks opened opened_blocks newest bitmap_of
consistent_opened g b opening words log standings u room new =
    let k : Base = record { setting = g; opening = b } in
    record {
      whole = IsWhole-opening k words (fits_ready g b new.bitmap new.fits) new.words_are;
      steps = tt;
      standing = λ r p there.
          let fresh = slice_get-replicate g.sessions r fresh_standing p
          (ap (λ (ps : List Standing). slice_get ps r) (sym new.standings_are) ∙ there) in
          subst (λ (q : Standing). IsStanding k [] q) (sym fresh.0)
          record { within = omega arith; version_is = refl; small = lit< tt };
      summary = record {
        ledger_is = subst (λ (l : Ledger). IsLedger k (story k []) l)
            (sym new.ledger_is) record {
              setting_is = refl;
              width_is = refl;
              height_is = refl;
              places_is = refl;
              base_is = refl;
              newest_is = refl;
              slot_is = refl;
              kept_is = refl;
            };
        draft_is = new.draft_is;
        published_is = new.published_is;
        came_long = ap length new.came_is ∙ length-replicate (tile_count b) 0;
        came_is = λ p h. search (rules, get_or-replicate);
        own_is = new.own_is;
        free_is = new.free_is;
        retired_is = new.retired_is;
      };
      roomy = record {
        log = tt;
        scanned = new.scanned_room;
        free = new.free_room;
        retired = new.retired_room;
        scratch = subst (λ (c : Cells). IsOfMap k c)
            (sym new.scratch_is) record {
              width_is = refl;
              height_is = refl;
              bitmap = search (rules, IsBitmap-cells_where);
            };
      };
    }

-- a world is consistent before its first event
pub consistent_new : (g : Setting) (b opening : Cells) (words : List ℕ) (log : List Entry)
    (standings : List Standing) (u : Summary) (room : Room)
    → IsNew g b opening words log standings u room
    → IsConsistent (state_of u.ledger.setting opening words log None 0 [] standings) None 0
    standings u room
consistent_new g b opening words log standings u room new =
    subst (λ (w : State). IsConsistent w None 0 standings u room)
    (state-new g b opening words log standings u room new)
    (consistent_opened g b opening words log standings u room new)

-- a world is opened before its first event
pub opened_new : (g : Setting) (b opening : Cells) (words : List ℕ) (log : List Entry)
    (standings : List Standing) (u : Summary) (room : Room)
    → IsNew g b opening words log standings u room
    → IsOpened record { setting = g; opening = b }
    (state_of u.ledger.setting opening words log None 0 [] standings)
opened_new g b opening words log standings u room new =
    subst (λ (w : State). IsOpened record { setting = g; opening = b } w)
    (state-new g b opening words log standings u room new)
    (IsOpened-opening record { setting = g; opening = b } words
    (fits_ready g b new.bitmap new.fits) new.words_are)
