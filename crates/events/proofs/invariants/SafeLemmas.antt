-- What holds between words, keeper and readers gives the theorem, item by item.
use Rattle.events.proofs.Names.{rules, ◌≡◌, ℕ, List, subst, sym, arith, inl, inr, Story, IsKept}
use Rattle.events.proofs.Names.{cells_where-same, cells_where-has, bitmap_of, Blocks, Base, State}
use Rattle.events.proofs.Names.{now_of, slot_of, story_of, blocks_of_state, IsOfMap, Shows, IsWhole}
use Rattle.std.proofs.lemmas.Nat.{mod_below}
use Rattle.bits.proofs.StoredLemmas.{test_of_bit}
use Rattle.bits.proofs.TileLemmas.{bit_at-row_word, tile_has-tile_of, tile_of-lt}
use Rattle.events.specs.Words.{shown}
use Rattle.events.specs.Safe.{IsLive, IsSafe}
use Rattle.events.proofs.logs.LogLemmas.{places_are}
use Rattle.events.proofs.invariants.SoundBlocks.{sound_blocks, kept_apart}
use Rattle.events.proofs.invariants.TidyLog.{IsTidy-legal}

-- the words show a bitmap whose rows they have
shown_is : (k : Base) (s : Story) (m : Blocks) (words : List ℕ) (v : ℕ) → IsOfMap k (bitmap_of s v)
    → Shows k s m words v
    → shown k words (slot_of k s v) ≡ bitmap_of s v
unfolding shown
shown_is k s m words v of_map shows =
    grind (
      arith,
      cells_where-same,
      tile_of-lt,
      mod_below,
      test_of_bit,
      bit_at-row_word,
      tile_has-tile_of,
      cells_where-has,
    )

-- a live version is kept
pub live_kept : (w : State) → IsWhole w → (v : ℕ) → IsLive w v → IsKept (story_of w) v
live_kept w whole v (inl newest_is) =
    subst (λ (n : ℕ). IsKept (story_of w) n) (sym newest_is)
    (IsTidy-legal w.base w.keeper.log whole.ready whole.keeper.legal).slots.newest_in
live_kept w whole v (inr (inl held)) =
    ((whole.reader held.reader held.view held.there).holds v held.holds).kept
live_kept w whole v (inr (inr is_kept)) = is_kept

-- what holds of the parts of a world is the theorem
pub IsSafe-whole : (w : State) → IsWhole w → IsSafe w
unfolding now_of slot_of
IsSafe-whole w whole =
    let tidy = IsTidy-legal w.base w.keeper.log whole.ready whole.keeper.legal in
    record {
      legal = whole.keeper.legal;
      now = search (rules, places_are);
      held = λ v held. live_kept w whole v (inr (inl held));
      shows = λ v live.
          let is_kept = live_kept w whole v live in
          let shows = whole.keeper.shows v is_kept in
          record {
            directory = shows.mapped;
            rows = shows.rows;
            cells = search (rules, shown_is);
          };
      sound = sound_blocks w.base (story_of w) (blocks_of_state w) tidy;
      apart = λ b live.
          let is_kept = live_kept w whole live.version live.live in
          kept_apart w.base (story_of w) (blocks_of_state w) tidy live.version live.position b
          is_kept live.inside live.there;
      seen = λ r x there. (whole.reader r x there).seen;
    }
