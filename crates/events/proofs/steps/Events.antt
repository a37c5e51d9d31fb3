-- What an event of the core does, where it is enabled: each by its equation.
use Rattle.events.proofs.Names.{rules, refused, Command, ◌≡◌, ℕ, ◌<◌, true, refl, ap, ◌∙◌, ◌+◌, []}
use Rattle.events.proofs.Names.{Some, None, slice_get, is_some, Announce, Leave, Confirm, Keep}
use Rattle.events.proofs.Names.{Load, Order, From, Exact, pin_at, pin_word, now_at, Hand}
use Rattle.events.proofs.Names.{place_told, version_told, Reader, State, blocks_of_state, confirm}
use Rattle.events.proofs.Names.{newest_seen, story_of, with_word_stored, with_reader, announce}
use Rattle.events.proofs.Names.{to_confirm, confirm_held, leave, keep, steps_before, step_before}
use Rattle.events.proofs.Names.{commit, does, load, order, ordered, next_hold, ◌&&◌, List, length}
use Rattle.events.proofs.Names.{get_or, arith, Option, nat_lt, nat_tests, eq-eqb, list_any_at}
use Rattle.events.proofs.Names.{is_mapped, LookMap, LookTile, IsKept, tiles, map_at, tile_at}
use Rattle.events.proofs.Names.{slot_of, look_map, look_tile, hold_of, IsWhole, take, ◌++◌}
use Rattle.events.proofs.Names.{take-append_seam, Reply, Painted, Ledger, cells_changed, IsDraw}
use Rattle.events.proofs.Names.{Base, Story, IsLedger, reply_of}
use Rattle.std.specs.Prelude.{slice_index}
use Rattle.events.proofs.invariants.TidyLog.{IsTidy-legal}
use Rattle.events.specs.declared.event.StepReply.TheVariants as says

-- an announcement stores the newest version that the reader has seen, with those after it
pub does_announce : (w : State) (r : ℕ) (x : Reader) → slice_get w.readers r ≡ Some x
    → x.announced ≡ None
    → does w (Announce r) ≡ Some record {
      state =
          with_word_stored
          (with_reader w r record x { announced = Some (From (newest_seen w.base x)) })
          (pin_at r) (pin_word (Some (From (newest_seen w.base x))));
      answer = says.Announced (newest_seen w.base x);
      stored = Some (pin_at r);
    }
unfolding does announce
does_announce w r x there quiet = ap (announce w r) there ∙ rw quiet refl

-- an exact announcement stores the version that the reader holds, alone
pub does_confirm : (w : State) (r : ℕ) (x : Reader) (v : ℕ) → slice_get w.readers r ≡ Some x
    → to_confirm x.announced x.holds ≡ Some v
    → does w (Confirm r) ≡ Some record {
      state =
          with_word_stored (with_reader w r record x { announced = Some (Exact v) }) (pin_at r)
          (pin_word (Some (Exact v)));
      answer = says.Confirmed v;
      stored = Some (pin_at r);
    }
unfolding does confirm
does_confirm w r x v there held = ap (confirm w r) there ∙ ap (confirm_held w r x) held

-- a leave stores that nothing is announced, and the reader holds nothing
pub does_leave : (w : State) (r : ℕ) (x : Reader) → slice_get w.readers r ≡ Some x
    → is_some x.announced ≡ true
    → does w (Leave r) ≡ Some record {
      state =
          with_word_stored (with_reader w r record x { announced = None; holds = None }) (pin_at r)
          (pin_word None);
      answer = says.Left;
      stored = Some (pin_at r);
    }
unfolding does leave
does_leave w r x there some = ap (leave w r) there ∙ rw some refl

-- a step of a command that isn't its last is done
pub does_step : (w : State) (h : Hand) (c : Command) → w.keeper.hand ≡ Some h → h.command ≡ c
    → h.done < steps_before w.base (blocks_of_state w) c → does w Keep ≡ Some (step_before w h c)
unfolding does keep
does_step w h c is command more = search rules

-- a step of a command that has done all others commits it
pub does_commit : (w : State) (h : Hand) → w.keeper.hand ≡ Some h
    → h.done ≡ steps_before w.base (blocks_of_state w) h.command → does w Keep ≡ Some (commit w h)
unfolding does keep
does_commit w h is all = search rules

-- a load shows a reader the whole log, with the place and the version that NOW tells
pub does_load : (w : State) (r : ℕ) (x : Reader) → slice_get w.readers r ≡ Some x
    → does w (Load r) ≡ Some record {
      state =
          with_reader w r record x {
            seen = w.keeper.log;
            holds = next_hold x (version_told (slice_index w.words now_at));
          };
      answer = says.Now (place_told (slice_index w.words now_at))
          (version_told (slice_index w.words now_at));
      stored = None;
    }
unfolding does load
does_load w r x there = ap (load w r) there

-- an order that is accepted makes the command current
pub does_order : (w : State) (c : Command) → w.keeper.hand ≡ None
    → refused w.base.setting (story_of w) c ≡ None
    → does w (Order c) ≡ Some record {
      state =
          record w {
            keeper = record {
              log = w.keeper.log;
              hand = Some record { command = c; done = 0; scanned = [] };
            };
          };
      answer = says.Ordered (steps_before w.base (blocks_of_state w) c + 1);
      stored = None;
    }
unfolding does order
does_order w c none accepted = ap (order w c) none ∙ ap (λ o. Some (ordered w c o)) accepted

-- a reader that holds a version and looks at a position gets the block there
pub look_map_does : (w : State) (r p v block : ℕ) (held : Option ℕ)
    → held ≡ hold_of (slice_get w.readers r) → held ≡ Some v → p < tiles w.base
    → block ≡ get_or w.words (map_at w.base (slot_of w.base (story_of w) v) p) 0
    → does w (LookMap r p) ≡ Some record { state = w; answer = says.Block block; stored = None }
unfolding does look_map
look_map_does w r p v block held is some inside block_is = search (rules, nat_tests)

-- a block that a word of a kept version's slot has is mapped
pub is_mapped_found : (w : State) → IsWhole w → (v p block : ℕ) → IsKept (story_of w) v
    → p < tiles w.base
    → get_or w.words (map_at w.base (slot_of w.base (story_of w) v) p) 0 ≡ block
    → true ≡ is_mapped (blocks_of_state w) v block
unfolding is_mapped
is_mapped_found w whole v p block is_kept inside is =
    grind (arith, IsTidy-legal, list_any_at, eq-eqb)

-- a reader that holds a version and looks at a row of a mapped block gets the row's word
pub look_tile_does : (w : State) (r b i v word : ℕ) (held : Option ℕ)
    → held ≡ hold_of (slice_get w.readers r) → held ≡ Some v
    → (is_mapped (blocks_of_state w) v b && nat_lt i 64) ≡ true
    → word ≡ get_or w.words (tile_at w.base b i) 0
    → does w (LookTile r b i) ≡ Some record { state = w; answer = says.Word word; stored = None }
unfolding does look_tile
look_tile_does w r b i v word held is some test word_is = search (rules, nat_tests)

-- the reply of a paint or a stamp by the ledger is its reply by the story
pub reply_draw : (k : Base) (s : Story) (l : Ledger) (c : Command) (scanned : List ℕ) (changed : ℕ)
    (reply : Reply) → IsLedger k s l → IsDraw c → reply ≡ Painted (l.places + 1) changed
    → changed ≡ cells_changed s.draft c
    → reply ≡ reply_of s c scanned
unfolding reply_of
reply_draw k s l c scanned changed reply is draws said count = search rules

-- a list of the same length that is written where another was lent out is read back whole
pub written_back : {A : Type 0} (n : ℕ) (own now rest : List A) → n ≡ length own
    → length now ≡ length own → take n (now ++ rest) ≡ now
written_back {A} n own now rest long same = search (rules, take-append_seam)
