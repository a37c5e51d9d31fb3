-- Worked rows that the definitions are run on: each is computed.
use Rattle.events.proofs.Names.{◌≡◌, ℕ, ◌+◌, ◌*◌, ◌-◌, ◌<◌, ◌≤◌, true, false, List, [], ◌∷◌, ◌++◌}
use Rattle.events.proofs.Names.{length, replicate, refl, arith, Option, Some, None, has, changes}
use Rattle.events.proofs.Names.{range_with_len, cells_where, row_word, Refusal, OutOfRange}
use Rattle.events.proofs.Names.{BlocksFull, VersionsFull, LogFull, first_kept, drawn, tile_differs}
use Rattle.events.proofs.Names.{touched, opened, kept_log, newest, bitmap_of, kept, inuse, needed}
use Rattle.events.proofs.Names.{refused, told, opened_blocks, directory_of, is_mapped, moved, Base}
use Rattle.events.proofs.Names.{tiles, word_count, pin_at, map_at, tile_at, now_of, pin_word}
use Rattle.events.proofs.Names.{seen_in, slot_of, next_slot, State, story, blocks, does, announce}
use Rattle.events.proofs.Names.{load, look_map, look_tile, leave, keep, order, steps_before}
use Rattle.events.proofs.Names.{confirm, tile_write, map_write, kept_scanned, reply_of}
use Rattle.events.specs.declared.command.Command.{Command}
use Rattle.events.specs.declared.command.Command.TheVariants.{Collect, Paint, Publish, Revert}
use Rattle.events.specs.declared.command.Reply.{Reply}
use Rattle.events.specs.declared.command.Reply.TheVariants.{Collected, Painted, Published, Reverted}
use Rattle.events.specs.declared.event.Event.{Event}
use Rattle.events.specs.declared.event.Event.TheVariants.{Announce, Confirm, Keep, Leave, Load}
use Rattle.events.specs.declared.event.Event.TheVariants.{LookMap, LookTile, Order}
use Rattle.events.specs.declared.event.StepReply.{StepReply}
use Rattle.events.specs.declared.kept.Kept.{Kept}
use Rattle.events.specs.declared.setting.Setting.{Setting}
use Rattle.bits.specs.Cells.{rows_where}
use Rattle.bits.specs.Tiles.{word_where}
use Rattle.metric.specs.declared.edge.Edge.TheVariants.{Open}
use Rattle.events.specs.declared.event.StepReply.TheVariants as says

-- the events answer this, one after another; none where one isn't enabled
answers_of : State → List Event → List (Option StepReply)
answers_of w [] = []
answers_of w (e ∷ es) =
    elim (does w e) [
      | None ↦ None ∷ answers_of w es
      | Some o ↦ Some o.answer ∷ answers_of o.state es
    ]

-- a world of a blank map is opened so
blank_world : ℕ → ℕ → Setting → State
blank_world width height g =
    let k : Base = record { setting = g; opening = cells_where width height (λ x y. false) } in
    record {
      base = k;
      words = replicate (8 + 8 * g.sessions) 0 ++ range_with_len 0 (tiles k)
          ++ replicate ((g.versions - 1) * tiles k + 64 * g.blocks) 0;
      keeper = record { log = []; hand = None };
      readers = replicate g.sessions record { seen = []; announced = None; holds = None };
    }

-- the last of some events answers this, and leaves this state
last_of : State → List Event → Option StepReply → Option StepReply × State
last_of w [] answer = (answer, w)
last_of w (e ∷ es) answer =
    elim (does w e) [ None ↦ last_of w es None | Some o ↦ last_of o.state es (Some o.answer) ]

-- the last event of each group answers this
last_answers : State → List (List Event) → List (Option StepReply)
last_answers w [] = []
last_answers w (es ∷ groups) = (last_of w es None).0 ∷ last_answers (last_of w es None).1 groups

-- these events give a command and take this many steps of it
whole : Command → ℕ → List Event
whole c n = Order c ∷ replicate n Keep

-- a reader pins: it loads, announces, and loads again
pin : ℕ → List Event
pin r = Load r ∷ Announce r ∷ Load r ∷ []

-- this paint makes the cells of a rectangle obstacles
paint : (x0 y0 x1 y1 : ℕ) → x0 < x1 → y0 < y1 → x1 ≤ 4096 → y1 ≤ 4096 → Command
paint x0 y0 x1 y1 a b c d =
    Paint record {
      x0 = x0;
      y0 = y0;
      x1 = x1;
      y1 = y1;
      has_cells = record { columns = a; rows = b; right = c; bottom = d };
    } true

-- this paint makes the cell (x, 0) an obstacle
dot : (x : ℕ) → x < 4096 → Command
dot x h = paint x 0 (x + 1) 1 (omega arith) (omega arith) (omega arith) (omega arith)

-- a reader pins exactly: it announces besides what it holds
pin_exactly : ℕ → List Event
pin_exactly r = Load r ∷ Announce r ∷ Load r ∷ Confirm r ∷ []

-- a slot has 0 where it has no version, and else the version plus 1
slots_of : List ℕ → Kept
slots_of slots = record { slots = slots ++ replicate (64 - length slots) 0 }

-- a command that was accepted is answered by its reply
done : Reply → Option StepReply
done reply = Some (says.Committed reply)

-- a command that was refused is answered by its refusal
no : Refusal → Option StepReply
no refusal = Some (says.Refused refusal)

-- the dangerous interleaving: a scan passes, the reader announces, the collect commits, and the
-- reader's load decides
a_scan_before_an_announcement : answers_of
    (blank_world 64 64 record { blocks = 3; versions = 2; sessions = 1; log = 10; edge = Open })
    (whole (dot 0 (omega arith)) 1 ++ whole Publish 66
    ++ (Order Collect ∷ Keep ∷ Announce 0 ∷ Keep ∷ Announce 0 ∷ Load 0 ∷ LookMap 0 0
    ∷ LookTile 0 1 0 ∷ LookTile 0 0 0 ∷ Leave 0 ∷ []))
    ≡ (Some (says.Ordered 1) ∷ done (Painted 1 1) ∷ Some (says.Ordered 66) ∷ [])
    ++ replicate 65 (Some says.Written)
    ++ (done (Published 2 1) ∷ Some (says.Ordered 2) ∷ Some (says.Scanned 0 0)
    ∷ Some (says.Announced 0)
    ∷ done (Collected 3 1 1 (slots_of (0 ∷ 2 ∷ []))) ∷ None ∷ Some (says.Now 3 1)
    ∷ Some (says.Block 1) ∷ Some (says.Word 1) ∷ None ∷ Some says.Left ∷ [])
unfolding has rows_where changes word_where row_word drawn tile_differs touched opened kept_log
    newest bitmap_of kept inuse needed refused told opened_blocks directory_of is_mapped moved
    word_count pin_at map_at tile_at now_of pin_word slot_of next_slot story blocks does announce
    load look_map look_tile leave keep order confirm steps_before tile_write map_write kept_scanned
    seen_in reply_of answers_of blank_world last_of last_answers whole pin pin_exactly slots_of
    paint dot done no
a_scan_before_an_announcement = refl

-- a pin keeps version 0 at a collect, so versions are full until the pin leaves and another collect
-- is done
pins_beside_a_painter : last_answers
    (blank_world 64 64 record { blocks = 3; versions = 2; sessions = 3; log = 10; edge = Open })
    (pin 0 ∷ whole (dot 0 (omega arith)) 1 ∷ whole Publish 66 ∷ (LookMap 0 0 ∷ []) ∷ pin 2
    ∷ (LookMap 2 0 ∷ []) ∷ (LookTile 2 1 0 ∷ [])
    ∷ whole Collect 4 ∷ (Order Publish ∷ []) ∷ (Leave 0 ∷ []) ∷ whole Collect 4 ∷ whole Publish 2
    ∷ (LookMap 2 0 ∷ []) ∷ (LookTile 2 1 0 ∷ []) ∷ [])
    ≡ Some (says.Now 0 0) ∷ done (Painted 1 1) ∷ done (Published 2 1) ∷ Some (says.Block 0)
    ∷ Some (says.Now 2 1) ∷ Some (says.Block 1) ∷ Some (says.Word 1)
    ∷ done (Collected 3 0 0 (slots_of (1 ∷ 2 ∷ []))) ∷ no VersionsFull ∷ Some says.Left
    ∷ done (Collected 4 1 1 (slots_of (0 ∷ 2 ∷ []))) ∷ done (Published 5 2) ∷ Some (says.Block 1)
    ∷ Some (says.Word 1) ∷ []
unfolding has rows_where changes word_where row_word drawn tile_differs touched opened kept_log
    newest bitmap_of kept inuse needed refused told opened_blocks directory_of is_mapped moved
    word_count pin_at map_at tile_at now_of pin_word slot_of next_slot story blocks does announce
    load look_map look_tile leave keep order confirm steps_before tile_write map_write kept_scanned
    seen_in reply_of answers_of blank_world last_of last_answers whole pin pin_exactly slots_of
    paint dot done no
pins_beside_a_painter = refl

-- a paint finds no free block until a collect
a_collect_frees_a_block : last_answers
    (blank_world 64 64 record { blocks = 2; versions = 2; sessions = 4; log = 100000; edge = Open })
    (whole (dot 0 (omega arith)) 1 ∷ whole Publish 66 ∷ (Order (dot 1 (omega arith)) ∷ [])
    ∷ whole Collect 5 ∷ whole (dot 1 (omega arith)) 1 ∷ [])
    ≡ done (Painted 1 1) ∷ done (Published 2 1) ∷ no (BlocksFull 1 0)
    ∷ done (Collected 3 1 1 (slots_of (0 ∷ 2 ∷ []))) ∷ done (Painted 4 1) ∷ []
unfolding has rows_where changes word_where row_word drawn tile_differs touched opened kept_log
    newest bitmap_of kept inuse needed refused told opened_blocks directory_of is_mapped moved
    word_count pin_at map_at tile_at now_of pin_word slot_of next_slot story blocks does announce
    load look_map look_tile leave keep order confirm steps_before tile_write map_write kept_scanned
    seen_in reply_of answers_of blank_world last_of last_answers whole pin pin_exactly slots_of
    paint dot done no
a_collect_frees_a_block = refl

-- a clear that changes nothing needs no block; an area past the edge is refused
a_clear_of_free_cells : last_answers
    (blank_world 64 64 record { blocks = 1; versions = 2; sessions = 1; log = 10; edge = Open })
    (whole (Paint record {
      x0 = 0;
      y0 = 0;
      x1 = 64;
      y1 = 64;
      has_cells = record {
        columns = omega arith;
        rows = omega arith;
        right = omega arith;
        bottom = omega arith;
      };
    } false) 1
    ∷ (Order (paint 63 63 65 64 (omega arith) (omega arith) (omega arith) (omega arith)) ∷ []) ∷ [])
    ≡ done (Painted 1 0) ∷ no OutOfRange ∷ []
unfolding has rows_where changes word_where row_word drawn tile_differs touched opened kept_log
    newest bitmap_of kept inuse needed refused told opened_blocks directory_of is_mapped moved
    word_count pin_at map_at tile_at now_of pin_word slot_of next_slot story blocks does announce
    load look_map look_tile leave keep order confirm steps_before tile_write map_write kept_scanned
    seen_in reply_of answers_of blank_world last_of last_answers whole pin pin_exactly slots_of
    paint dot done no
a_clear_of_free_cells = refl

-- two tiles and one free block: what is needed is counted by position, and a revert gives the block
-- back
blocks_by_position : last_answers
    (blank_world 128 1 record { blocks = 3; versions = 2; sessions = 1; log = 10; edge = Open })
    ((Order (paint 0 0 128 1 (omega arith) (omega arith) (omega arith) (omega arith)) ∷ [])
    ∷ whole (dot 0 (omega arith)) 1
    ∷ whole (paint 0 0 2 1 (omega arith) (omega arith) (omega arith) (omega arith)) 1
    ∷ (Order (dot 64 (omega arith)) ∷ []) ∷ whole Revert 1 ∷ whole (dot 64 (omega arith)) 1 ∷ [])
    ≡ no (BlocksFull 2 1) ∷ done (Painted 1 1) ∷ done (Painted 2 1) ∷ no (BlocksFull 1 0)
    ∷ done (Reverted 3) ∷ done (Painted 4 1) ∷ []
unfolding has rows_where changes word_where row_word drawn tile_differs touched opened kept_log
    newest bitmap_of kept inuse needed refused told opened_blocks directory_of is_mapped moved
    word_count pin_at map_at tile_at now_of pin_word slot_of next_slot story blocks does announce
    load look_map look_tile leave keep order confirm steps_before tile_write map_write kept_scanned
    seen_in reply_of answers_of blank_world last_of last_answers whole pin pin_exactly slots_of
    paint dot done no
blocks_by_position = refl

-- a log that is full refuses a paint whose area is good, and judges the area first
a_full_log : last_answers
    (blank_world 64 64 record { blocks = 3; versions = 2; sessions = 2; log = 2; edge = Open })
    (whole (dot 0 (omega arith)) 1 ∷ whole Publish 66 ∷ (Order (dot 1 (omega arith)) ∷ [])
    ∷ (Order (dot 64 (omega arith)) ∷ []) ∷ pin 1 ∷ [])
    ≡ done (Painted 1 1) ∷ done (Published 2 1) ∷ no LogFull ∷ no OutOfRange
    ∷ Some (says.Now 2 1) ∷ []
unfolding has rows_where changes word_where row_word drawn tile_differs touched opened kept_log
    newest bitmap_of kept inuse needed refused told opened_blocks directory_of is_mapped moved
    word_count pin_at map_at tile_at now_of pin_word slot_of next_slot story blocks does announce
    load look_map look_tile leave keep order confirm steps_before tile_write map_write kept_scanned
    seen_in reply_of answers_of blank_world last_of last_answers whole pin pin_exactly slots_of
    paint dot done no
a_full_log = refl

-- these events are enabled, and those with no answer aren't, in a world where nothing has changed
what_is_enabled : answers_of
    (blank_world 64 64 record { blocks = 3; versions = 2; sessions = 1; log = 10; edge = Open })
    (Load 0 ∷ LookMap 0 0 ∷ Announce 0 ∷ Order
    (paint 0 0 65 1 (omega arith) (omega arith) (omega arith) (omega arith)) ∷ Order Collect
    ∷ Order Revert ∷ Keep ∷ Keep ∷ Keep
    ∷ Load 0 ∷ LookMap 0 0 ∷ LookMap 0 1 ∷ Load 1 ∷ LookTile 0 0 64 ∷ Leave 0 ∷ Leave 0 ∷ [])
    ≡ Some (says.Now 0 0) ∷ None ∷ Some (says.Announced 0) ∷ no OutOfRange ∷ Some (says.Ordered 2)
    ∷ None ∷ Some (says.Scanned 0 1) ∷ done (Collected 1 0 0 first_kept) ∷ None
    ∷ Some (says.Now 1 0) ∷ Some (says.Block 0) ∷ None ∷ None ∷ None ∷ Some says.Left ∷ None ∷ []
unfolding has rows_where changes word_where row_word drawn tile_differs touched opened kept_log
    newest bitmap_of kept inuse needed refused told opened_blocks directory_of is_mapped moved
    word_count pin_at map_at tile_at now_of pin_word slot_of next_slot story blocks does announce
    load look_map look_tile leave keep order confirm steps_before tile_write map_write kept_scanned
    seen_in reply_of answers_of blank_world last_of last_answers whole pin pin_exactly slots_of
    paint dot done no
what_is_enabled = refl

-- an exact announcement can be made once for a hold, and a scan sees it
an_exact_announcement : answers_of
    (blank_world 64 64 record { blocks = 3; versions = 3; sessions = 1; log = 10; edge = Open })
    (Load 0 ∷ Announce 0 ∷ Load 0 ∷ Confirm 0 ∷ Confirm 0 ∷ Order Collect ∷ Keep ∷ Keep ∷ [])
    ≡ Some (says.Now 0 0) ∷ Some (says.Announced 0) ∷ Some (says.Now 0 0) ∷ Some (says.Confirmed 0)
    ∷ None ∷ Some (says.Ordered 2) ∷ Some (says.Scanned 0 2)
    ∷ done (Collected 1 0 0 first_kept) ∷ []
unfolding has rows_where changes word_where row_word drawn tile_differs touched opened kept_log
    newest bitmap_of kept inuse needed refused told opened_blocks directory_of is_mapped moved
    word_count pin_at map_at tile_at now_of pin_word slot_of next_slot story blocks does announce
    load look_map look_tile leave keep order confirm steps_before tile_write map_write kept_scanned
    seen_in reply_of answers_of blank_world last_of last_answers whole pin pin_exactly slots_of
    paint dot done no
an_exact_announcement = refl

-- an old pin keeps its own version alone: the one after it goes, its block is taken again, and its
-- slot is the next version's
an_old_pin : last_answers
    (blank_world 64 64 record { blocks = 3; versions = 3; sessions = 2; log = 10; edge = Open })
    (pin_exactly 0 ∷ whole (dot 0 (omega arith)) 1 ∷ whole Publish 66
    ∷ whole (dot 1 (omega arith)) 1 ∷ whole Publish 66
    ∷ (Order (dot 2 (omega arith)) ∷ []) ∷ (Order Publish ∷ []) ∷ whole Collect 3
    ∷ whole (dot 2 (omega arith)) 1 ∷ whole Publish 66 ∷ (LookMap 0 0 ∷ []) ∷ (LookTile 0 0 0 ∷ [])
    ∷ pin 1 ∷ (LookMap 1 0 ∷ []) ∷ [])
    ≡ Some (says.Confirmed 0) ∷ done (Painted 1 1) ∷ done (Published 2 1) ∷ done (Painted 3 1)
    ∷ done (Published 4 2)
    ∷ no (BlocksFull 1 0) ∷ no VersionsFull ∷ done (Collected 5 0 1 (slots_of (1 ∷ 0 ∷ 3 ∷ [])))
    ∷ done (Painted 6 1) ∷ done (Published 7 3) ∷ Some (says.Block 0) ∷ Some (says.Word 0)
    ∷ Some (says.Now 7 3) ∷ Some (says.Block 1) ∷ []
unfolding has rows_where changes word_where row_word drawn tile_differs touched opened kept_log
    newest bitmap_of kept inuse needed refused told opened_blocks directory_of is_mapped moved
    word_count pin_at map_at tile_at now_of pin_word slot_of next_slot story blocks does announce
    load look_map look_tile leave keep order confirm steps_before tile_write map_write kept_scanned
    seen_in reply_of answers_of blank_world last_of last_answers whole pin pin_exactly slots_of
    paint dot done no
an_old_pin = refl
