-- The words that proofs speak in, from where they are defined.
pub use Rattle.bits.proofs.CellsLemmas.{IsBitmap-cells_where}
pub use Rattle.bits.specs.Cells.{Cells, IsBitmap, cells_where}
pub use Rattle.bits.specs.Tiles.{tile_count}
unfoldable pub use Rattle.bits.specs.Tiles.{row_word}
pub use Rattle.events.specs.Blocks.{Blocks, is_used, mapped, own_list}
unfoldable pub use Rattle.events.specs.Blocks.{directory_of, is_mapped, moved, opened_blocks}
pub use Rattle.events.specs.Drawing.{IsDraw, cells_changed, differing, draws, is_inside}
unfoldable pub use Rattle.events.specs.Drawing.{drawn, touched}
pub use Rattle.events.specs.Kept.{IsIn, first_free, first_kept, least_kept, members, slots_after}
pub use Rattle.events.specs.Kept.{with_version}
pub use Rattle.events.specs.Ledger.{HasPlace, IsBalanced, IsLedger}
unfoldable pub use Rattle.events.specs.Ledger.{refused_by_ledger}
pub use Rattle.events.specs.Legal.{refused_blocks}
unfoldable pub use Rattle.events.specs.Legal.{needed, refused, told}
pub use Rattle.events.specs.Runs.{AreOpeningWords, IsRun, SafeStep}
pub use Rattle.events.specs.Safe.{IsBeginning}
unfoldable pub use Rattle.events.specs.Setting.{bad_field}
pub use Rattle.events.specs.Sound.{IsWhole}
pub use Rattle.events.specs.Steps.{Outcome, confirm_held, hold_of, ordered, own_positions}
pub use Rattle.events.specs.Steps.{step_before, tile_steps, to_confirm, write_of}
unfoldable pub use Rattle.events.specs.Steps.{announce, confirm, does, keep, kept_scanned, leave}
unfoldable pub use Rattle.events.specs.Steps.{load, look_map, look_tile, map_write, order, reply_of}
unfoldable pub use Rattle.events.specs.Steps.{steps_before, tile_write}
pub use Rattle.events.specs.Story.{Story, came, new_ones, trues, with_kept}
unfoldable pub use Rattle.events.specs.Story.{IsKept, bitmap_of, inuse, kept, newest, opened}
pub use Rattle.events.specs.Summary.{IsSummary, Summary, came_after}
pub use Rattle.events.specs.Tidy.{IsOfMap}
pub use Rattle.events.specs.Views.{Hand, Reader, State, blocks_of_state, story_of}
unfoldable pub use Rattle.events.specs.Views.{blocks, story}
pub use Rattle.events.specs.Words.{Base, now_at, place_told, tiles, version_told}
unfoldable pub use Rattle.events.specs.Words.{map_at, next_slot, now_of, pin_at, pin_word, seen_in}
unfoldable pub use Rattle.events.specs.Words.{slot_of, tile_at, word_count}
pub use Rattle.events.specs.declared.blocks.RetiredBlock.{RetiredBlock}
pub use Rattle.events.specs.declared.command.Command.{Command}
pub use Rattle.events.specs.declared.command.Command.TheVariants.{Checkpoint, Collect, Paint}
pub use Rattle.events.specs.declared.command.Command.TheVariants.{Publish, Revert, Stamp}
pub use Rattle.events.specs.declared.command.Entry.{Entry}
pub use Rattle.events.specs.declared.command.Reply.{Reply}
pub use Rattle.events.specs.declared.command.Reply.TheVariants.{Collected, Published, Reverted}
pub use Rattle.events.specs.declared.event.Event.{Event}
pub use Rattle.events.specs.declared.event.Event.TheVariants.{Announce, Confirm, Keep, Leave, Load}
pub use Rattle.events.specs.declared.event.Event.TheVariants.{LookMap, LookTile, Order}
pub use Rattle.events.specs.declared.event.NotEnabled.{NotEnabled}
pub use Rattle.events.specs.declared.event.StepReply.{StepReply}
pub use Rattle.events.specs.declared.kept.Kept.{Kept}
pub use Rattle.events.specs.declared.kept.Seen.TheVariants.{Exact, From}
pub use Rattle.events.specs.declared.ledger.Ledger.{Ledger}
pub use Rattle.events.specs.declared.reader.Standing.{Standing}
pub use Rattle.events.specs.declared.setting.Setting.{Setting}
pub use Rattle.metric.specs.declared.refusal.Refusal.{Refusal}
pub use Rattle.metric.specs.declared.refusal.Refusal.TheVariants.{BlocksFull, Memory}
pub use Rattle.std.proofs.Common.{Bool, Err, List, None, Ok, Option, Result, Some, [], ap, arith}
pub use Rattle.std.proofs.Common.{drop, false, get_or, length, map, refl, replicate, rules, set}
pub use Rattle.std.proofs.Common.{if◌then◌else◌}
pub use Rattle.std.proofs.Common.{subst, suc, sym, take, true, zero, ℕ, ◌%◌, ◌&&◌, ◌*◌, ◌++◌, ◌+◌}
pub use Rattle.std.proofs.Common.{◌-◌, ◌/◌, ◌<◌, ◌==◌, ◌^◌, ◌∙◌, ◌∷◌, ◌≡◌, ◌≤◌}
pub use Rattle.std.proofs.Math.Nat.{mul-le-mul_left}
pub use Rattle.std.proofs.lemmas.Bool.{ne_eqb}
pub use Rattle.std.proofs.lemmas.Bool.Decides.{nat_tests}
pub use Rattle.std.proofs.lemmas.List.{get_or-replicate, get_or_default, get_or_read, length-append}
pub use Rattle.std.proofs.lemmas.List.{length-drop, length-map, length-replicate, take_all}
pub use Rattle.std.proofs.lemmas.List.FromFn.{length-range_with_len}
pub use Rattle.std.proofs.lemmas.Option.{slice_get_within}
pub use Rattle.std.specs.List.{range_with_len}
pub use Rattle.std.specs.Prelude.{IfSome, filter, is_none, is_some, nat_lt, slice_get}
pub use Rattle.std.specs.Vec.{vec_capacity}
pub use Rattle.std.specs.VecDeque.{deque_capacity}
pub use mathlib.Core.Logic.{inl, inr}
pub use Rattle.map_core.specs.Consistent.{IsConsistent, IsDrawing, IsLastOf, IsStanding, Room}
pub use Rattle.map_core.specs.Consistent.{IsStepOf, hand_of, reader_of, state_of}
