-- The words that proofs speak in, from where they are defined.
pub use Rattle.bits.proofs.CellsLemmas.{IsBitmap-cells_where, cells_where-has, cells_where-same}
pub use Rattle.bits.specs.Cells.{Cells, IsBitmap, cells_where}
unfoldable pub use Rattle.bits.specs.Cells.{has}
unfoldable pub use Rattle.bits.specs.Changes.{changes}
pub use Rattle.bits.specs.Tiles.{tile_count}
unfoldable pub use Rattle.bits.specs.Tiles.{row_word}
pub use Rattle.bits.specs.Words.{words_across}
pub use Rattle.events.specs.Blocks.{Blocks, blocks_after, blocks_of, drawn_blocks, given_back}
pub use Rattle.events.specs.Blocks.{is_used, mapped, own_after, own_list, replaced}
unfoldable pub use Rattle.events.specs.Blocks.{directory_of, is_mapped, moved, opened_blocks}
pub use Rattle.events.specs.Drawing.{IsDraw, cells_changed, differing, draws, is_inside}
unfoldable pub use Rattle.events.specs.Drawing.{drawn, tile_differs, touched}
pub use Rattle.events.specs.Kept.{IsApart, IsIn, IsPartOfKept, announcements, asks, first_free}
pub use Rattle.events.specs.Kept.{first_kept, is_stay, kept_after, least_kept, members}
pub use Rattle.events.specs.Kept.{slot_after, slots_after, with_version}
pub use Rattle.events.specs.Ledger.{HasPlace, IsBalanced, IsLedger}
unfoldable pub use Rattle.events.specs.Ledger.{refused_by_ledger}
pub use Rattle.events.specs.Legal.{IsAnswer, IsLegal, IsLegalFrom, after, after_draw}
pub use Rattle.events.specs.Legal.{are_places_used, is_log_full, kept_told, refused_blocks}
unfoldable pub use Rattle.events.specs.Legal.{needed, refused, told}
pub use Rattle.events.specs.Runs.{AreOpeningWords, IsRun, SafeStep}
pub use Rattle.events.specs.Safe.{IsBeginning, times}
unfoldable pub use Rattle.events.specs.Setting.{bad_field}
pub use Rattle.events.specs.Sound.{InHand, IsSeenKept, IsWhole, KeeperSound, ReaderSound, Shows}
pub use Rattle.events.specs.Steps.{Outcome, Write, commit, confirm_held, entry_of, hold_of}
pub use Rattle.events.specs.Steps.{next_hold, ordered, own_positions, step_before, tile_steps}
pub use Rattle.events.specs.Steps.{to_confirm, with_reader, with_word_stored, write_of}
unfoldable pub use Rattle.events.specs.Steps.{announce, confirm, does, keep, kept_scanned, leave}
unfoldable pub use Rattle.events.specs.Steps.{load, look_map, look_tile, map_write, order}
unfoldable pub use Rattle.events.specs.Steps.{reply_of, steps_before, tile_write}
pub use Rattle.events.specs.Story.{Story, came, changed_before, either, new_ones, no_bitmap}
pub use Rattle.events.specs.Story.{trues, with_kept}
unfoldable pub use Rattle.events.specs.Story.{IsKept, bitmap_of, inuse, kept, kept_log, newest}
unfoldable pub use Rattle.events.specs.Story.{opened}
pub use Rattle.events.specs.Summary.{IsSummary, Summary, came_after, came_with, retired_by}
pub use Rattle.events.specs.Tidy.{AreSlots, HasNewest, IsAmongRetired, IsBlockAt, IsOfMap}
pub use Rattle.events.specs.Tidy.{IsReady, IsRetired, IsShaped, IsTidy}
pub use Rattle.events.specs.Views.{Hand, Keeper, Reader, State, blocks_of_state, newest_seen}
pub use Rattle.events.specs.Views.{story_of}
unfoldable pub use Rattle.events.specs.Views.{blocks, story}
pub use Rattle.events.specs.Words.{Base, now_at, now_word, place_told, tiles, version_told}
unfoldable pub use Rattle.events.specs.Words.{map_at, next_slot, now_of, pin_at, pin_word}
unfoldable pub use Rattle.events.specs.Words.{seen_in, slot_of, tile_at, word_count}
pub use Rattle.events.specs.declared.blocks.RetiredBlock.{RetiredBlock}
pub use Rattle.events.specs.declared.command.Command.{Command}
pub use Rattle.events.specs.declared.command.Command.TheVariants.{Checkpoint, Collect, Paint}
pub use Rattle.events.specs.declared.command.Command.TheVariants.{Publish, Revert, Stamp}
pub use Rattle.events.specs.declared.command.Entry.{Entry}
pub use Rattle.events.specs.declared.command.Reply.{Reply}
pub use Rattle.events.specs.declared.command.Reply.TheVariants.{Collected, Painted, Published}
pub use Rattle.events.specs.declared.command.Reply.TheVariants.{Reverted}
pub use Rattle.events.specs.declared.event.Event.{Event}
pub use Rattle.events.specs.declared.event.Event.TheVariants.{Announce, Confirm, Keep, Leave}
pub use Rattle.events.specs.declared.event.Event.TheVariants.{Load, LookMap, LookTile, Order}
pub use Rattle.events.specs.declared.event.NotEnabled.{NotEnabled}
pub use Rattle.events.specs.declared.event.StepReply.{StepReply}
pub use Rattle.events.specs.declared.kept.Kept.{Kept}
pub use Rattle.events.specs.declared.kept.Seen.{Seen}
pub use Rattle.events.specs.declared.kept.Seen.TheVariants.{Exact, From}
pub use Rattle.events.specs.declared.ledger.Ledger.{Ledger}
pub use Rattle.events.specs.declared.reader.Standing.{Standing}
pub use Rattle.events.specs.declared.setting.Setting.{Setting}
pub use Rattle.metric.specs.declared.refusal.Refusal.{Refusal}
pub use Rattle.metric.specs.declared.refusal.Refusal.TheVariants.{BlocksFull, LogFull, Memory}
pub use Rattle.metric.specs.declared.refusal.Refusal.TheVariants.{OutOfRange, PlacesUsed}
pub use Rattle.metric.specs.declared.refusal.Refusal.TheVariants.{VersionsFull}
pub use Rattle.std.proofs.Common.{Bool, Err, List, None, Ok, Option, Result, Some, [], ap, arith}
pub use Rattle.std.proofs.Common.{cond, drop, false, get_or, if◌then◌else◌, length, map, nat_le}
pub use Rattle.std.proofs.Common.{not, refl, replicate, rules, set, subst, suc, sym, take, true}
pub use Rattle.std.proofs.Common.{zero, ℕ, ◌%◌, ◌&&◌, ◌*◌, ◌++◌, ◌+◌, ◌-◌, ◌/◌, ◌<◌, ◌==◌, ◌^◌}
pub use Rattle.std.proofs.Common.{◌||◌, ◌∙◌, ◌∷◌, ◌≡◌, ◌≢◌, ◌≤◌, ◌⊎◌}
pub use Rattle.std.proofs.Math.Nat.{mul-le-mul_left}
pub use Rattle.std.proofs.Math.Seq.{take-append_seam}
pub use Rattle.std.proofs.lemmas.Bool.{cases_eq, cases_lt, eq-eqb, ne_eqb}
pub use Rattle.std.proofs.lemmas.Bool.Decides.{nat_tests}
pub use Rattle.std.proofs.lemmas.List.{drop_all, drop_more, get_or-replicate, get_or-set_other}
pub use Rattle.std.proofs.lemmas.List.{get_or-set_same, get_or_append_left, get_or_default}
pub use Rattle.std.proofs.lemmas.List.{get_or_push, get_or_read, length-append, length-drop}
pub use Rattle.std.proofs.lemmas.List.{length-map, length-replicate, length-set, take_all}
pub use Rattle.std.proofs.lemmas.List.{take_more}
pub use Rattle.std.proofs.lemmas.List.Folds.{list_any_at}
pub use Rattle.std.proofs.lemmas.List.FromFn.{get_or-map-range_with_len, length-map-range_with_len}
pub use Rattle.std.proofs.lemmas.List.FromFn.{length-range_with_len}
pub use Rattle.std.proofs.lemmas.List.Sums.{sum_by-cons}
pub use Rattle.std.proofs.lemmas.Option.{slice_get_within}
pub use Rattle.std.specs.List.{AllByRecursion, list_any, range_with_len}
pub use Rattle.std.specs.Prelude.{Contains, IfSome, filter, is_none, is_some, nat_lt, slice_get}
pub use Rattle.std.specs.Prelude.{sum_by}
pub use Rattle.std.specs.Vec.{vec_capacity}
pub use Rattle.std.specs.VecDeque.{deque_capacity}
pub use mathlib.Core.Logic.{inl, inr}
