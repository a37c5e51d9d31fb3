-- The words that proofs speak in, from where they are defined.
pub use Rattle.arena.specs.Blocks.{Home}
pub use Rattle.bits.specs.Cells.{Cells, IsBitmap}
pub use Rattle.desk.specs.Carries.{CanCarry, IsCarried, IsInHand, IsWorked, KeepsScanned, signed}
pub use Rattle.desk.specs.Carries.{task_of, with_task}
pub use Rattle.desk.specs.Desks.{DeskView, IsAccepted, IsApplied, IsByScan, IsCommandRefused}
pub use Rattle.desk.specs.Desks.{IsDesk, IsSteady, IsWhy, base_place, entries_kept_after, kept_part}
pub use Rattle.desk.specs.Desks.{story_told}
pub use Rattle.desk.specs.Holdings.{CanAnswer, Does, Holds, IsOneStep, IsToldByLog, Judges, Refuses}
pub use Rattle.desk.specs.Holdings.{summary_of}
pub use Rattle.desk.specs.Judging.{IsJudged}
pub use Rattle.desk.specs.declared.holding.Holding.{Holding}
pub use Rattle.desk.specs.declared.holding.judged.Judged.{Judged}
pub use Rattle.grid.specs.Grids.{Draws, OldPiece, Reverts, Seals, Sweeps, Tiled, draft, needed_by}
pub use Rattle.grid.specs.Grids.{newest_blocks, own_blocks, refused_by, retired_blocks, retired_of}
unfoldable pub use Rattle.grid.specs.Grids.{bitmap_at}
pub use Rattle.grid.specs.Pieces.{block_if}
pub use Rattle.events.proofs.accounts.FreedLemmas.{freed_is, reply_is_answer}
pub use Rattle.events.proofs.invariants.TidyLog.{IsLegal-push, IsTidy-legal, slots_apart}
pub use Rattle.events.proofs.logs.LedgerLemmas.{balanced, inside_told, ledger_checkpoint}
pub use Rattle.events.proofs.logs.LedgerLemmas.{ledger_collect, ledger_draw, ledger_publish}
pub use Rattle.events.proofs.logs.LedgerLemmas.{ledger_revert, place_of_ledger, refused_first}
pub use Rattle.events.proofs.logs.LedgerLemmas.{refused_for_none, refused_next, told_draw}
pub use Rattle.events.proofs.logs.Replies.{HasKept, the_reply}
pub use Rattle.events.proofs.shared_words.PublishWords.{own_few, own_more}
pub use Rattle.events.proofs.steps.OpenWorld.{bad_field-none, fits_ready}
pub use Rattle.events.proofs.steps.StepLemmas.{blocks-push, story-push}
pub use Rattle.events.specs.Blocks.{Blocks, drawn_blocks, is_used, mapped, own_after, own_list}
unfoldable pub use Rattle.events.specs.Blocks.{directory_of, moved, opened_blocks}
pub use Rattle.events.specs.Drawing.{IsDraw}
pub use Rattle.events.specs.Kept.{IsIn, IsPartOfKept, announcements, first_free, first_kept}
pub use Rattle.events.specs.Kept.{kept_after, least_kept, members, with_version}
pub use Rattle.events.specs.Ledger.{IsBalanced, IsLedger, has_no_place, has_no_room, has_no_slot}
pub use Rattle.events.specs.Ledger.{refused_draw_blocks, takes_room}
unfoldable pub use Rattle.events.specs.Ledger.{refused_by_ledger}
pub use Rattle.events.specs.Legal.{IsAnswer, IsLegal, after_draw, are_places_used, kept_told}
pub use Rattle.events.specs.Legal.{refused_blocks}
unfoldable pub use Rattle.events.specs.Legal.{needed, refused, told}
unfoldable pub use Rattle.events.specs.Steps.{kept_scanned, steps_before}
pub use Rattle.events.specs.Story.{Story, inuse, new_ones, trues, with_kept}
unfoldable pub use Rattle.events.specs.Story.{IsKept, bitmap_of, kept, newest, opened}
pub use Rattle.events.specs.Summary.{IsSummary, Summary, came_after, retired_by}
pub use Rattle.events.specs.Tidy.{IsTidy}
unfoldable pub use Rattle.events.specs.Views.{blocks, story}
pub use Rattle.events.specs.Words.{Base, pin_word, seen_in, tiles}
unfoldable pub use Rattle.events.specs.Words.{next_slot, slot_of}
pub use Rattle.events.specs.declared.command.Command.{Command}
pub use Rattle.events.specs.declared.command.Command.TheVariants.{Checkpoint, Collect, Paint}
pub use Rattle.events.specs.declared.command.Command.TheVariants.{Publish, Revert, Stamp}
pub use Rattle.events.specs.declared.command.Entry.{Entry}
pub use Rattle.events.specs.declared.command.Reply.{Reply}
pub use Rattle.events.specs.declared.command.Reply.TheVariants.{Checkpointed, Collected, Painted}
pub use Rattle.events.specs.declared.command.Reply.TheVariants.{Published, Reverted}
pub use Rattle.events.specs.declared.kept.Kept.{Kept}
pub use Rattle.events.specs.declared.kept.Seen.{Seen}
pub use Rattle.events.specs.declared.ledger.Ledger.{Ledger}
pub use Rattle.events.specs.declared.setting.Setting.{Setting}
pub use Rattle.metric.specs.declared.refusal.Refusal.{Refusal}
pub use Rattle.metric.specs.declared.refusal.Refusal.TheVariants.{BlocksFull, LogFull, Memory}
pub use Rattle.metric.specs.declared.refusal.Refusal.TheVariants.{OutOfRange, PlacesUsed}
pub use Rattle.metric.specs.declared.refusal.Refusal.TheVariants.{VersionsFull}
pub use Rattle.shelf.proofs.logs.LogParts.{entries-push, length-entries, prefix-push}
pub use Rattle.shelf.proofs.steps.WriteSteps.{is_own, next_position, next_row}
pub use Rattle.shelf.specs.Roles.{KeeperView, ReaderView, Task, entries, resting, unmet_by}
pub use Rattle.shelf.specs.Steps.{IsOwn, MayCommit, committed, met, met_by, newest_slot, one_own}
pub use Rattle.shelf.specs.Steps.{scanning, with_command, writing}
pub use Rattle.shelf.specs.Store.{StoreId, readers_of}
pub use Rattle.shelf.specs.declared.store_entry.StoreEntry.{StoreEntry}
pub use Rattle.std.proofs.Common.{Bool, List, [], add-zero, ap, arith, cond, drop, false, get_or}
pub use Rattle.std.proofs.Common.{if◌then◌else◌, length, map, refl, replicate, rules, set, subst}
pub use Rattle.std.proofs.Common.{suc, sym, take, true, ℕ, ◌&&◌, ◌*◌, ◌++◌, ◌+◌, ◌-◌, ◌<◌, ◌==◌}
pub use Rattle.std.proofs.Common.{◌^◌, ◌∙◌, ◌∷◌, ◌≡◌, ◌≤◌}
pub use Rattle.std.proofs.lemmas.Bool.Decides.{nat_tests}
pub use Rattle.std.proofs.lemmas.List.{drop-append-le, drop_all, get_or-replicate, length-append}
pub use Rattle.std.proofs.lemmas.List.{length-map, length-replicate, length-set, length-take}
pub use Rattle.std.proofs.lemmas.List.{map-append, take_all, take_more_set}
pub use Rattle.std.proofs.lemmas.Result.{err_from_is_err_and}
pub use Rattle.std.specs.Prelude.{Contains, Err, None, Ok, Option, Some, filter, is_some, nat_le}
pub use Rattle.std.specs.Prelude.{nat_lt, ◌⊎◌}
pub use mathlib.Core.Logic.{inl, inr}
