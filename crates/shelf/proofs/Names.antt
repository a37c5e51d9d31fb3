-- The words that proofs speak in, from where they are defined.
pub use Rattle.atomic_table.proofs.Lists.{set_again, set_else}
pub use Rattle.atomic_table.specs.Seated.{TableId}
pub use Rattle.atomic_table.specs.Table.{Allows, Joins, Me, Splits, State, keeps, step}
pub use Rattle.bits.specs.Tiles.{row_word}
pub use Rattle.events.proofs.accounts.SpareLemmas.{slot-within}
pub use Rattle.events.proofs.invariants.SoundReader.{version_of_now}
pub use Rattle.events.proofs.invariants.TidyLog.{IsTidy-legal}
pub use Rattle.events.proofs.logs.LogLemmas.{places_are}
pub use Rattle.events.proofs.shared_words.PlaceLemmas.{map-within, now-within, pin-within}
pub use Rattle.events.proofs.shared_words.PlaceLemmas.{tile-within}
pub use Rattle.events.proofs.steps.StepLemmas.{story-push}
pub use Rattle.events.specs.Blocks.{directory_of}
pub use Rattle.events.specs.Legal.{IsLegal, refused}
pub use Rattle.events.specs.Runs.{AreOpeningWords, fresh_reader}
pub use Rattle.events.specs.Safe.{times}
pub use Rattle.events.specs.Sound.{IsWhole}
pub use Rattle.events.specs.Steps.{write_of}
unfoldable pub use Rattle.events.specs.Steps.{steps_before}
pub use Rattle.events.specs.Story.{bitmap_of}
unfoldable pub use Rattle.events.specs.Story.{newest, opened}
pub use Rattle.events.specs.Tidy.{IsReady}
pub use Rattle.events.specs.Views.{Reader, blocks}
unfoldable pub use Rattle.events.specs.Views.{story}
pub use Rattle.events.specs.Words.{Base, map_at, now_at, now_word, pin_at, place_told, tile_at}
pub use Rattle.events.specs.Words.{tiles, version_told}
unfoldable pub use Rattle.events.specs.Words.{now_of, pin_word, slot_of}
pub use Rattle.events.specs.declared.command.Command.TheVariants.{Collect, Publish}
pub use Rattle.events.specs.declared.event.Event.{Event}
pub use Rattle.events.specs.declared.event.StepReply.{StepReply}
pub use Rattle.events.specs.declared.kept.Seen.{Seen}
pub use Rattle.events.specs.declared.kept.Seen.TheVariants.{Exact, From}
pub use Rattle.shelf.specs.Laws.{IsEvent, IsNoEvent, with_views}
pub use Rattle.shelf.specs.Open.{Newcomer, newcomer, newcomers}
pub use Rattle.shelf.specs.Roles.{KeeperView, ReaderView, Role, Task, as_keeper, as_reader, core_of}
pub use Rattle.shelf.specs.Roles.{entries, idle, keeper_in, keeping, learning, made_by, meeting}
pub use Rattle.shelf.specs.Roles.{reader_in, reading, resting, ticket, unmet_by}
pub use Rattle.shelf.specs.Rule.{Agrees, AreSeats, Fits, HasKeeper, HasReader, IsSeated, Knows}
pub use Rattle.shelf.specs.Seats.{is_publish, reader_on, store_at}
pub use Rattle.shelf.specs.Steps.{IsNextWrite, MayCommit, committed, loaded, met, newest_slot}
pub use Rattle.shelf.specs.Steps.{scanned, signed_of, with_command, without, wrote}
pub use Rattle.shelf.specs.TileLooks.{ShowRows}
pub use Rattle.shelf.specs.declared.request.Request.{Request}
pub use Rattle.shelf.specs.declared.store_entry.StoreEntry.{StoreEntry}
pub use Rattle.std.proofs.Common.{List, None, Option, Some, [], ap, arith, cond, eq-eqb, get_or}
pub use Rattle.std.proofs.Common.{length, length-append, ne_eqb, refl, rules, set, suc, sym, zero}
pub use Rattle.std.proofs.Common.{ℕ, ⊎_elim, ◌*◌, ◌++◌, ◌+◌, ◌<◌, ◌==◌, ◌∙◌, ◌∷◌, ◌≡◌, ◌≢◌, ◌≤◌}
pub use Rattle.std.proofs.Common.{◌⊎◌}
pub use Rattle.std.proofs.lemmas.Bool.Decides.{nat_tests}
pub use Rattle.std.proofs.lemmas.Grind.{common_steps}
pub use Rattle.std.proofs.lemmas.List.{length-map, map-append}
pub use Rattle.std.specs.Arc.{arc_value}
pub use Rattle.std.specs.Prelude.{All, slice_get}
pub use lib.ListN.{get_elem?}
pub use mathlib.Core.List.{IsPrefix}
pub use mathlib.Core.Logic.{inl, inr}
pub use mathlib.Core.Option.{none, some, some-injective, some-ne-none}
pub use mir.Val.{bool_byte}
