-- The row of the tile is the word.
use Rattle.std.proofs.Common.{◌≡◌, ℕ, ◌+◌, ◌*◌, ◌/◌, refl, ap, ◌∙◌}
use Rattle.bits.specs.Words.{words_across}
use Rattle.clearance.proofs.RowWords.{tile_row_in_row}
use Rattle.copies.specs.Copies.{bitmap_seen}
use Rattle.copies.proofs.ReadingLemmas.{position_inside}
use Rattle.copies.proofs.copying.look_word.Goals as goal

pub look_row-requires-clause-inside : goal.look_row-requires-clause-inside
look_row-requires-clause-inside g c =
    position_inside g.Id.StoreName.store.base
    (bitmap_seen g.Id.StoreName.store c.args.seat.now c.args.version) c.args.y c.args.index
    c.args.across _ c.requires.of_map c.requires.row c.requires.across c.requires.index refl

pub returns-clause-word : goal.returns-clause-word
returns-clause-word g c =
    let store = g.Id.StoreName.store in
    let cells = bitmap_seen store c.args.seat.now c.args.version in
    let p : ℕ = c.args.y / 64 * c.args.across + c.args.index in
    let within = rw (c.requires.across) at c.requires.index in
    let place : p ≡ c.args.y / 64 * words_across cells.width + c.args.index =
    ap (λ (a : ℕ). c.args.y / 64 * a + c.args.index) c.requires.across in
    c.look_row.ensures.word ∙ tile_row_in_row cells c.args.y c.args.index p within place
