-- The rows that are loaded are the tile's.
use Rattle.shelf.proofs.Names.{ap, ◌∙◌, bitmap_of, story, entries, reader_in}
use Rattle.shelf.proofs.Names.{ShowRows}
use Rattle.bits.proofs.TileDrawLemmas.{tile_words_is}
use Rattle.shelf.proofs.seats.OwnTable.{its_role}
use Rattle.shelf.proofs.reader.ReaderSeat.look_rows.Goals as goal

pub returns-clause-rows : goal.returns-clause-rows
returns-clause-rows g c =
    let z = g.Id.StoreName.store.base in
    let role = its_role _ _ _ c.into_seat-seat.ensures.2
    (ap (λ b. b.views) c.replace.ensures.value ∙ c.self.invariant.1) in
    let first = ap reader_in role ∙ c.self.view_is in
    let block = rw (c.from.ensures, first) at c.load_block-block.ensures.block in
    let shown : ShowRows z c.args.self.now c.load_block-block.result 64 c.load_some-4.new.rows =
    rw (
      c.load_some-3.ensures.seat.1,
      c.load_some-2.ensures.seat.1,
      c.load_some.ensures.seat.1,
      c.load_block-block.ensures.seat.1,
      first,
    ) at c.load_some-4.ensures.rows in
    tile_words_is (bitmap_of (story z (entries c.args.self.now.seen)) c.args.version)
    c.args.position c.load_some-4.new.rows c.load_some-4.array_long
    (λ i row. shown i row c.args.version c.args.position c.requires.held c.requires.inside block)
