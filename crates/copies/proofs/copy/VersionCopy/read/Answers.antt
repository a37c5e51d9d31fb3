-- Each tile that is read becomes the version's in the bitmap, so the band does, and the others are
-- as they were.
use Rattle.std.proofs.Common.{◌+◌, ◌*◌, ap, ◌∙◌, refl, sym, arith}
use Rattle.std.proofs.lemmas.Grind.{common_steps}
use Rattle.bits.specs.TileWords.{tile_words}
use Rattle.shelf.specs.Roles.{ReaderView}
use Rattle.copies.specs.Copies.{bitmap_seen}
use Rattle.copies.proofs.BandCopies.{band_copied, tile_more}
use Rattle.copies.proofs.copy.VersionCopy.read.Goals as goal

pub look_rows-requires-clause-inside : goal.look_rows-requires-clause-inside
look_rows-requires-clause-inside g c = grind (arith, common_steps)

pub renew_tile-requires : goal.renew_tile-requires
renew_tile-requires g c = grind (arith, common_steps)

pub tiles-preserved : goal.tiles-preserved
tiles-preserved g c =
    let so = c.requires.copying in
    let z = g.Id.StoreName.store in
    let p = c.args.band * c.div_ceil-across.result + c.tiles.index in
    record {
      seat = c.look_rows.ensures.seat ∙ c.tiles.invariant.seat;
      unread = c.tiles.invariant.unread;
      bitmap_is = c.renew_tile.ensures.bitmap;
      read = tile_more c.args.self.now.bitmap c.tiles.self.bitmap c.renew_tile.new.self
          (bitmap_seen z c.args.seat.now c.args.version) c.args.band c.tiles.index p
          c.div_ceil-across.result c.look_rows.new.rows c.tiles.invariant.read
          (so.of_map.width_is ∙ sym so.width_is) (omega arith) (omega arith) refl
          (c.look_rows.ensures.rows
          ∙ ap (λ (x : ReaderView). tile_words (bitmap_seen z x c.args.version) p)
          c.tiles.invariant.seat)
          c.renew_tile.ensures.written;
    }

pub returns-clause-copying : goal.returns-clause-copying
returns-clause-copying g c =
    let so = c.requires.copying in
    let now = c.tiles.invariant.read in
    record {
      held = so.held;
      slot_is = so.slot_is;
      of_map = so.of_map;
      bitmap_is = c.tiles.invariant.bitmap_is;
      width_is = now.width_is ∙ so.width_is;
      height_is = now.height_is ∙ so.height_is;
      read = band_copied c.args.self.now.bitmap c.tiles.self.bitmap _ c.args.band
          c.args.self.now.unread _ so.read (so.of_map.width_is ∙ sym so.width_is)
          (so.of_map.height_is ∙ sym so.height_is) so.of_map.bitmap.height_is.few
          (λ x y inside here. let column = inside.column in now.read x y inside here (omega arith))
          now.kept (rw c.tiles.invariant.unread at c.without_bit-self.ensures.kept);
    }
