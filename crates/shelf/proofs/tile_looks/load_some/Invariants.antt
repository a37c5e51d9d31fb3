-- The rows before this one are loaded, and the seat is as it was.
use Rattle.shelf.proofs.Names.{◌≡◌, ◌+◌, length, reader_in, ShowRows}
use Rattle.shelf.proofs.tile_looks.load_some.Given as goal

abbrev pub invariant-rows : goal.invariant-rows
invariant-rows g l =
    record {
      table : l.seat.table_id ≡ l.fn.seat.table_id;
      seat : l.seat.me ≡ l.fn.seat.me;
      long : length l.rows ≡ 64;
      loaded : ShowRows g.Id.StoreName.store.base (reader_in l.fn.seat.me.0) l.block
          (l.first + l.place) l.rows;
    }
