-- The write changes the tile's cells, and no other; none past the edge. An obstacle that comes
-- marks its band and its tile.
use Rattle.std.proofs.Common.{◌≡◌, ◌*◌, ◌/◌, ◌%◌, arith, rules}
use Rattle.std.proofs.lemmas.Bool.{eqb-true}
use Rattle.std.proofs.lemmas.List.{with_items_is}
use Rattle.bits.proofs.BandLemmas.{kept_written}
use Rattle.bits.proofs.PutLemmas.{tile_parts}
use Rattle.bits.proofs.bitmap.Bitmap.put_tile.Goals as goal

pub invariant_of-self : goal.invariant_of-self
invariant_of-self c =
    rw (with_items_is c.self.inside.words c.write_tile.new.words (search rules))
    (kept_written _ _ _ _ _ _ _ _ _ _ c.self.invariant c.write_tile.ensures.stored
    (rw c.as_mut_slice-cells.ensures.value at c.write_tile.ensures.written)
    (λ a b column row here one.
    let at = tile_parts _ a b c.args.position _ column
    (rw (← c.self.view_is) at c.tiles_across-across.ensures.across) (eqb-true _ _ here) in
    let band : b / 64 ≡ 64 * (c.args.position / c.tiles_across-across.result) / 64 = omega arith in
    rw (band, at.1) (
      c.marked_by-self-inside.ensures.here (b % 64) (a % 64) (omega arith) (eqb-true _ _ one),
      c.mark.ensures.here (a % 64)
          (c.all_bits.ensures (b % 64) (a % 64) (omega arith) (eqb-true _ _ one)),
    ))
    (λ a b column row other seen. (
      c.marked_by-self-inside.ensures.kept (b / 64) (omega arith) seen.0,
      c.mark.ensures.kept (b / 64) (a / 64) (omega arith) seen.1,
    )))
