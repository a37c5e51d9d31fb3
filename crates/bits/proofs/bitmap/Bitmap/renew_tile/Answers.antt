-- The write changes the tile's cells, and no other; none past the edge. Its mark is that of its new
-- cells. Where neither the new cells nor the old ones have an obstacle, nothing changes.
use Rattle.std.proofs.Common.{◌/◌, ◌%◌, inl, inr, arith, rules}
use Rattle.std.proofs.lemmas.Bool.{cases_eq, eqb-true, eqb-false, both_ways}
use Rattle.std.proofs.lemmas.List.{with_items_is}
use Rattle.bits.proofs.StoredLemmas.{IsBitmap-cells_stored}
use Rattle.bits.proofs.BandLemmas.{kept_written}
use Rattle.bits.proofs.PutLemmas.{tile_parts, tile_again, with_tile-none}
use Rattle.bits.proofs.bitmap.Bitmap.renew_tile.Goals as goal

pub returns-then-not-has_bit-clause-written : goal.returns-then-not-has_bit-clause-written
returns-then-not-has_bit-clause-written c =
    grind (arith, with_tile-none, IsBitmap-cells_stored, both_ways)

pub invariant_of-self : goal.invariant_of-self
invariant_of-self c =
    let wide = rw (← c.self.view_is) at c.tiles_across-across.ensures.across in
    rw (with_items_is c.self.inside.words c.write_tile.new.words (search rules))
    (kept_written _ _ _ _ _ _ _ _ _ _ c.self.invariant c.write_tile.ensures.stored
    (rw c.as_mut_slice-cells.ensures.value at c.write_tile.ensures.written)
    (λ a b column row here one.
    let at = tile_parts _ a b c.args.position _ column wide (eqb-true _ _ here) in
    let marked = c.renew.ensures.here (a % 64)
    (c.all_bits-all.ensures (b % 64) (a % 64) (omega arith) (eqb-true _ _ one)) in
    rw (at.0, at.1) (
      c.renewed-self-inside.ensures.here (c.args.position % c.tiles_across-across.result)
          (rw (c.of-2.ensures) marked),
      marked,
    ))
    (λ a b column row other seen.
    let marked = c.renew.ensures.kept (b / 64) (a / 64) (omega arith) (λ down across.
    eqb-false _ _ other (tile_again _ a b c.args.position _ wide down across)) seen.1 in (
      elim (cases_eq (b / 64) (c.args.position / c.tiles_across-across.result)) [
        | inl same ↦ rw same (c.renewed-self-inside.ensures.here (a / 64)
            (rw (c.of-2.ensures) (rw same at marked)))
        | inr apart ↦ c.renewed-self-inside.ensures.kept (b / 64) (omega arith) apart seen.0
      ],
      marked,
    )))
