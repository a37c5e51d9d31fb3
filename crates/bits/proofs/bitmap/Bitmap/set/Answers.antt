-- The write changes the cell's bit, and no other. An obstacle that comes marks its band and tile.
use Rattle.std.proofs.Common.{◌==◌, ◌/◌, refl, arith}
use Rattle.std.proofs.lemmas.Bool.{and_parts, eqb-true}
use Rattle.bits.proofs.WriteLemmas.{IsCellWrite, IsStored-cell, cells_stored-cell}
use Rattle.bits.proofs.BandLemmas.{kept_written}
use Rattle.bits.proofs.bitmap.Bitmap.set.Goals as goal

-- the cell is written so
write : (c : goal.After-mark) → IsCellWrite c.self.inside.width c.self.inside.height
    c.self.inside.words.items c.args.cell.x c.args.cell.y c.place_of-index.result.0
    c.place_of-index.result.1 c.index.result.now c.with_bit.result c.args.black
write c = record {
  stored = c.self.invariant.stored;
  inside = rw (← c.self.view_is) at c.requires;
  index_is = rw (← c.self.view_is) at c.place_of-index.ensures.index;
  place_is = c.place_of-index.ensures.place;
  read = c.index.ensures;
  here = c.with_bit.ensures.here;
  others = c.with_bit.ensures.others;
}

pub returns-clause-written : goal.returns-clause-written
returns-clause-written c = rw (← c.self.view_is) (cells_stored-cell _ _ _ _ _ _ _ _ _ _ (write c))

pub invariant_of-self : goal.invariant_of-self
invariant_of-self c =
    kept_written _ _ _ _ _ _ _ _ _ _ c.self.invariant (IsStored-cell _ _ _ _ _ _ _ _ _ _ (write c))
    (cells_stored-cell _ _ _ _ _ _ _ _ _ _ (write c))
    (λ a b column row here one.
    let at = and_parts (a == c.args.cell.x) (b == c.args.cell.y) here in
    rw (eqb-true a c.args.cell.x at.0, eqb-true b c.args.cell.y at.1) (
      c.marked-self-inside.ensures.here 0 (rw (c.from.ensures, one) refl),
      c.mark.ensures.here 0 (rw (c.from-2.ensures, one) refl),
    ))
    (λ a b column row other seen. (
      c.marked-self-inside.ensures.kept (b / 64) (omega arith) seen.0,
      c.mark.ensures.kept (b / 64) (a / 64) (omega arith) seen.1,
    ))
