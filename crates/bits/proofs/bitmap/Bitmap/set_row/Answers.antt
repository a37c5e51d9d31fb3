-- The write changes the row's cells, and no other; none past the edge. An obstacle that comes marks
-- its band and its tile.
use Rattle.std.proofs.Common.{◌/◌, ◌%◌, arith, rules}
use Rattle.std.proofs.lemmas.Bool.{eqb-true}
use Rattle.std.proofs.lemmas.List.{with_items_is}
use Rattle.bits.proofs.BandLemmas.{kept_written}
use Rattle.bits.proofs.bitmap.Bitmap.set_row.Goals as goal

pub invariant_of-self : goal.invariant_of-self
invariant_of-self c =
    rw (with_items_is c.self.inside.words c.write_row.new.words (search rules))
    (kept_written _ _ _ _ _ _ _ _ _ _ c.self.invariant c.write_row.ensures.stored
    (rw c.as_mut_slice-words.ensures.value at c.write_row.ensures.written)
    (λ a b column row here one. rw (eqb-true b c.args.y here) (
      c.marked_by-self-inside.ensures.here (a / 64) (a % 64) (omega arith) (eqb-true _ _ one),
      c.mark_row.ensures.here (a / 64) (a % 64) (omega arith) (eqb-true _ _ one),
    ))
    (λ a b column row other seen. (
      c.marked_by-self-inside.ensures.kept (b / 64) (omega arith) seen.0,
      c.mark_row.ensures.kept (b / 64) (a / 64) (omega arith) seen.1,
    )))
