-- The write changes the word's cells, and no other; none past the edge. An obstacle that comes
-- marks its band and its tile.
use Rattle.std.proofs.Common.{◌==◌, ◌/◌, ◌%◌, arith, rules}
use Rattle.std.proofs.lemmas.Bool.{and_parts, eqb-true}
use Rattle.std.proofs.lemmas.List.{with_items_is}
use Rattle.bits.proofs.BandLemmas.{kept_written}
use Rattle.bits.proofs.bitmap.Bitmap.set_word.Goals as goal

pub invariant_of-self : goal.invariant_of-self
invariant_of-self c =
    rw (with_items_is c.self.inside.words c.write_word.new.words (search rules))
    (kept_written _ _ _ _ _ _ _ _ _ _ c.self.invariant c.write_word.ensures.stored
    (rw c.as_mut_slice-words.ensures.value at c.write_word.ensures.written)
    (λ a b column row here one.
    let at = and_parts (b == c.args.y) (a / 64 == c.args.index) here in
    rw (eqb-true b c.args.y at.0, eqb-true (a / 64) c.args.index at.1) (
      c.marked-self-inside.ensures.here (a % 64) (eqb-true _ _ one),
      c.mark.ensures.here (a % 64) (eqb-true _ _ one),
    ))
    (λ a b column row other seen. (
      c.marked-self-inside.ensures.kept (b / 64) (omega arith) seen.0,
      c.mark.ensures.kept (b / 64) (a / 64) (omega arith) seen.1,
    )))
