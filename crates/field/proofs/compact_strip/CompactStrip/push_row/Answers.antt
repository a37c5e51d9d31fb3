-- The row's distances come after those of the rows before.
use Rattle.std.proofs.Common.{refl, length, arith}
use Rattle.std.proofs.lemmas.Grind.{common_steps}
use Rattle.field.proofs.HalfLemmas.{numbers_kept-more}
use Rattle.field.proofs.compact_strip.CompactStrip.push_row.Goals as goal

pub returns-clause-numbers : goal.returns-clause-numbers
returns-clause-numbers c =
    let strip = c.args.self.now in
    let line = c.args.line.now in
    rw (
      c.in_ok-push.ensures.items,
      c.in_ok-extend_from_slice.ensures.items,
      c.put_low-most.ensures.low,
    )
    (numbers_kept-more (length line) strip.low.items strip.high.items strip.starts.items line
    c.push_high.new.high.items c.in_ok-start.start c.requires.lines refl c.in_ok-start.ensures
    (λ x inside. let fits = c.type_inv.line x in omega (arith, fits)))

pub returns-clause-lines : goal.returns-clause-lines
returns-clause-lines c = grind (arith, common_steps)
