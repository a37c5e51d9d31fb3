-- A row's obstacles are met, or in columns that are too far, or all that are as far away are.
use Rattle.std.proofs.Common.{◌%◌, inl, inr, refl, arith}
use Rattle.clearance.proofs.SeekerSteps.{AreObstacles-word, IsInWord-obstacle}
use Rattle.clearance.proofs.SeekerWords.{bit_at-zero}
use Rattle.clearance.proofs.part.Part.see.Goals as goal

pub returns-then-word-eq0-clause-met : goal.returns-then-word-eq0-clause-met
returns-then-word-eq0-clause-met g c = λ a obstacle here.
    let last = c.requires.part.in_map.last in
    let within = c.requires.end in
    let inside = IsInWord-obstacle (g.R.Rows.cells c.args.rows.now) _ _ _ a
    c.requires.part.in_map.bitmap (rw c.from.ensures at c.word.ensures.word) obstacle here in
    elim (c.bits_without-word.ensures.kept (a % 64) (omega arith) inside.2) [
      | inl far ↦ c.requires.columns a c.args.y (omega arith) here far (omega arith)
      | inr left ↦ absurd (bit_at-zero (a % 64) (rw c.if-word-eq0.true at left))
    ]

pub returns-clause-onward : goal.returns-clause-onward
returns-clause-onward g c = c.meet_word.ensures.onward (g.R.Rows.cells c.args.rows.now)
    (λ a b here. AreObstacles-word _ _ _ _ (rw c.from.ensures at c.word.ensures.word) a b
    (here.0, here.1, c.bits_without-word.ensures.part (a % 64) here.2))

pub returns-clause-columns : goal.returns-clause-columns
returns-clause-columns g c = λ a b row here bit away.
    let onward = c.meet_word.ensures.onward (g.R.Rows.cells c.args.rows.now)
    (λ a b here. AreObstacles-word _ _ _ _ (rw c.from.ensures at c.word.ensures.word) a b
    (here.0, here.1, c.bits_without-word.ensures.part (a % 64) here.2)) in
    elim (c.meet_word.ensures.columns a b row here bit away) [
      | inl before ↦ onward.settled a b (c.requires.columns a b row here before away)
      | inr settled ↦ settled
    ]

pub returns-clause-met : goal.returns-clause-met
returns-clause-met g c = λ a obstacle here.
    let last = c.requires.part.in_map.last in
    let within = c.requires.end in
    let onward = c.meet_word.ensures.onward (g.R.Rows.cells c.args.rows.now)
    (λ a b here. AreObstacles-word _ _ _ _ (rw c.from.ensures at c.word.ensures.word) a b
    (here.0, here.1, c.bits_without-word.ensures.part (a % 64) here.2)) in
    let inside = IsInWord-obstacle (g.R.Rows.cells c.args.rows.now) _ _ _ a
    c.requires.part.in_map.bitmap (rw c.from.ensures at c.word.ensures.word) obstacle here in
    elim (c.bits_without-word.ensures.kept (a % 64) (omega arith) inside.2) [
      | inl far ↦ onward.settled a c.args.y
          (c.requires.columns a c.args.y (omega arith) here far (omega arith))
      | inr left ↦ c.meet_word.ensures.met a c.args.y (refl, here, left)
    ]
