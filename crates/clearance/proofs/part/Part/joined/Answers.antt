-- Row by row.
use Rattle.std.proofs.Common.{◌≡◌, ◌%◌, ◌∙◌, inl, inr, subst, ℕ, arith}
use Rattle.std.proofs.lemmas.Bool.{cases_lt}
use Rattle.bits.specs.Cells.{IsObstacle}
use Rattle.bits.proofs.BandLemmas.{joined_before, joined_here}
use Rattle.clearance.proofs.SeekerSteps.{IsInWord-obstacle}
use Rattle.clearance.proofs.part.Part.joined.Goals as goal

pub joined-preserved : goal.joined-preserved
joined-preserved g c =
    let cells = g.R.Rows.cells c.args.rows.now in
    record {
      rows = c.word-all.ensures.rows ∙ c.joined.invariant.rows;
      joined = λ a b here before. elim (cases_lt b c.joined.y) [
        | inl earlier ↦ joined_before c.joined.all c.word-all.result (a % 64)
            (c.joined.invariant.joined a b here earlier)
        | inr later ↦
            let same : b ≡ c.joined.y = omega arith in
            let inside = IsInWord-obstacle cells _ _ _ a c.requires.part.bitmap
            (rw (c.joined.invariant.rows, c.from.ensures) at c.word-all.ensures.word)
            (subst (λ (n : ℕ). IsObstacle cells a n) same here.0) here.1 in
            joined_here c.joined.all c.word-all.result (a % 64) inside.2
      ];
    }
