-- Word by word.
use Rattle.std.proofs.Common.{◌≡◌, ◌/◌, ◌∙◌, inl, inr, refl, arith}
use Rattle.std.proofs.lemmas.Bool.{cases_lt}
use Rattle.clearance.proofs.SeekerSteps.{AreObstacles-word, IsInWord-obstacle}
use Rattle.clearance.proofs.inside.first_in_row.Goals as goal

pub returns-in-Some-clause-some : goal.returns-in-Some-clause-some
returns-in-Some-clause-some g c =
    let cells = g.R.Rows.cells c.args.rows.now in
    let word = rw (c.words.invariant.rows, c.from.ensures) at c.word-word.ensures.word in
    let found = c.in-Some.ensures.some in
    let right = found.right in
    let place = found.here in
    record {
      left = found.left;
      right = right;
      obstacle = AreObstacles-word cells c.words.tile c.args.y _ word c.in-Some.x c.args.y
          (refl, found.here, found.bit);
      before = λ a left less obstacle. elim (cases_lt (a / 64) c.words.tile) [
        | inl earlier ↦ c.words.invariant.none a left (omega arith) earlier obstacle
        | inr from ↦
            let here : a / 64 ≡ c.words.tile = omega arith in
            found.before a left less here
            (IsInWord-obstacle cells _ _ _ a c.requires.rect.bitmap word obstacle here).2
      ];
    }

pub words-preserved : goal.words-preserved
words-preserved g c =
    let word = rw (c.words.invariant.rows, c.from.ensures) at c.word-word.ensures.word in
    record {
      rows = c.word-word.ensures.rows ∙ c.words.invariant.rows;
      none = λ a left right before obstacle. elim (cases_lt (a / 64) c.words.tile) [
        | inl earlier ↦ c.words.invariant.none a left right earlier obstacle
        | inr from ↦
            let here : a / 64 ≡ c.words.tile = omega arith in
            c.in_default.ensures.none refl a left right here
            (IsInWord-obstacle (g.R.Rows.cells c.args.rows.now) _ _ _ a c.requires.rect.bitmap word
            obstacle here).2
      ];
    }
