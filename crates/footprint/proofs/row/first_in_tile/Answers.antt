-- Row by row.
use Rattle.std.proofs.Common.{◌≡◌, ◌<◌, ◌∙◌, inl, inr, subst, ℕ, arith}
use Rattle.std.proofs.lemmas.Bool.{cases_lt}
use Rattle.bits.specs.Cells.{IsObstacle}
use Rattle.bits.specs.Words.{words_across}
use Rattle.footprint.proofs.Words.{bit_of_obstacle}
use Rattle.footprint.proofs.row.first_in_tile.Goals as goal

pub rows-preserved : goal.rows-preserved
rows-preserved g c =
    let cells = g.R.Rows.cells c.args.rows.now in
    let word = rw (c.rows.invariant.rows, c.from.ensures) at c.word-word.ensures.word in
    let few = c.requires.few in
    let within : c.args.tile < words_across cells.width = omega arith in
    let from = c.rows.invariant.from in
    record {
      rows = c.word-word.ensures.rows ∙ c.rows.invariant.rows;
      from = omega arith;
      none = λ x y is here after before obstacle. elim (cases_lt y c.rows.y) [
        | inl earlier ↦ c.rows.invariant.none x y is here after earlier obstacle
        | inr later ↦
            let same : y ≡ c.rows.y = omega arith in
            let own = subst (λ (n : ℕ). IsObstacle cells x n) same obstacle in
            c.if-is_struck.ensures x (record {
              within = is;
              here = here;
              bit = bit_of_obstacle cells c.rows.y c.args.tile _ x word within here own;
            })
      ];
    }
