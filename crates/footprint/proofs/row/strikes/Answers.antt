-- Word by word.
use Rattle.std.proofs.Common.{◌≡◌, ◌/◌, ◌<◌, ◌∙◌, inl, inr, arith}
use Rattle.std.proofs.lemmas.Bool.{cases_lt}
use Rattle.bits.specs.Words.{words_across}
use Rattle.footprint.proofs.Words.{bit_of_obstacle, obstacle_of_bit}
use Rattle.footprint.proofs.row.strikes.Goals as goal

pub returns-then-is_struck-clause-found : goal.returns-then-is_struck-clause-found
returns-then-is_struck-clause-found g c =
    let cells = g.R.Rows.cells c.args.rows.now in
    let word = rw (c.words.invariant.rows, c.from.ensures) at c.word-word.ensures.word in
    let few = c.requires.few in
    let within : c.words.tile < words_across cells.width = omega arith in
    let (x, is) = c.if-is_struck.ensures in (
      x,
      record {
        within = is.within;
        obstacle = obstacle_of_bit cells c.args.y c.words.tile _ x word within is.here is.bit;
      },
    )

pub words-preserved : goal.words-preserved
words-preserved g c =
    let cells = g.R.Rows.cells c.args.rows.now in
    let word = rw (c.words.invariant.rows, c.from.ensures) at c.word-word.ensures.word in
    let few = c.requires.few in
    let within : c.words.tile < words_across cells.width = omega arith in
    record {
      rows = c.word-word.ensures.rows ∙ c.words.invariant.rows;
      none = λ x before is. elim (cases_lt (x / 64) c.words.tile) [
        | inl earlier ↦ c.words.invariant.none x earlier is
        | inr from ↦
            let here : x / 64 ≡ c.words.tile = omega arith in
            c.if-is_struck.ensures x (record {
              within = is.within;
              here = here;
              bit = bit_of_obstacle cells c.args.y c.words.tile _ x word within here is.obstacle;
            })
      ];
    }
