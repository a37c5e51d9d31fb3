-- In a row of the map the capped map has what the map has.
use Rattle.std.proofs.Common.{◌≡◌, ◌+◌, ◌-◌, arith, rules}
use Rattle.metric.specs.Edge.{shift}
use Rattle.column.proofs.Caps.{has-capped}
use Rattle.column.proofs.lines.mark_line.Goals as goal

pub returns-clause-marked : goal.returns-clause-marked
returns-clause-marked c = λ x column.
    let back : c.args.y + shift c.args.edge - shift c.args.edge ≡ c.args.y = omega arith in
    rw (
      has-capped c.args.edge c.args.bitmap.now x (c.args.y + shift c.args.edge) column
          (omega arith) (omega (arith, c.requires.row)),
      back,
      ← c.shift.ensures,
    ) (search rules)
