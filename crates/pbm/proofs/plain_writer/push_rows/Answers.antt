-- One more row.
use Rattle.std.proofs.Common.{◌≡◌, ℕ, ◌+◌, ◌-◌, ◌*◌, ◌++◌, List, ◌∙◌, ap, arith}
use Rattle.std.proofs.lemmas.Grind.{common_steps}
use Rattle.std.specs.List.{range_with_len, flat_map}
use Rattle.pbm.specs.Writing.{plain_digit}
use Rattle.pbm.proofs.Lines.{row-digits}
use Rattle.pbm.proofs.Ranges.{flat_map-row_from}
use Rattle.pbm.proofs.plain_writer.push_rows.Goals as goal

pub push_lines-requires-clause-room : goal.push_lines-requires-clause-room
push_lines-requires-clause-room c = grind (arith, common_steps)

pub push_lines-requires-clause-digits : goal.push_lines-requires-clause-digits
push_lines-requires-clause-digits c =
    row-digits c.args.bitmap.now c.rows.y _ _ _ (omega arith) c.row_words.ensures
    c.put_digits.ensures.pixels

pub rows-preserved : goal.rows-preserved
rows-preserved c =
    let order = c.rows.invariant.order in
    let next : c.rows.y + 1 - c.args.from ≡ (c.rows.y - c.args.from) + 1 = omega (arith, order) in
    record {
      order = omega (arith, order);
      text = c.push_lines.ensures.text
          ∙ (ap (λ (t : List ℕ). t ++ flat_map (plain_digit c.args.bitmap.now)
          (range_with_len (c.rows.y * c.args.bitmap.now.width) c.args.bitmap.now.width))
          c.rows.invariant.text
          ∙ flat_map-row_from (plain_digit c.args.bitmap.now) c.args.out.now.items
          c.args.bitmap.now.width c.args.from c.rows.y order);
      added = (let a = c.push_lines.ensures.length in let b = c.rows.invariant.added in
          rw next (omega (arith, a, b)));
      room = (let a = c.push_lines.ensures.room in let b = c.rows.invariant.room in omega arith);
      digits = c.put_digits.ensures.len ∙ c.rows.invariant.digits;
    }
