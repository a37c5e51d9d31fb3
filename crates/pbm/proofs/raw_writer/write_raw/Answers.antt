-- One more row, and in the end all of them.
use Rattle.std.proofs.Common.{◌≡◌, ℕ, ◌*◌, List, ◌++◌, map, ◌∙◌, ap, append_assoc, arith}
use Rattle.std.proofs.lemmas.Grind.{common_steps}
use Rattle.std.specs.List.{range_with_len}
use Rattle.pbm.specs.declared.header.Form.TheVariants.{Raw}
use Rattle.pbm.specs.Image.{bytes_across}
use Rattle.pbm.specs.Writing.{front_text, raw_byte, raw_text}
use Rattle.pbm.proofs.Ranges.{map-row}
use Rattle.pbm.proofs.raw_writer.write_raw.Goals as goal

pub push_row-requires-clause-room : goal.push_row-requires-clause-room
push_row-requires-clause-room c = grind (arith, common_steps)

pub rows-preserved : goal.rows-preserved
rows-preserved c = record {
  text = c.push_row.ensures.text
      ∙ ap (λ (t : List ℕ). t ++ map (raw_byte c.args.bitmap.now)
      (range_with_len (c.rows.y * bytes_across c.args.bitmap.now.width)
      (bytes_across c.args.bitmap.now.width))) c.rows.invariant.text
      ∙ map-row (raw_byte c.args.bitmap.now) c.push_front.new.out.items
      (bytes_across c.args.bitmap.now.width) c.rows.y;
  added = omega arith;
  room = (let a = c.push_row.ensures.room in let b = c.rows.invariant.room in omega arith);
  row = c.push_row.ensures.row;
}

pub returns-clause-text : goal.returns-clause-text
unfolding raw_text
returns-clause-text c =
    let down : c.rows.y ≡ c.args.bitmap.now.height = omega arith in
    c.rows.invariant.text
    ∙ ap (λ (k : ℕ). c.push_front.new.out.items ++ map (raw_byte c.args.bitmap.now)
    (range_with_len 0 (k * bytes_across c.args.bitmap.now.width))) down
    ∙ ap (λ (t : List ℕ). t ++ map (raw_byte c.args.bitmap.now)
    (range_with_len 0 (c.args.bitmap.now.height * bytes_across c.args.bitmap.now.width)))
    (c.push_front.ensures.text
    ∙ ap (λ (t : List ℕ). t ++ front_text Raw c.args.bitmap.now) c.reserve.ensures.items)
    ∙ append_assoc c.args.out.now.items (front_text Raw c.args.bitmap.now)
    (map (raw_byte c.args.bitmap.now)
    (range_with_len 0 (c.args.bitmap.now.height * bytes_across c.args.bitmap.now.width)))
