-- One more line of 70 digits, and then the rest of the row, if there is one.
use Rattle.std.proofs.Common.{rules, ℕ, ◌+◌, ◌-◌, ◌*◌, ◌++◌, [], ◌∷◌, ◌∙◌, List, take, drop}
use Rattle.std.proofs.Common.{ap, arith, length}
use Rattle.std.specs.List.{range_with_len, flat_map}
use Rattle.pbm.specs.Writing.{plain_digit}
use Rattle.pbm.proofs.Lines.{line-added}
use Rattle.pbm.proofs.plain_writer.push_lines.Goals as goal

pub lines-preserved : goal.lines-preserved
lines-preserved c =
    let aligned = c.lines.invariant.aligned in
    let start = c.lines.start in
    let digits = c.args.digits.now in
    record {
      text = c.push_line.ensures.text
          ∙ (ap (λ (t : List ℕ). (t ++ take (start + 70 - start) (drop start digits)) ++ 10 ∷ [])
          c.lines.invariant.text
          ∙ line-added c.args.bitmap.now c.args.y start (start + 70) digits
          c.args.out.now.items c.requires.as_many c.requires.digits aligned (omega arith)
          (omega arith));
      within = search rules;
      aligned = omega (arith, aligned);
      added = (let added = c.lines.invariant.added in let longer = c.push_line.ensures.length in
          omega (arith, aligned, added, longer));
      room = (let a = c.push_line.ensures.room in let b = c.lines.invariant.room in omega arith);
    }

pub returns-then-start-digits-clause-text : goal.returns-then-start-digits-clause-text
returns-then-start-digits-clause-text c =
    let start = c.lines.start in
    let digits = c.args.digits.now in
    let bitmap = c.args.bitmap.now in
    c.push_line-then-start-digits.ensures.text
    ∙ (ap (λ (t : List ℕ). (t ++ take (length digits - start) (drop start digits)) ++ 10 ∷ [])
    c.lines.invariant.text
    ∙ (line-added bitmap c.args.y start (length digits) digits c.args.out.now.items
    c.requires.as_many c.requires.digits c.lines.invariant.aligned c.if-start-digits.true
    (omega arith)
    ∙ ap (λ (n : ℕ). c.args.out.now.items
    ++ flat_map (plain_digit bitmap) (range_with_len (c.args.y * bitmap.width) n))
    c.requires.as_many))
