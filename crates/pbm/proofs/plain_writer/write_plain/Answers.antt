-- All rows were added.
use Rattle.std.proofs.Common.{◌≡◌, ℕ, ◌-◌, ◌*◌, List, ◌++◌, ◌∙◌, ap, append_assoc, arith}
use Rattle.std.specs.List.{range_with_len, flat_map}
use Rattle.pbm.specs.declared.header.Form.TheVariants.{Plain}
use Rattle.pbm.specs.Writing.{front_text, plain_digit, plain_text}
use Rattle.pbm.proofs.plain_writer.write_plain.Goals as goal

pub returns-clause-text : goal.returns-clause-text
unfolding plain_text
returns-clause-text c =
    let height : c.height-height.result ≡ c.args.bitmap.now.height =
    c.height-height.ensures.height in
    let all : c.height-height.result - 0 ≡ c.args.bitmap.now.height = omega (arith, height) in
    let none : 0 * c.args.bitmap.now.width ≡ 0 = omega arith in
    c.push_rows.ensures.text
    ∙ ap (λ (k : ℕ). c.push_front.new.out.items ++ flat_map (plain_digit c.args.bitmap.now)
    (range_with_len k ((c.height-height.result - 0) * c.args.bitmap.now.width))) none
    ∙ ap (λ (k : ℕ). c.push_front.new.out.items ++ flat_map (plain_digit c.args.bitmap.now)
    (range_with_len 0 (k * c.args.bitmap.now.width))) all
    ∙ ap (λ (t : List ℕ). t ++ flat_map (plain_digit c.args.bitmap.now)
    (range_with_len 0 (c.args.bitmap.now.height * c.args.bitmap.now.width)))
    (c.push_front.ensures.text
    ∙ ap (λ (t : List ℕ). t ++ front_text Plain c.args.bitmap.now) c.reserve.ensures.items)
    ∙ append_assoc c.args.out.now.items (front_text Plain c.args.bitmap.now)
    (flat_map (plain_digit c.args.bitmap.now)
    (range_with_len 0 (c.args.bitmap.now.height * c.args.bitmap.now.width)))
