-- The image is what stands before its raster, and the lines of all rows.
use Rattle.std.proofs.Common.{◌≡◌, ℕ, ◌+◌, ◌*◌, length, ap, ap₂, sym, ◌∙◌}
use Rattle.std.specs.List.{range_with_len, flat_map}
use Rattle.std.proofs.lemmas.List.{length-append}
use Rattle.pbm.specs.declared.header.Form.TheVariants.{Plain}
use Rattle.pbm.specs.Writing.{front_text, plain_digit, plain_text, row_length}
use Rattle.pbm.proofs.PlainTexts.{rows-length}
use Rattle.pbm.proofs.pieces.plain_length.Goals as goal

pub returns : goal.returns
unfolding plain_text
returns c =
    let cells = c.args.bitmap.now in
    let rows : length (flat_map (plain_digit c.args.bitmap.now)
    (range_with_len 0 (c.args.bitmap.now.height * c.args.bitmap.now.width)))
    ≡ c.from.result * c.row_length.result =
    rows-length cells cells.height
    ∙ sym (ap₂ (λ (a b : ℕ). a * b) (c.from.ensures ∙ c.height.ensures.height)
    (c.row_length.ensures ∙ ap row_length c.width.ensures.width)) in
    sym (length-append (front_text Plain cells)
    (flat_map (plain_digit cells) (range_with_len 0 (cells.height * cells.width)))
    ∙ ap₂ (λ (a b : ℕ). a + b) (ap length (sym c.requires)) rows)
