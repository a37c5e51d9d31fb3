-- A bitmap that is written as a plain image.
use Rattle.std.proofs.Common.{◌≡◌, ℕ, zero, suc, ◌+◌, ◌-◌, ◌*◌, ◌/◌, ◌%◌, ◌<◌, ◌≤◌, Bool, true}
use Rattle.std.proofs.Common.{false, cond, List, [], ◌∷◌, ◌++◌, map, length, refl, sym, ap}
use Rattle.std.proofs.Common.{subst, ◌∙◌, append_assoc, inl, inr, arith}
use Rattle.std.specs.Fmt.{decimal}
use Rattle.std.specs.List.{range_with_len, flat_map}
use Rattle.std.proofs.lemmas.Bool.Decides.{nat_tests}
use Rattle.std.proofs.lemmas.Nat.{div-mul-add, mod-mul-add}
use Rattle.std.proofs.lemmas.List.{length-append}
use Rattle.bits.specs.Cells.{Cells, has, IsBitmap}
use Rattle.pbm.specs.declared.header.Form.TheVariants.{Plain}
use Rattle.pbm.specs.Image.{pixel_byte, IsBetween, IsRaster, IsPlain}
use Rattle.pbm.specs.Writing.{front_text, ends_line, digit_text, plain_digit, plain_text}
use Rattle.pbm.specs.Writing.{row_length}
use Rattle.pbm.proofs.Decimals.{IsNumber-decimal}
use Rattle.pbm.proofs.Pixels.{place-below}
use Rattle.pbm.proofs.Ranges.{flat_map-more, flat_map-row}
use Rattle.pbm.proofs.RawTexts.{regroup-front, IsGap-line_feed, IsGap-blank}
use Rattle.std.proofs.lemmas.Grind.{common_steps}

-- what stands after a digit: LF, where its line ends
abbrev line_end : Bool → List ℕ
line_end ends = cond ends (10 ∷ []) []

-- that is nothing, or a gap
IsBetween-line_end : (ends : Bool) → IsBetween (line_end ends)
IsBetween-line_end true = inr IsGap-line_feed
IsBetween-line_end false = inl refl

-- the digits of n + 1 pixels from one on, each but the last with what stands after it
digits_from : (ℕ → Bool) → (ℕ → Bool) → ℕ → ℕ → List ℕ
digits_from black ends start zero = pixel_byte (black start) ∷ []
digits_from black ends start (suc n) =
    pixel_byte (black start) ∷ (line_end (ends start) ++ digits_from black ends (start + 1) n)

-- the text of n + 1 pixels ends with what stands after the last
digits_from-text : (black ends : ℕ → Bool) (start n : ℕ)
    → flat_map (λ k. digit_text (black k) (ends k)) (range_with_len start (suc n))
    ≡ digits_from black ends start n ++ line_end (ends (start + n))
unfolding digits_from
digits_from-text black ends start zero = grind (arith, nat_tests, common_steps)
digits_from-text black ends start (suc n) =
    grind (arith, nat_tests, common_steps, digits_from-text black ends (start + 1) n)

-- such digits are a raster
digits_from-raster : (black ends : ℕ → Bool) (start n : ℕ)
    → IsRaster (digits_from black ends start n) (map black (range_with_len start (suc n)))
unfolding digits_from IsRaster
digits_from-raster black ends start zero = refl
digits_from-raster black ends start (suc n) =
    let others = digits_from-raster black ends (start + 1) n in
    grind (arith, nat_tests, common_steps, IsBetween-line_end, digits_from, others)

-- the last column ends its line
ends_line-last : (width x : ℕ) → x + 1 ≡ width → ends_line width x ≡ true
ends_line-last width x last = grind (arith, nat_tests, common_steps)

-- the last pixel of a bitmap stands in the last column
last_column : (width height n : ℕ) → 1 ≤ width → 1 ≤ height → height * width ≡ suc n
    → n % width + 1 ≡ width
last_column width height n some_columns some_rows all = grind (arith, nat_tests, common_steps)

-- a bitmap has some cells
some_cells : (width height : ℕ) → 1 ≤ width → 1 ≤ height → (n : ℕ) × (height * width ≡ suc n)
some_cells width height some_columns some_rows =
    let first = place-below width height 0 0 some_columns some_rows in
    (height * width - 1, omega (arith, first))

-- the text of the digit of column x and row y is that of its cell
plain_digit-at : (cells : Cells) (y x : ℕ) → x < cells.width
    → digit_text (has cells x y) (ends_line cells.width x) ≡ plain_digit cells (y * cells.width + x)
plain_digit-at cells y x within = grind (arith, nat_tests, common_steps, div-mul-add, mod-mul-add)

-- how long the lines of a row are as far as column x
record LinesLength (width x count : ℕ) : Type 0 where
  within : x < width → count ≡ x + x / 70
  all : x ≡ width → count ≡ row_length width

-- a digit makes the lines longer by one, and by one more where a line ends
LinesLength-more : (width x count : ℕ) (ends : Bool) → x < width → count ≡ x + x / 70
    → ends ≡ ends_line width x → LinesLength width (x + 1) (count + cond ends 2 1)
LinesLength-more width x count true inside long is =
    record { within = λ more. grind (arith, nat_tests); all = λ last. omega arith }
LinesLength-more width x count false inside long is =
    record { within = λ more. grind (arith, nat_tests); all = λ last. grind (arith, nat_tests) }

-- the text of a pixel has one byte, or two where a line ends
digit_text-length : (black ends : Bool) → length (digit_text black ends) ≡ cond ends 2 1
digit_text-length black true = refl
digit_text-length black false = refl

-- the text that the first pixels of a row have
row_front : Cells → ℕ → ℕ → List ℕ
row_front cells y x = flat_map (plain_digit cells) (range_with_len (y * cells.width) x)

-- the text of one more pixel is two bytes longer where its line ends, and otherwise one
row_front-more : (cells : Cells) (y x : ℕ) → x < cells.width
    → length (row_front cells y (x + 1)) ≡ length (row_front cells y x)
    + cond (ends_line cells.width x) 2 1
unfolding row_front
row_front-more cells y x within =
    ap length
    (sym (flat_map-more (plain_digit cells) [] (y * cells.width) x
    (digit_text (has cells x y) (ends_line cells.width x)) (plain_digit-at cells y x within)))
    ∙ (length-append (flat_map (plain_digit cells) (range_with_len (y * cells.width) x))
    (digit_text (has cells x y) (ends_line cells.width x))
    ∙ ap (λ (n : ℕ). length (flat_map (plain_digit cells) (range_with_len (y * cells.width) x)) + n)
    (digit_text-length (has cells x y) (ends_line cells.width x)))

-- the text of a row's first pixels is as long as their lines
row_front-length : (cells : Cells) (y x : ℕ) → x ≤ cells.width
    → LinesLength cells.width x (length (row_front cells y x))
unfolding row_front
row_front-length cells y zero below = record { within = λ some. refl; all = λ none. omega arith }
row_front-length cells y (suc x) below =
    let before = row_front-length cells y x (omega arith) in
    let inside : x < cells.width = omega arith in
    let next : x + 1 ≡ suc x = omega arith in
    let more = LinesLength-more cells.width x (length (row_front cells y x))
    (ends_line cells.width x) inside (before.within inside) refl in
    rw next at (subst (λ (n : ℕ). LinesLength cells.width (x + 1) n)
    (sym (row_front-more cells y x inside)) more)

-- the lines of some rows are as long as their number times one row's
pub rows-length : (cells : Cells) (count : ℕ)
    → length (flat_map (plain_digit cells) (range_with_len 0 (count * cells.width)))
    ≡ count * row_length cells.width
unfolding row_front
rows-length cells zero = let none : zero * cells.width ≡ 0 = omega arith in rw none (omega arith)
rows-length cells (suc count) =
    let next : suc count * cells.width ≡ (count + 1) * cells.width = omega arith in
    let row : length (flat_map (plain_digit cells)
    (range_with_len (count * cells.width) cells.width)) ≡ row_length cells.width =
    (row_front-length cells count cells.width (omega arith)).all refl in
    let before = rows-length cells count in
    ap (λ (n : ℕ). length (flat_map (plain_digit cells) (range_with_len 0 n))) next
    ∙ (ap length (sym (flat_map-row (plain_digit cells) [] cells.width count))
    ∙ (length-append (flat_map (plain_digit cells) (range_with_len 0 (count * cells.width)))
    (flat_map (plain_digit cells) (range_with_len (count * cells.width) cells.width))
    ∙ omega (arith, row, before)))

-- a plain image was written, and LF after it
pub record PlainWritten (cells : Cells) : Type 0 where
  pub text : List ℕ
  pub is_text : plain_text cells ≡ text ++ 10 ∷ []
  pub is_plain : IsPlain text cells

-- what is written of a bitmap of n + 1 cells
PlainWritten-from : (cells : Cells) (n : ℕ) → IsBitmap cells → cells.height * cells.width ≡ suc n
    → PlainWritten cells
unfolding plain_text
PlainWritten-from cells n is all =
    let black : ℕ → Bool = λ k. has cells (k % cells.width) (k / cells.width) in
    let ends : ℕ → Bool = λ k. ends_line cells.width (k % cells.width) in
    let raster : List ℕ = digits_from black ends 0 n in
    let front : List ℕ = front_text Plain cells in
    let last : ends (0 + n) ≡ true = ends_line-last cells.width ((0 + n) % cells.width)
    (let here : 0 + n ≡ n = omega arith in
    rw here (last_column cells.width cells.height n is.width_is.some is.height_is.some all)) in
    let count : suc n ≡ cells.width * cells.height = omega (arith, all) in
    record {
      text = front ++ raster;
      is_text = ap (λ (m : ℕ). front ++ flat_map (plain_digit cells) (range_with_len 0 m)) all
          ∙ ap (λ (t : List ℕ). front ++ t) (digits_from-text black ends 0 n
          ∙ ap (λ (b : Bool). raster ++ line_end b) last)
          ∙ sym (append_assoc front raster (10 ∷ []));
      is_plain = record {
        bitmap = is;
        gap_before_width = 10 ∷ [];
        width = decimal cells.width;
        gap_before_height = 32 ∷ [];
        height = decimal cells.height;
        gap_before_raster = 10 ∷ [];
        raster = raster;
        gap_before_width_is = IsGap-line_feed;
        width_is = IsNumber-decimal cells.width (omega (arith, is.width_is.few));
        gap_before_height_is = IsGap-blank;
        height_is = IsNumber-decimal cells.height (omega (arith, is.height_is.few));
        gap_before_raster_is = IsGap-line_feed;
        raster_is = subst (λ (m : ℕ). IsRaster raster (map black (range_with_len 0 m))) count
            (digits_from-raster black ends 0 n);
        is_text = regroup-front 49 (decimal cells.width) (decimal cells.height) raster;
      };
    }

-- what is written is a plain image of the bitmap, and LF
pub plain_text-is : (cells : Cells) → IsBitmap cells → (text : List ℕ)
    × (plain_text cells ≡ text ++ 10 ∷ []) × IsPlain text cells
plain_text-is cells is =
    let some = some_cells cells.width cells.height is.width_is.some is.height_is.some in
    let w = PlainWritten-from cells some.0 is some.1 in
    (w.text, w.is_text, w.is_plain)
