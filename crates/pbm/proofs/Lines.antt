-- The lines of a row of a plain image.
use Rattle.std.proofs.Common.{◌≡◌, ℕ, zero, suc, ◌+◌, ◌-◌, ◌*◌, ◌/◌, ◌%◌, ◌<◌, ◌≤◌, true, false}
use Rattle.std.proofs.Common.{List, [], ◌∷◌, ◌++◌, length, take, drop, get_or, map, refl, sym, ap}
use Rattle.std.proofs.Common.{◌∙◌, append_assoc, inl, inr, arith, min}
use Rattle.std.specs.Prelude.{◌⊎◌}
use Rattle.std.proofs.lemmas.Nat.{div-mul-add, mod-mul-add}
use Rattle.std.specs.List.{range_with_len, flat_map}
use Rattle.std.proofs.lemmas.Bool.{cases_lt}
use Rattle.std.proofs.lemmas.Bool.Decides.{nat_tests}
use Rattle.std.proofs.lemmas.Grind.{flat_map-append, same_number_lists, common_steps}
use Rattle.std.proofs.lemmas.List.{get_or-take, get_or-drop, length-take-le, length-drop}
use Rattle.std.proofs.lemmas.List.FromFn.{get_or-map-range_with_len, length-map-range_with_len}
use Rattle.bits.specs.Cells.{Cells, has}
use Rattle.bits.specs.Words.{IsRowOf}
use Rattle.std.specs.Int.{bit_at}
use Rattle.pbm.specs.Image.{pixel_byte}
use Rattle.pbm.specs.Writing.{ends_line, digit_text, plain_digit}
use Rattle.pbm.proofs.Ranges.{range-append}

-- a line has a digit at each place, and LF after the last one
line_text : (f : ℕ → List ℕ) (digit : ℕ → ℕ) (start n : ℕ)
    → ((k : ℕ) → start ≤ k → k < start + n → f k ≡ digit k ∷ [])
    → f (start + n) ≡ digit (start + n) ∷ 10 ∷ []
    → flat_map f (range_with_len start (suc n)) ≡ map digit (range_with_len start (suc n))
    ++ 10 ∷ []
line_text f digit start zero inner last = grind (arith, nat_tests, common_steps)
line_text f digit start (suc n) inner last =
    grind (arith, nat_tests, common_steps, line_text f digit (start + 1) n)

-- a digit of a line that isn't its last ends none
inner_column : (width start x : ℕ) → start % 70 ≡ 0 → start ≤ x → x + 1 < start + 70 → x + 1 < width
    → ends_line width x ≡ false
inner_column width start x aligned above below inside = grind (arith, nat_tests)

-- the last digit of a line ends it
last_column : (width start end : ℕ) → start % 70 ≡ 0 → start < end → (end ≡ start + 70)
    ⊎ (end ≡ width) → ends_line width (end - 1) ≡ true
last_column width start end aligned some last = grind (arith, nat_tests)

-- the digit of a place, row by row from the top
abbrev digit_at : Cells → ℕ → ℕ
digit_at cells k = pixel_byte (has cells (k % cells.width) (k / cells.width))

-- the digit of column x and row y is that of its cell
digit_at-is : (cells : Cells) (y x : ℕ) → x < cells.width
    → digit_at cells (y * cells.width + x) ≡ pixel_byte (has cells x y)
digit_at-is cells y x within = grind (arith, nat_tests, common_steps, div-mul-add, mod-mul-add)

-- the digits of a row's words are those of its cells
pub row-digits : (cells : Cells) (y width : ℕ) (words digits : List ℕ) → width ≡ cells.width
    → IsRowOf cells y words
    → ((x : ℕ) → x < 64 * length words
    → get_or digits x 0 ≡ 48 + bit_at (get_or words (x / 64) 0) (x % 64))
    → (x : ℕ) → x < cells.width → get_or (take width digits) x 0 ≡ pixel_byte (has cells x y)
row-digits cells y width words digits is are pixels x within =
    grind (arith, nat_tests, common_steps)

-- a part of a row's digits is that of its places
digits-part : (cells : Cells) (y start count : ℕ) (digits : List ℕ) → length digits ≡ cells.width
    → start + count ≤ cells.width
    → ((x : ℕ) → x < cells.width → get_or digits x 0 ≡ pixel_byte (has cells x y))
    → take count (drop start digits) ≡ map (digit_at cells)
    (range_with_len (y * cells.width + start) count)
digits-part cells y start count digits as_many within pixels =
    let left : length (drop start digits) ≡ length digits - start = length-drop start digits in
    let size : length (take count (drop start digits)) ≡ count =
    length-take-le count (drop start digits) (omega (arith, left, as_many)) in
    same_number_lists (take count (drop start digits))
    (map (digit_at cells) (range_with_len (y * cells.width + start) count))
    (size ∙ sym (length-map-range_with_len (digit_at cells) (y * cells.width + start) count))
    (λ k below.
    let few : k < count = omega (arith, size) in
    let place : y * cells.width + (start + k) ≡ y * cells.width + start + k = omega arith in
    get_or-take count (drop start digits) k 0 few
    ∙ (get_or-drop start digits k 0
    ∙ (pixels (start + k) (omega (arith, few))
    ∙ (sym (digit_at-is cells y (start + k) (omega (arith, few)))
    ∙ (ap (digit_at cells) place
    ∙ sym (get_or-map-range_with_len (digit_at cells) (y * cells.width + start) count k
    (y * cells.width + start + k) 0 few refl))))))

-- the digits of a line's columns with LF are the text of its places
line-is : (cells : Cells) (y start n : ℕ) (digits : List ℕ) → length digits ≡ cells.width
    → ((x : ℕ) → x < cells.width → get_or digits x 0 ≡ pixel_byte (has cells x y))
    → start % 70 ≡ 0 → start + suc n ≤ cells.width → suc n ≤ 70 → (suc n ≡ 70)
    ⊎ (start + suc n ≡ cells.width)
    → take (suc n) (drop start digits) ++ 10 ∷ []
    ≡ flat_map (plain_digit cells) (range_with_len (y * cells.width + start) (suc n))
line-is cells y start n digits as_many pixels aligned within few ended =
    let width : ℕ = cells.width in
    let a : ℕ = y * width + start in
    ap (λ (t : List ℕ). t ++ 10 ∷ [])
    (digits-part cells y start (suc n) digits as_many within pixels)
    ∙ sym (line_text (plain_digit cells) (digit_at cells) (y * cells.width + start) n
    (λ k above below.
    let x : ℕ = k - y * cells.width in
    let place : y * cells.width + (k - y * cells.width) ≡ k = omega (arith, above) in
    let column : k % cells.width ≡ k - y * cells.width = ap (λ (m : ℕ). m % cells.width) (sym place)
    ∙ mod-mul-add y cells.width (k - y * cells.width) (omega (arith, below, within)) in
    ap (digit_text (has cells (k % cells.width) (k / cells.width)))
    (ap (ends_line cells.width) column
    ∙ inner_column cells.width start (k - y * cells.width) aligned (omega (arith, above))
    (omega (arith, above, below, few)) (omega (arith, above, below, within))))
    (let place : y * cells.width + (start + n) ≡ y * cells.width + start + n = omega arith in
    let column : (y * cells.width + start + n) % cells.width ≡ (start + suc n) - 1 =
    ap (λ (m : ℕ). m % cells.width) (sym place)
    ∙ (mod-mul-add y cells.width (start + n) (omega (arith, within)) ∙ omega arith) in
    let last : (start + suc n ≡ start + 70)
    ⊎ (start + suc n ≡ cells.width) = elim ended
    [ inl full ↦ inl (omega (arith, full)) | inr edge ↦ inr edge ] in
    ap (digit_text (has cells ((y * cells.width + start + n) % cells.width)
    ((y * cells.width + start + n) / cells.width)))
    (ap (ends_line cells.width) column
    ∙ last_column cells.width start (start + suc n) aligned (omega arith) last)))

-- a further line of a row was added
pub line-added : (cells : Cells) (y start end : ℕ) (digits before : List ℕ)
    → length digits ≡ cells.width
    → ((x : ℕ) → x < cells.width → get_or digits x 0 ≡ pixel_byte (has cells x y))
    → start % 70 ≡ 0 → start < length digits → end ≡ min (length digits) (start + 70)
    → ((before ++ flat_map (plain_digit cells) (range_with_len (y * cells.width) start))
    ++ take (end - start) (drop start digits)) ++ 10 ∷ []
    ≡ before ++ flat_map (plain_digit cells) (range_with_len (y * cells.width) end)
line-added cells y start end digits before as_many pixels aligned some end_is =
    let f : ℕ → List ℕ = plain_digit cells in
    let n : ℕ = end - start - 1 in
    let count : end - start ≡ suc (end - start - 1) = omega (arith, end_is, some) in
    let ended : (suc (end - start - 1) ≡ 70)
    ⊎ (start + suc (end - start - 1) ≡ cells.width) =
    elim (cases_lt (start + 70) (length digits)) [
      | inl more ↦ inl (omega (arith, end_is, some, more))
      | inr edge ↦ inr (omega (arith, end_is, some, edge, as_many))
    ] in
    let front : List ℕ = flat_map (plain_digit cells) (range_with_len (y * cells.width) start) in
    let line : take (end - start) (drop start digits) ++ 10 ∷ []
    ≡ flat_map (plain_digit cells) (range_with_len (y * cells.width + start) (end - start)) =
    rw count (line-is cells y start (end - start - 1) digits as_many pixels aligned
    (omega (arith, end_is, some, as_many)) (omega (arith, end_is, some)) ended) in
    let whole : start + (end - start) ≡ end = omega (arith, end_is, some) in
    append_assoc (before ++ front) (take (end - start) (drop start digits)) (10 ∷ [])
    ∙ (ap (λ (t : List ℕ). (before ++ front) ++ t) line
    ∙ (append_assoc before front
    (flat_map f (range_with_len (y * cells.width + start) (end - start)))
    ∙ ap (λ (t : List ℕ). before ++ t)
    (sym (flat_map-append f (range_with_len (y * cells.width) start)
    (range_with_len (y * cells.width + start) (end - start)))
    ∙ (ap (flat_map f) (sym (range-append (y * cells.width) start (end - start)))
    ∙ ap (λ (m : ℕ). flat_map f (range_with_len (y * cells.width) m)) whole))))
