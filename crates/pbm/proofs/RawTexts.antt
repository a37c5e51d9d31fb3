-- A bitmap that is written as a raw image.
use Rattle.std.proofs.Common.{◌≡◌, ℕ, zero, suc, ◌+◌, ◌-◌, ◌*◌, ◌/◌, ◌%◌, ◌^◌, ◌<◌, ◌≤◌, Bool, true}
use Rattle.std.proofs.Common.{false, cond, eqb, List, [], ◌∷◌, ◌++◌, get_or, map, refl, sym, ap}
use Rattle.std.proofs.Common.{◌∙◌, append_assoc, arith}
use Rattle.std.specs.Fmt.{decimal}
use Rattle.std.specs.Int.{bit_at}
use Rattle.std.specs.List.{range_with_len}
use Rattle.std.proofs.lemmas.Nat.{div-mul-add, mod-mul-add}
use Rattle.std.proofs.lemmas.Nat.Bits.{bit_at-suc}
use Rattle.std.proofs.lemmas.List.FromFn.{get_or-map-range_with_len, length-map-range_with_len}
use Rattle.bits.specs.Cells.{Cells, has, IsBitmap}
use Rattle.pbm.specs.Image.{bytes_across, raw_pixel, fills, IsGap, IsRaw}
use Rattle.pbm.specs.Writing.{packed, raw_byte, raw_text}
use Rattle.pbm.proofs.Decimals.{IsNumber-decimal}
use Rattle.pbm.proofs.Pixels.{place-below}
use Rattle.std.proofs.lemmas.Grind.{common_steps}
use Rattle.std.proofs.lemmas.Bool.Decides.{nat_tests}

-- the number of a pixel: 1 is black
abbrev pub one : Bool → ℕ
one black = cond black 1 0

-- as many pixels are no more than as many binary digits
pub packed-below : (cells : Cells) (x y n : ℕ) → packed cells x y n + 1 ≤ 2 ^ n
unfolding packed
packed-below cells x y zero = omega arith
packed-below cells x y (suc n) = grind (arith, nat_tests, common_steps, packed-below cells x y n)

-- a number of a lowest digit and those above it has that digit as its rest, and those as its half
lowest : (high : ℕ) (black : Bool) → ((2 * high + one black) % 2 ≡ one black)
    × ((2 * high + one black) / 2 ≡ high)
lowest high true = (omega arith, omega arith)
lowest high false = (omega arith, omega arith)

-- each pixel is a digit, the last the lowest
pub packed-bit : (cells : Cells) (x y n j : ℕ) → j < n
    → bit_at (packed cells x y n) j ≡ one (has cells (x + (n - 1 - j)) y)
unfolding packed
packed-bit cells x y zero j below = absurd (omega arith)
packed-bit cells x y (suc n) zero below = grind (arith, nat_tests, common_steps)
packed-bit cells x y (suc n) (suc j) below =
    grind (arith, nat_tests, common_steps, bit_at-suc, lowest, packed-bit cells x y n j)

-- a pixel is black where its number is 1
one-is : (black : Bool) → eqb (one black) 1 ≡ black
one-is true = refl
one-is false = refl

-- the byte k of row y has the pixels from column 8 k on
pub raw_byte-at : (cells : Cells) (y k : ℕ) → k < bytes_across cells.width
    → packed cells (8 * k) y 8 ≡ raw_byte cells (y * bytes_across cells.width + k)
raw_byte-at cells y k within = grind (arith, nat_tests, common_steps, div-mul-add, mod-mul-add)

-- the bytes of a raw raster
abbrev raw_bytes : Cells → List ℕ
raw_bytes cells = map (raw_byte cells) (range_with_len 0 (cells.height * bytes_across cells.width))

-- a pixel of those bytes is the bitmap's
raw_bytes-pixel : (cells : Cells) (x y : ℕ) → x < cells.width → y < cells.height
    → raw_pixel (bytes_across cells.width) (raw_bytes cells) x y ≡ has cells x y
raw_bytes-pixel cells x y hx hy =
    let across : ℕ = bytes_across cells.width in
    let column : x / 8 < across = omega arith in
    let below = place-below across cells.height (x / 8) y column hy in
    let k : ℕ = y * across + x / 8 in
    let byte : get_or (raw_bytes cells) k 0 ≡ raw_byte cells k =
    get_or-map-range_with_len (raw_byte cells) 0 (cells.height * across) k k 0
    (omega (arith, below)) (omega arith) in
    let is : raw_byte cells k ≡ packed cells (8 * (x / 8)) y 8 =
    sym (raw_byte-at cells y (x / 8) column) in
    let place : 8 * (x / 8) + (8 - 1 - (7 - x % 8)) ≡ x = omega arith in
    ap (λ (b : ℕ). eqb (bit_at b (7 - x % 8)) 1) (byte ∙ is)
    ∙ ap (λ (b : ℕ). eqb b 1) (packed-bit cells (8 * (x / 8)) y 8 (7 - x % 8) (omega arith))
    ∙ ap (λ (a : ℕ). eqb (one (has cells a y)) 1) place
    ∙ one-is (has cells x y)

-- the parts of a text that is written
pub regroup-front : (form : ℕ) (a b c : List ℕ)
    → (80 ∷ form ∷ 10 ∷ (a ++ (32 ∷ (b ++ 10 ∷ [])))) ++ c
    ≡ 80 ∷ form ∷ ((10 ∷ []) ++ (a ++ ((32 ∷ []) ++ (b ++ (10 ∷ c)))))
regroup-front form a b c = simp append_assoc

-- one whitespace byte is a gap
pub IsGap-line_feed : IsGap (10 ∷ [])
unfolding fills
IsGap-line_feed =
    record { first = 10; others = []; is_text = refl; first_is = refl; others_are = refl }

-- one blank is a gap
pub IsGap-blank : IsGap (32 ∷ [])
unfolding fills
IsGap-blank = record { first = 32; others = []; is_text = refl; first_is = refl; others_are = refl }

-- what is written is a raw image of the bitmap
pub raw_text-is : (cells : Cells) → IsBitmap cells → IsRaw (raw_text cells) cells
unfolding raw_text
raw_text-is cells is =
    record {
      bitmap = is;
      gap_before_width = 10 ∷ [];
      width = decimal cells.width;
      gap_before_height = 32 ∷ [];
      height = decimal cells.height;
      space = 10;
      raster = raw_bytes cells;
      gap_before_width_is = IsGap-line_feed;
      width_is = IsNumber-decimal cells.width (omega (arith, is.width_is.few));
      gap_before_height_is = IsGap-blank;
      height_is = IsNumber-decimal cells.height (omega (arith, is.height_is.few));
      space_is = refl;
      raster_is = record {
        as_many = length-map-range_with_len (raw_byte cells) 0
            (cells.height * bytes_across cells.width);
        pixels = raw_bytes-pixel cells;
      };
      is_text = regroup-front 52 (decimal cells.width) (decimal cells.height) (raw_bytes cells);
    }
