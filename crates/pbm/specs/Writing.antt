-- The text written for a bitmap: this project's own rule, one of the texts that the image grammar
-- allows.
use Rattle.std.specs.Prelude.{ℕ, ◌+◌, ◌*◌, ◌/◌, ◌%◌, ◌==◌, ◌||◌, zero, suc, Bool, List, [], ◌∷◌}
use Rattle.std.specs.Prelude.{◌++◌, map, if◌then◌else◌}
use Rattle.std.specs.Fmt.{decimal}
use Rattle.std.specs.List.{range_with_len, flat_map}
use Rattle.bits.specs.Cells.{Cells, has}
use Rattle.pbm.specs.declared.header.Form.{Form}
use Rattle.pbm.specs.declared.header.Form.TheVariants.{Plain, Raw}
use Rattle.pbm.specs.Image.{pixel_byte, bytes_across}

-- the digit in a form's magic number: `1` for the plain form, `4` for the raw one
abbrev pub form_digit : Form → ℕ
form_digit Plain = 49
form_digit Raw = 52

-- everything before the raster: `P` and the form's digit, LF, the width, a blank, the height, LF
abbrev pub front_text : Form → Cells → List ℕ
front_text form cells =
    80 ∷ form_digit form ∷ 10 ∷ (decimal cells.width ++ (32 ∷ (decimal cells.height ++ 10 ∷ [])))

-- n pixels of row y from column x on as a binary number, leftmost most significant, 0 past the edge
unfoldable pub packed : Cells → ℕ → ℕ → ℕ → ℕ
packed cells x y zero = 0
packed cells x y (suc n) = 2 * packed cells x y n + (if has cells (x + n) y then 1 else 0)

-- byte k of a raw raster, in row-major order: eight pixels of its row
abbrev pub raw_byte : Cells → ℕ → ℕ
raw_byte cells k =
    packed cells (8 * (k % bytes_across cells.width)) (k / bytes_across cells.width) 8

-- a bitmap as a raw image: the fill bits are 0
unfoldable pub raw_text : Cells → List ℕ
raw_text cells =
    front_text Raw cells ++ map (raw_byte cells)
    (range_with_len 0 (cells.height * bytes_across cells.width))

-- whether a line ends after the digit of column x: after every 70 digits, and at the row's end
abbrev pub ends_line : ℕ → ℕ → Bool
ends_line width x = (x + 1) % 70 == 0 || x + 1 == width

-- the digit of a pixel, with LF if its line ends there
abbrev pub digit_text : Bool → Bool → List ℕ
digit_text black ends = pixel_byte black ∷ (if ends then 10 ∷ [] else [])

-- the digit of pixel k, in row-major order, with LF if its line ends there
abbrev pub plain_digit : Cells → ℕ → List ℕ
plain_digit cells k =
    digit_text (has cells (k % cells.width) (k / cells.width))
    (ends_line cells.width (k % cells.width))

-- a bitmap as a plain image: each row in lines of 70 digits, the last line having the rest
unfoldable pub plain_text : Cells → List ℕ
plain_text cells =
    front_text Plain cells ++ flat_map (plain_digit cells)
    (range_with_len 0 (cells.height * cells.width))

-- the number of bytes of a row's lines: its digits, and an LF per line
abbrev pub row_length : ℕ → ℕ
row_length width = width + (width + 69) / 70
