-- The image grammar: which byte text spells which bitmap.
-- Source: pbm(5), the Netpbm manual's page of the PBM format, its plain and its raw form; in this
-- project's profile: only the blank, TAB, LF and CR are whitespace, sides are from 1 to 4096, a
-- comment stands only within a gap that has started with whitespace, and none after the height of a
-- raw image.
use Rattle.std.specs.Prelude.{◌≡◌, ℕ, ◌+◌, ◌-◌, ◌*◌, ◌/◌, ◌%◌, ◌<◌, ◌==◌, ◌&&◌, ◌||◌, Bool, true}
use Rattle.std.specs.Prelude.{false, not, List, [], ◌∷◌, ◌++◌, length, map, slice_index, ◌⊎◌}
use Rattle.std.specs.Prelude.{if◌then◌else◌}
use Rattle.std.specs.Int.{bit_at}
use Rattle.std.specs.List.{range_with_len, list_all}
use Rattle.metric.specs.Digits.{is_digit, value_from}
use Rattle.bits.specs.Cells.{Cells, has, IsBitmap}

-- whitespace: TAB, LF, CR and the blank
abbrev pub is_whitespace : ℕ → Bool
is_whitespace byte = (byte == 9 || byte == 10) || (byte == 13 || byte == 32)

-- a line end: CR or LF
abbrev pub is_line_end : ℕ → Bool
is_line_end byte = byte == 10 || byte == 13

-- whether text is a gap's rest, in a comment or not: whitespace, and `#` up to and with a line end
unfoldable pub fills : Bool → List ℕ → Bool
fills in_comment [] = not in_comment
fills true (byte ∷ rest) = fills (not (is_line_end byte)) rest
fills false (byte ∷ rest) =
    if is_whitespace byte then fills false rest else byte == 35 && fills true rest

-- a gap: one whitespace byte, then any mix of whitespace and comments
pub record IsGap (text : List ℕ) : Type 0 where
  pub first : ℕ
  pub others : List ℕ
  pub is_text : text ≡ first ∷ others
  pub first_is : is_whitespace first ≡ true
  pub others_are : fills false others ≡ true

-- a number: one or more digits; leading zeros are accepted
pub record IsNumber (text : List ℕ) (value : ℕ) : Type 0 where
  pub first : ℕ
  pub others : List ℕ
  pub is_text : text ≡ first ∷ others
  pub first_is : is_digit first ≡ true
  pub others_are : list_all is_digit others ≡ true
  pub value_is : value_from (first - 48) others ≡ value

-- the byte of a pixel: `1` is black, an obstacle, and `0` is white
abbrev pub pixel_byte : Bool → ℕ
pixel_byte true = 49
pixel_byte false = 48

-- nothing, or a gap
abbrev pub IsBetween : List ℕ → Type 0
IsBetween text = (text ≡ []) ⊎ IsGap text

-- a plain raster: the pixels in order, with or without a gap between two of them
unfoldable pub IsRaster : List ℕ → List Bool → Type 0
IsRaster text [] = text ≡ []
IsRaster text (pixel ∷ []) = text ≡ pixel_byte pixel ∷ []
IsRaster text (pixel ∷ next ∷ pixels) =
    (between : List ℕ) × (rest : List ℕ) × IsBetween between × IsRaster rest (next ∷ pixels)
    × (text ≡ pixel_byte pixel ∷ (between ++ rest))

-- the pixels of a bitmap, in row-major order
abbrev pub pixels_of : Cells → List Bool
pixels_of cells =
    map (λ k. has cells (k % cells.width) (k / cells.width))
    (range_with_len 0 (cells.width * cells.height))

-- a plain image: `P1`, a gap, the width, a gap, the height, a gap, the raster
pub record IsPlain (text : List ℕ) (cells : Cells) : Type 0 where
  pub bitmap : IsBitmap cells
  pub gap_before_width : List ℕ
  pub width : List ℕ
  pub gap_before_height : List ℕ
  pub height : List ℕ
  pub gap_before_raster : List ℕ
  pub raster : List ℕ
  pub gap_before_width_is : IsGap gap_before_width
  pub width_is : IsNumber width cells.width
  pub gap_before_height_is : IsGap gap_before_height
  pub height_is : IsNumber height cells.height
  pub gap_before_raster_is : IsGap gap_before_raster
  pub raster_is : IsRaster raster (pixels_of cells)
  pub is_text : text ≡ 80 ∷ 49
      ∷ (gap_before_width
      ++ (width ++ (gap_before_height ++ (height ++ (gap_before_raster ++ raster)))))

-- the number of bytes of a row of this width in a raw raster
abbrev pub bytes_across : ℕ → ℕ
bytes_across width = (width + 7) / 8

-- whether pixel (x, y) of a raw raster with rows of this many bytes is black, highest bit first
abbrev pub raw_pixel : ℕ → List ℕ → ℕ → ℕ → Bool
raw_pixel across raster x y = bit_at (slice_index raster (y * across + x / 8)) (7 - x % 8) == 1

-- a raw raster: rows from the top, each in as many bytes as it needs, with any fill bits at its end
pub record IsRawRaster (raster : List ℕ) (cells : Cells) : Type 0 where
  pub as_many : length raster ≡ cells.height * bytes_across cells.width
  pub pixels : (x y : ℕ) → x < cells.width → y < cells.height
      → raw_pixel (bytes_across cells.width) raster x y ≡ has cells x y

-- a raw image: `P4`, a gap, the width, a gap, the height, one whitespace byte, the raster
pub record IsRaw (text : List ℕ) (cells : Cells) : Type 0 where
  pub bitmap : IsBitmap cells
  pub gap_before_width : List ℕ
  pub width : List ℕ
  pub gap_before_height : List ℕ
  pub height : List ℕ
  pub space : ℕ
  pub raster : List ℕ
  pub gap_before_width_is : IsGap gap_before_width
  pub width_is : IsNumber width cells.width
  pub gap_before_height_is : IsGap gap_before_height
  pub height_is : IsNumber height cells.height
  pub space_is : is_whitespace space ≡ true
  pub raster_is : IsRawRaster raster cells
  pub is_text : text ≡ 80 ∷ 52
      ∷ (gap_before_width ++ (width ++ (gap_before_height ++ (height ++ (space ∷ raster)))))

-- the whole text is one image, of this bitmap
abbrev pub IsImage : List ℕ → Cells → Type 0
IsImage text cells = IsPlain text cells ⊎ IsRaw text cells

-- after a plain image the input ends, or a whitespace byte follows
abbrev pub IsEnd : List ℕ → Type 0
IsEnd [] = Unit {0}
IsEnd (byte ∷ rest) = is_whitespace byte ≡ true

-- the first n bytes are an image of this bitmap; only the end or whitespace may follow a plain one
pub record Reads (bytes : List ℕ) (n : ℕ) (cells : Cells) : Type 0 where
  pub text : List ℕ
  pub rest : List ℕ
  pub split : bytes ≡ text ++ rest
  pub taken : length text ≡ n
  pub image : IsImage text cells
  pub end : IsPlain text cells → IsEnd rest
