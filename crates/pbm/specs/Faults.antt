-- The first fault of an image, from its front: this project's own rule over the image grammar. Each
-- function reads one part, and returns what it read and what is left, or the fault that it meets.
use Rattle.std.specs.Prelude.{ℕ, ◌+◌, ◌-◌, ◌*◌, ◌==◌, ◌&&◌, nat_lt, suc, zero, Bool, true, false}
use Rattle.std.specs.Prelude.{not, List, [], ◌∷◌, length, take, drop, Result, Ok, Err}
use Rattle.std.specs.Prelude.{slice_index_or, if◌then◌else◌}
use Rattle.metric.specs.declared.fault.PbmFault.{PbmFault}
use Rattle.metric.specs.declared.fault.PbmFault.TheVariants.{BadMagic, MissingSpace, BadComment}
use Rattle.metric.specs.declared.fault.PbmFault.TheVariants.{BadNumber, ZeroSize, TooLarge}
use Rattle.metric.specs.declared.fault.PbmFault.TheVariants.{BadPixel, Truncated, JunkNotSpaced}
use Rattle.bits.specs.Cells.{Cells, cells_where}
use Rattle.pbm.specs.declared.header.Form.{Form}
use Rattle.pbm.specs.declared.header.Form.TheVariants.{Plain, Raw}
use Rattle.metric.specs.Digits.{is_digit}
use Rattle.pbm.specs.Image.{is_whitespace, is_line_end, bytes_across, raw_pixel}

infixl 10 ◌>>=◌
-- what follows a part that was read; a fault ends the reading
abbrev pub ◌>>=◌ : {A B : Type 0} → Result A PbmFault → (A → Result B PbmFault) → Result B PbmFault
(Ok x) >>= f = f x
(Err e) >>= f = Err e

-- the magic number: `P1` (80 and 49) of a plain image, or `P4` (80 and 52) of a raw one
abbrev pub magic : List ℕ → Result (Form × List ℕ) PbmFault
magic [] = Err Truncated
magic (p ∷ []) = if p == 80 then Err Truncated else Err BadMagic
magic (p ∷ form ∷ rest) =
    if p == 80 && form == 49 then Ok (Plain, rest) else if p == 80 && form == 52 then Ok (Raw, rest)
    else Err BadMagic

-- one whitespace byte; a `#`, the byte 35, is refused in its place
abbrev pub space : List ℕ → Result (List ℕ) PbmFault
space [] = Err Truncated
space (byte ∷ rest) =
    if is_whitespace byte then Ok rest else if byte == 35 then Err BadComment else Err MissingSpace

-- the rest of a gap, in a comment or not: whitespace and comments, up to a byte that is neither
unfoldable pub filling : Bool → List ℕ → Result (List ℕ) PbmFault
filling in_comment [] = Err Truncated
filling true (byte ∷ rest) = filling (not (is_line_end byte)) rest
filling false (byte ∷ rest) =
    if is_whitespace byte then filling false rest else if byte == 35 then filling true rest
    else Ok (byte ∷ rest)

-- a gap, which starts with one whitespace byte
unfoldable pub gap : List ℕ → Result (List ℕ) PbmFault
gap bytes = space bytes >>= filling false

-- a side of the map: its value is judged as soon as its digits end
abbrev pub side : ℕ → List ℕ → Result (ℕ × List ℕ) PbmFault
side value rest = if value == 0 then Err ZeroSize else if nat_lt 4096 value then Err TooLarge
    else Ok (value, rest)

-- the rest of a number whose digits so far have this value
unfoldable pub digits : ℕ → List ℕ → Result (ℕ × List ℕ) PbmFault
digits value [] = side value []
digits value (byte ∷ rest) =
    if is_digit byte then digits (10 * value + (byte - 48)) rest else side value (byte ∷ rest)

-- a number, which starts with a digit
unfoldable pub number_and_rest : List ℕ → Result (ℕ × List ℕ) PbmFault
number_and_rest [] = Err Truncated
number_and_rest (byte ∷ rest) = if is_digit byte then digits (byte - 48) rest else Err BadNumber

-- what separates height and raster: a gap in a plain image, one whitespace byte in a raw one
abbrev pub before_raster : Form → List ℕ → Result (List ℕ) PbmFault
before_raster Plain bytes = gap bytes
before_raster Raw bytes = space bytes

-- the header: the form, the sides, and what is left
unfoldable pub header : List ℕ → Result (Form × ℕ × ℕ × List ℕ) PbmFault
header bytes = do
  named ← magic bytes
  before_width ← gap named.1
  width ← number_and_rest before_width
  before_height ← gap width.1
  height ← number_and_rest before_height
  raster_bytes ← before_raster named.0 height.1
  Ok (named.0, width.0, height.0, raster_bytes)

-- a byte that must be a pixel: `0` is 48, `1` is 49
abbrev pub pixel_at : List ℕ → Result (Bool × List ℕ) PbmFault
pixel_at [] = Err Truncated
pixel_at (byte ∷ rest) =
    if byte == 48 then Ok (false, rest) else if byte == 49 then Ok (true, rest) else Err BadPixel

-- the next pixel, with or without a gap before it; a `#` directly in its place is refused
unfoldable pub next_pixel : List ℕ → Result (Bool × List ℕ) PbmFault
next_pixel [] = Err Truncated
next_pixel (byte ∷ rest) =
    if is_whitespace byte then filling false rest >>= pixel_at else if byte == 35
    then Err BadComment else pixel_at (byte ∷ rest)

-- this many more pixels
unfoldable pub pixels : ℕ → List ℕ → Result (List Bool × List ℕ) PbmFault
pixels zero bytes = Ok ([], bytes)
pixels (suc n) bytes = do
  first ← next_pixel bytes
  others ← pixels n first.1
  Ok (first.0 ∷ others.0, others.1)

-- what follows the last pixel of a plain image
abbrev pub ended : List ℕ → Result (List ℕ) PbmFault
ended [] = Ok []
ended (byte ∷ rest) = if is_whitespace byte then Ok (byte ∷ rest) else Err JunkNotSpaced

-- the bitmap with these pixels, in row-major order
abbrev pub cells_of_pixels : ℕ → ℕ → List Bool → Cells
cells_of_pixels width height all =
    cells_where width height (λ x y. slice_index_or all (y * width + x) false)

-- a plain raster and what follows it
unfoldable pub plain_raster : ℕ → ℕ → List ℕ → Result (Cells × List ℕ) PbmFault
plain_raster width height bytes = do
  all ← pixels (width * height) bytes
  rest ← ended all.1
  Ok (cells_of_pixels width height all.0, rest)

-- the bitmap that the bytes of a raw raster spell
abbrev pub raw_cells : ℕ → ℕ → List ℕ → Cells
raw_cells width height raster = cells_where width height (raw_pixel (bytes_across width) raster)

-- a raw raster, as many bytes as it needs; what follows it isn't read
unfoldable pub raw_raster : ℕ → ℕ → List ℕ → Result (Cells × List ℕ) PbmFault
raw_raster width height bytes = let needed = height * bytes_across width in
    if nat_lt (length bytes) needed then Err Truncated
    else Ok (raw_cells width height (take needed bytes), drop needed bytes)

-- the raster of an image of this form and these sides, and what is left after it
abbrev pub raster : Form → ℕ → ℕ → List ℕ → Result (Cells × List ℕ) PbmFault
raster Plain width height bytes = plain_raster width height bytes
raster Raw width height bytes = raw_raster width height bytes

-- the image at the front, and what is left after it
unfoldable pub image : List ℕ → Result (Cells × List ℕ) PbmFault
image bytes = do
  front ← header bytes
  raster front.0 front.1 front.2 front.3
