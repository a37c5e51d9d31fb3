-- What is read at the front of some bytes is read where more bytes follow them.
use Rattle.std.proofs.Common.{◌≡◌, ◌≢◌, ℕ, zero, suc, ◌+◌, ◌-◌, ◌*◌, ◌≤◌, Bool, true, false}
use Rattle.std.proofs.Common.{List, [], ◌∷◌, ◌++◌, length, drop, Ok, refl, sym}
use Rattle.std.proofs.Common.{ap, ◌∙◌, append_assoc, arith}
use Rattle.pbm.specs.declared.header.Form.{Form}
use Rattle.pbm.specs.declared.header.Form.TheVariants.{Plain, Raw}
use Rattle.pbm.specs.Faults.{◌>>=◌, magic, space, filling, gap, side, digits, number_and_rest}
use Rattle.pbm.specs.Faults.{before_raster, header, pixel_at, next_pixel, pixels}
use Rattle.std.specs.Prelude.{not}
use Rattle.pbm.specs.Image.{is_line_end}
use Rattle.pbm.specs.Plain.{AreBitsRead}
use Rattle.pbm.specs.Writing.{form_digit}
use Rattle.pbm.proofs.Steps.{ok_is, bind_ok}
use Rattle.pbm.proofs.Rasters.{pixels-read}
use Rattle.pbm.proofs.Headers.{header-read, behind_height, behind_width, behind_magic}
use Rattle.pbm.specs.Windows.{Stands}
use Rattle.std.proofs.lemmas.Grind.{common_steps}
use Rattle.std.proofs.lemmas.Bool.Decides.{nat_tests}

-- one whitespace byte is read where more bytes follow
space-with_more : (bytes rest more : List ℕ) → space bytes ≡ Ok rest
    → space (bytes ++ more) ≡ Ok (rest ++ more)
space-with_more [] rest more e = absurd cc
space-with_more (byte ∷ others) rest more e = grind (arith, nat_tests, common_steps)

-- the rest of a gap is read where more bytes follow
filling-with_more : (in_comment : Bool) (bytes rest more : List ℕ)
    → filling in_comment bytes ≡ Ok rest → filling in_comment (bytes ++ more) ≡ Ok (rest ++ more)
unfolding filling
filling-with_more true [] rest more e = absurd cc
filling-with_more false [] rest more e = absurd cc
filling-with_more true (byte ∷ others) rest more e =
    filling-with_more (not (is_line_end byte)) others rest more e
filling-with_more false (byte ∷ others) rest more e =
    let spaces = filling-with_more false others rest more in
    let comment = filling-with_more true others rest more in
    grind (arith, nat_tests, common_steps, spaces, comment)

-- a gap is read where more bytes follow
gap-with_more : (bytes rest more : List ℕ) → gap bytes ≡ Ok rest
    → gap (bytes ++ more) ≡ Ok (rest ++ more)
unfolding gap
gap-with_more bytes rest more e =
    grind (arith, nat_tests, common_steps, bind_ok, filling-with_more, space-with_more)

-- a side is accepted in front of any bytes
side-anywhere : (value : ℕ) (bytes others : List ℕ) (found : ℕ × List ℕ)
    → side value bytes ≡ Ok found → (found.1 ≡ bytes) × (side value others ≡ Ok (found.0, others))
side-anywhere value bytes others found e = grind (arith, nat_tests, common_steps)

-- digits are read where more bytes follow, if some follow already
digits-with_more : (value : ℕ) (bytes : List ℕ) (found : ℕ × List ℕ) (more : List ℕ) → found.1 ≢ []
    → digits value bytes ≡ Ok found → digits value (bytes ++ more) ≡ Ok (found.0, found.1 ++ more)
unfolding digits
digits-with_more value [] found more some e = absurd (some ((side-anywhere value [] [] found e).0))
digits-with_more value (byte ∷ others) found more some e =
    let next = digits-with_more (10 * value + (byte - 48)) others found more some in
    grind (arith, nat_tests, common_steps, next)

-- a number is read where more bytes follow, if some follow already
number-with_more : (bytes : List ℕ) (found : ℕ × List ℕ) (more : List ℕ) → found.1 ≢ []
    → number_and_rest bytes ≡ Ok found
    → number_and_rest (bytes ++ more) ≡ Ok (found.0, found.1 ++ more)
unfolding number_and_rest
number-with_more [] found more some e = absurd cc
number-with_more (byte ∷ others) found more some e =
    grind (arith, nat_tests, common_steps, digits-with_more)

-- a magic number is read where more bytes follow
magic-with_more : (bytes : List ℕ) (found : Form × List ℕ) (more : List ℕ) → magic bytes ≡ Ok found
    → magic (bytes ++ more) ≡ Ok (found.0, found.1 ++ more)
magic-with_more [] found more e = absurd cc
magic-with_more (p ∷ []) found more e = grind (arith, nat_tests, common_steps)
magic-with_more (p ∷ second ∷ others) found more e = grind (arith, nat_tests, common_steps)

-- what stands between the height and the raster is read where more bytes follow
before_raster-with_more : (form : Form) (bytes rest more : List ℕ)
    → before_raster form bytes ≡ Ok rest → before_raster form (bytes ++ more) ≡ Ok (rest ++ more)
before_raster-with_more Plain bytes rest more e = gap-with_more bytes rest more e
before_raster-with_more Raw bytes rest more e = space-with_more bytes rest more e

-- no gap is read where no byte stands
gap-some : (bytes rest : List ℕ) → gap bytes ≡ Ok rest → bytes ≢ []
unfolding gap
gap-some bytes rest e = λ none. let no : gap [] ≡ Ok rest = ap gap (sym none) ∙ e in cc

-- nothing before a raster is read where no byte stands
before_raster-some : (form : Form) (bytes rest : List ℕ) → before_raster form bytes ≡ Ok rest
    → bytes ≢ []
before_raster-some Plain bytes rest e = gap-some bytes rest e
before_raster-some Raw bytes rest e =
    λ none. let no : space [] ≡ Ok rest = ap space (sym none) ∙ e in cc

-- all before a raster is read where more bytes follow
header-with_more : (bytes : List ℕ) (found : Form × ℕ × ℕ × List ℕ) (more : List ℕ)
    → header bytes ≡ Ok found
    → header (bytes ++ more) ≡ Ok (found.0, found.1, found.2, found.3 ++ more)
unfolding header
header-with_more bytes found more e =
    let m = bind_ok (magic bytes) behind_magic found e in
    let g = bind_ok (gap m.0.1) (λ before_width.
    number_and_rest before_width >>= behind_width m.0.0) found m.2 in
    let w = bind_ok (number_and_rest g.0) (behind_width m.0.0) found g.2 in
    let k = bind_ok (gap w.0.1) (λ before_height.
    number_and_rest before_height >>= behind_height m.0.0 w.0.0) found w.2 in
    let h = bind_ok (number_and_rest k.0) (behind_height m.0.0 w.0.0) found k.2 in
    let r = bind_ok (before_raster m.0.0 h.0.1)
    (λ raster_bytes. Ok (m.0.0, w.0.0, h.0.0, raster_bytes)) found h.2 in
    let last : header (bytes ++ more) ≡ Ok (m.0.0, w.0.0, h.0.0, r.0 ++ more) = rw (
      magic-with_more bytes m.0 more m.1,
      gap-with_more m.0.1 g.0 more g.1,
      number-with_more g.0 w.0 more (gap-some w.0.1 k.0 k.1) w.1,
      gap-with_more w.0.1 k.0 more k.1,
      number-with_more k.0 h.0 more (before_raster-some m.0.0 h.0.1 r.0 r.1) h.1,
      before_raster-with_more m.0.0 h.0.1 r.0 more r.1,
    ) refl in
    last ∙ ap (λ (f : Form × ℕ × ℕ × List ℕ). Ok (f.0, f.1, f.2, f.3 ++ more))
    (ok_is (m.0.0, w.0.0, h.0.0, r.0) found r.2)

-- a pixel is read where more bytes follow
pixel_at-with_more : (bytes : List ℕ) (found : Bool × List ℕ) (more : List ℕ)
    → pixel_at bytes ≡ Ok found → pixel_at (bytes ++ more) ≡ Ok (found.0, found.1 ++ more)
pixel_at-with_more [] found more e = absurd cc
pixel_at-with_more (byte ∷ rest) found more e = grind (arith, nat_tests, common_steps)

-- a pixel after the rest of a gap is read where more bytes follow
spaced-with_more : (bytes : List ℕ) (found : Bool × List ℕ) (more : List ℕ)
    → (filling false bytes >>= pixel_at) ≡ Ok found
    → (filling false (bytes ++ more) >>= pixel_at) ≡ Ok (found.0, found.1 ++ more)
spaced-with_more bytes found more e = let b = bind_ok (filling false bytes) pixel_at found e in
    rw (filling-with_more false bytes b.0 more b.1) (pixel_at-with_more b.0 found more b.2)

-- the next pixel is read where more bytes follow
next_pixel-with_more : (bytes : List ℕ) (found : Bool × List ℕ) (more : List ℕ)
    → next_pixel bytes ≡ Ok found → next_pixel (bytes ++ more) ≡ Ok (found.0, found.1 ++ more)
unfolding next_pixel
next_pixel-with_more [] found more e = absurd cc
next_pixel-with_more (byte ∷ rest) found more e =
    let behind = spaced-with_more rest found more in
    let here = pixel_at-with_more (byte ∷ rest) found more in
    grind (arith, nat_tests, common_steps, behind, here)

-- as many pixels as are wanted are read where more bytes follow
pixels-with_more : (n : ℕ) (bytes : List ℕ) (found : List Bool × List ℕ) (more : List ℕ)
    → pixels n bytes ≡ Ok found → pixels n (bytes ++ more) ≡ Ok (found.0, found.1 ++ more)
unfolding pixels
pixels-with_more zero bytes found more e =
    ap (λ (f : List Bool × List ℕ). Ok (f.0, f.1 ++ more)) (ok_is ([], bytes) found e)
pixels-with_more (suc n) bytes found more e =
    let a = bind_ok (next_pixel bytes)
    (λ first. pixels n first.1 >>= λ others. Ok (first.0 ∷ others.0, others.1)) found e in
    let b = bind_ok (pixels n a.0.1) (λ others. Ok (a.0.0 ∷ others.0, others.1)) found a.2 in
    rw (next_pixel-with_more bytes a.0 more a.1, pixels-with_more n a.0.1 b.0 more b.1)
    (ap (λ (f : List Bool × List ℕ). Ok (f.0, f.1 ++ more))
    (ok_is (a.0.0 ∷ b.0.0, b.0.1) found b.2))

-- where some bytes are left, as many were taken as there are fewer of them
taken-behind : (bytes text rest : List ℕ) → bytes ≡ text ++ rest → (length rest ≤ length bytes)
    × (drop (length bytes - length rest) bytes ≡ rest)
taken-behind bytes text rest split = grind (arith, nat_tests, common_steps)

-- what stands before the rest, where pixels are read
pixels-split : (n : ℕ) (bytes : List ℕ) (found : List Bool × List ℕ) → pixels n bytes ≡ Ok found
    → (text : List ℕ) × (bytes ≡ text ++ found.1)
unfolding pixels
pixels-split zero bytes found e =
    ([], ap (λ (f : List Bool × List ℕ). f.1) (ok_is ([], bytes) found e))
pixels-split (suc n) bytes found e = let r = pixels-read n bytes found e in
    (r.between ++ r.text, r.split ∙ sym (append_assoc r.between r.text found.1))

-- the parts before a raster, and what stands after them
regroup : (second : ℕ) (a b c d e rest : List ℕ)
    → (80 ∷ second ∷ (a ++ (b ++ (c ++ (d ++ e))))) ++ rest
    ≡ 80 ∷ second ∷ (a ++ (b ++ (c ++ (d ++ (e ++ rest)))))
regroup second a b c d e rest = simp append_assoc

-- what stands before the rest, where all before a raster is read
header-split : (bytes : List ℕ) (found : Form × ℕ × ℕ × List ℕ) → header bytes ≡ Ok found
    → (text : List ℕ) × (bytes ≡ text ++ found.3)
header-split bytes found e =
    let r = header-read bytes found e in (
      80 ∷ form_digit found.0
          ∷ (r.before_width ++ (r.width ++ (r.before_height ++ (r.height ++ r.before_raster)))),
      r.split
          ∙ sym (regroup (form_digit found.0) r.before_width r.width r.before_height r.height
          r.before_raster found.3),
    )

-- all before a raster, read of a window, stands with any bytes after it
pub Stands-header : (bytes : List ℕ) (form : Form) (width height : ℕ) (rest : List ℕ)
    → header bytes ≡ Ok (form, width, height, rest)
    → Stands (length bytes - length rest) bytes
    (λ all left. header all ≡ Ok (form, width, height, left))
Stands-header bytes form width height rest e =
    let s = header-split bytes (form, width, height, rest) e in
    let t = taken-behind bytes s.0 rest s.1 in
    record {
      inside = omega arith;
      holds = λ more. header-with_more bytes (form, width, height, rest) more e
          ∙ ap (λ (r : List ℕ). Ok (form, width, height, r ++ more)) (sym t.1);
    }

-- the bits of some pixels, read of a window, stand with any bytes after them
pub Stands-bits : (count : ℕ) (bytes : List ℕ) (word : ℕ) (rest : List ℕ)
    → AreBitsRead count bytes word rest
    → Stands (length bytes - length rest) bytes (λ all left. AreBitsRead count all word left)
Stands-bits count bytes word rest are =
    let s = pixels-split count bytes (are.all, rest) are.read in
    let t = taken-behind bytes s.0 rest s.1 in
    record {
      inside = omega arith;
      holds = λ more. record {
        all = are.all;
        size = are.size;
        read = pixels-with_more count bytes (are.all, rest) more are.read
            ∙ ap (λ (r : List ℕ). Ok (are.all, r ++ more)) (sym t.1);
        bits = are.bits;
      };
    }

-- what is left after all before a raster is no longer than the bytes
pub header-within : (bytes : List ℕ) (form : Form) (width height : ℕ) (rest : List ℕ)
    → header bytes ≡ Ok (form, width, height, rest) → length rest ≤ length bytes
header-within bytes form width height rest e =
    let s = header-split bytes (form, width, height, rest) e in (taken-behind bytes s.0 rest s.1).0

-- what is left after some pixels is no longer than the bytes
pub bits-within : (count : ℕ) (bytes : List ℕ) (word : ℕ) (rest : List ℕ)
    → AreBitsRead count bytes word rest → length rest ≤ length bytes
bits-within count bytes word rest are = let s = pixels-split count bytes (are.all, rest) are.read in
    (taken-behind bytes s.0 rest s.1).0
