-- All before a raster: what is read is spelled so, and what is spelled so is read.
use Rattle.std.proofs.Common.{◌≡◌, ℕ, true, false, eqb, List, [], ◌∷◌, ◌++◌, Result, Ok}
use Rattle.std.proofs.Common.{Err, refl, sym, ap, subst, ◌∙◌, arith}
use Rattle.std.proofs.lemmas.Bool.Decides.{nat_tests}
use Rattle.metric.specs.declared.fault.PbmFault.{PbmFault}
use Rattle.metric.specs.declared.fault.PbmFault.TheVariants.{BadMagic, Truncated, Memory}
use Rattle.bits.specs.Cells.{IsSide}
use Rattle.pbm.specs.declared.header.Form.{Form}
use Rattle.pbm.specs.declared.header.Form.TheVariants.{Plain, Raw}
use Rattle.pbm.specs.Faults.{◌>>=◌, magic, gap, number_and_rest, before_raster, header}
use Rattle.metric.specs.Digits.{is_digit}
use Rattle.pbm.specs.Image.{is_whitespace, IsGap, IsNumber}
use Rattle.pbm.specs.Writing.{form_digit}
use Rattle.pbm.proofs.Steps.{ok_is, bind_ok, IsOfBytes, bind-of_bytes, cond-of_bytes}
use Rattle.pbm.proofs.Gaps.{space-read, space-of_bytes, GapRead, gap-read, EndsGap, gap-again}
use Rattle.pbm.proofs.Gaps.{gap-of_bytes}
use Rattle.pbm.proofs.Numbers.{NumberRead, number-read, number-again, number-of_bytes}
use Rattle.std.proofs.lemmas.Grind.{common_steps}

-- a magic number that is read is spelled so
magic-read : (bytes : List ℕ) (found : Form × List ℕ) → magic bytes ≡ Ok found
    → bytes ≡ 80 ∷ form_digit found.0 ∷ found.1
magic-read [] found e = absurd cc
magic-read (p ∷ []) found e = grind (arith, nat_tests, common_steps)
magic-read (p ∷ second ∷ others) found e = grind (arith, nat_tests, common_steps)

-- one whitespace byte
pub record IsSpace (text : List ℕ) : Type 0 where
  pub byte : ℕ
  pub is_text : text ≡ byte ∷ []
  pub byte_is : is_whitespace byte ≡ true

-- what stands between the height and the raster
abbrev pub IsBeforeRaster : Form → List ℕ → Type 0
IsBeforeRaster Plain text = IsGap text
IsBeforeRaster Raw text = IsSpace text

-- what stands between the height and the raster was read
record BeforeRasterRead (form : Form) (bytes rest : List ℕ) : Type 0 where
  text : List ℕ
  split : bytes ≡ text ++ rest
  is : IsBeforeRaster form text

-- what is read between the height and the raster may stand there
before_raster-read : (form : Form) (bytes rest : List ℕ) → before_raster form bytes ≡ Ok rest
    → BeforeRasterRead form bytes rest
before_raster-read Plain bytes rest e = let g = gap-read bytes rest e in
    record { text = g.text; split = g.split; is = g.is_gap }
before_raster-read Raw bytes rest e = let s = space-read bytes rest e in
    record {
      text = s.first ∷ [];
      split = s.split;
      is = record { byte = s.first; is_text = refl; byte_is = s.first_is };
    }

-- all before a raster was read from the bytes
pub record HeaderRead (bytes : List ℕ) (found : Form × ℕ × ℕ × List ℕ) : Type 0 where
  pub before_width : List ℕ
  pub width : List ℕ
  pub before_height : List ℕ
  pub height : List ℕ
  pub before_raster : List ℕ
  pub before_width_is : IsGap before_width
  pub width_is : IsNumber width found.1
  pub before_height_is : IsGap before_height
  pub height_is : IsNumber height found.2
  pub before_raster_is : IsBeforeRaster found.0 before_raster
  pub width_side : IsSide found.1
  pub height_side : IsSide found.2
  pub split : bytes ≡ 80 ∷ form_digit found.0
      ∷ (before_width ++ (width ++ (before_height ++ (height ++ (before_raster ++ found.3)))))

-- the parts before a raster, read one after another, are all before it
HeaderRead-from : (bytes : List ℕ) (named : Form × List ℕ) (before_width : List ℕ)
    (width : ℕ × List ℕ) (before_height : List ℕ) (height : ℕ × List ℕ) (raster_bytes : List ℕ)
    → bytes ≡ 80 ∷ form_digit named.0 ∷ named.1
    → GapRead named.1 before_width → NumberRead before_width width → GapRead width.1 before_height
    → NumberRead before_height height → BeforeRasterRead named.0 height.1 raster_bytes
    → HeaderRead bytes (named.0, width.0, height.0, raster_bytes)
HeaderRead-from bytes named before_width width before_height height raster_bytes split g w k h r =
    let second : ℕ = form_digit named.0 in
    record {
      before_width = g.text;
      width = w.text;
      before_height = k.text;
      height = h.text;
      before_raster = r.text;
      before_width_is = g.is_gap;
      width_is = w.is_number;
      before_height_is = k.is_gap;
      height_is = h.is_number;
      before_raster_is = r.is;
      width_side = w.is_side;
      height_side = h.is_side;
      split = split
          ∙ ap (λ (t : List ℕ). 80 ∷ second ∷ t) g.split
          ∙ ap (λ (t : List ℕ). 80 ∷ second ∷ (g.text ++ t)) w.split
          ∙ ap (λ (t : List ℕ). 80 ∷ second ∷ (g.text ++ (w.text ++ t))) k.split
          ∙ ap (λ (t : List ℕ). 80 ∷ second ∷ (g.text ++ (w.text ++ (k.text ++ t)))) h.split
          ∙ ap (λ (t : List ℕ). 80 ∷ second ∷ (g.text ++ (w.text ++ (k.text ++ (h.text ++ t)))))
          r.split;
    }

-- the steps after the height
abbrev pub behind_height : Form → ℕ → ℕ × List ℕ → Result (Form × ℕ × ℕ × List ℕ) PbmFault
behind_height form width height =
    before_raster form height.1 >>= λ raster_bytes. Ok (form, width, height.0, raster_bytes)

-- the steps after the width
abbrev pub behind_width : Form → ℕ × List ℕ → Result (Form × ℕ × ℕ × List ℕ) PbmFault
behind_width form width =
    gap width.1 >>= λ before_height. number_and_rest before_height >>= behind_height form width.0

-- the steps after the magic number
abbrev pub behind_magic : Form × List ℕ → Result (Form × ℕ × ℕ × List ℕ) PbmFault
behind_magic named =
    gap named.1 >>= λ before_width. number_and_rest before_width >>= behind_width named.0

-- where the steps after the height find something, a header was read
behind_height-read : (bytes : List ℕ) (named : Form × List ℕ) (before_width : List ℕ)
    (width : ℕ × List ℕ) (before_height : List ℕ) (height : ℕ × List ℕ)
    (found : Form × ℕ × ℕ × List ℕ) → bytes ≡ 80 ∷ form_digit named.0 ∷ named.1
    → GapRead named.1 before_width → NumberRead before_width width → GapRead width.1 before_height
    → NumberRead before_height height
    → behind_height named.0 width.0 height ≡ Ok found → HeaderRead bytes found
behind_height-read bytes named before_width width before_height height found split g w k h e =
    let r = bind_ok (before_raster named.0 height.1)
    (λ raster_bytes. Ok (named.0, width.0, height.0, raster_bytes)) found e in
    subst (λ (f : Form × ℕ × ℕ × List ℕ). HeaderRead bytes f)
    (ok_is (named.0, width.0, height.0, r.0) found r.2)
    (HeaderRead-from bytes named before_width width before_height height r.0 split g w k h
    (before_raster-read named.0 height.1 r.0 r.1))

-- where the steps after the width find something, a header was read
behind_width-read : (bytes : List ℕ) (named : Form × List ℕ) (before_width : List ℕ)
    (width : ℕ × List ℕ) (found : Form × ℕ × ℕ × List ℕ) → bytes ≡ 80 ∷ form_digit named.0 ∷ named.1
    → GapRead named.1 before_width → NumberRead before_width width
    → behind_width named.0 width ≡ Ok found → HeaderRead bytes found
behind_width-read bytes named before_width width found split g w e =
    let k = bind_ok (gap width.1) (λ before_height.
    number_and_rest before_height >>= behind_height named.0 width.0) found e in
    let h = bind_ok (number_and_rest k.0) (behind_height named.0 width.0) found k.2 in
    behind_height-read bytes named before_width width k.0 h.0 found split g w
    (gap-read width.1 k.0 k.1) (number-read k.0 h.0 h.1) h.2

-- all that is read before a raster is spelled so
pub header-read : (bytes : List ℕ) (found : Form × ℕ × ℕ × List ℕ) → header bytes ≡ Ok found
    → HeaderRead bytes found
unfolding header
header-read bytes found e =
    let m = bind_ok (magic bytes) behind_magic found e in
    let g = bind_ok (gap m.0.1) (λ before_width.
    number_and_rest before_width >>= behind_width m.0.0) found m.2 in
    let w = bind_ok (number_and_rest g.0) (behind_width m.0.0) found g.2 in
    behind_width-read bytes m.0 g.0 w.0 found (magic-read bytes m.0 m.1) (gap-read m.0.1 g.0 g.1)
    (number-read g.0 w.0 w.1) w.2

-- a gap ends at a digit
digit-ends : (byte : ℕ) → is_digit byte ≡ true → EndsGap byte
digit-ends byte is =
    record { no_whitespace = grind (arith, nat_tests); no_comment = grind (arith, nat_tests) }

-- a number ends at whitespace
whitespace-ends : (byte : ℕ) → is_whitespace byte ≡ true → is_digit byte ≡ false
whitespace-ends byte is = grind (arith, nat_tests)

-- the text starts with whitespace
record BeginsSpaced (text : List ℕ) : Type 0 where
  first : ℕ
  others : List ℕ
  is_text : text ≡ first ∷ others
  first_is : is_whitespace first ≡ true

-- a gap starts with whitespace
BeginsSpaced-gap : (text : List ℕ) → IsGap text → BeginsSpaced text
BeginsSpaced-gap text is =
    record { first = is.first; others = is.others; is_text = is.is_text; first_is = is.first_is }

-- what stands between the height and the raster starts with whitespace
BeginsSpaced-before_raster : (form : Form) (text : List ℕ) → IsBeforeRaster form text
    → BeginsSpaced text
BeginsSpaced-before_raster Plain text is = BeginsSpaced-gap text is
BeginsSpaced-before_raster Raw text is =
    record { first = is.byte; others = []; is_text = is.is_text; first_is = is.byte_is }

-- the gap before a number is read
gap-before_number : (text digits : List ℕ) (value : ℕ) (rest : List ℕ) → IsGap text
    → IsNumber digits value → gap (text ++ (digits ++ rest)) ≡ Ok (digits ++ rest)
gap-before_number text digits value rest is_gap is =
    grind (arith, nat_tests, common_steps, digit-ends, gap-again)

-- a number before whitespace is read
number-before_space : (digits text : List ℕ) (value : ℕ) (rest : List ℕ) → IsNumber digits value
    → IsSide value → BeginsSpaced text
    → number_and_rest (digits ++ (text ++ rest)) ≡ Ok (value, text ++ rest)
number-before_space digits text value rest is side spaced =
    let begins : text ++ rest ≡ spaced.first ∷ (spaced.others ++ rest) =
    ap (λ (t : List ℕ). t ++ rest) spaced.is_text in
    ap (λ (t : List ℕ). number_and_rest (digits ++ t)) begins
    ∙ number-again digits value spaced.first (spaced.others ++ rest) is
    (whitespace-ends spaced.first spaced.first_is) side
    ∙ ap (λ (t : List ℕ). Ok (value, t)) (sym begins)

-- a magic number is read
header-named : (form : Form) (rest : List ℕ)
    → header (80 ∷ form_digit form ∷ rest) ≡ behind_magic (form, rest)
unfolding header
header-named Plain rest = refl
header-named Raw rest = refl

-- all before a raster is read, if what stands directly before it is
pub header-again : (bytes : List ℕ) (found : Form × ℕ × ℕ × List ℕ) (r : HeaderRead bytes found)
    → before_raster found.0 (r.before_raster ++ found.3) ≡ Ok found.3 → header bytes ≡ Ok found
header-again bytes found r last =
    let from_height : List ℕ = r.height ++ (r.before_raster ++ found.3) in
    let from_width : List ℕ = r.width ++ (r.before_height ++ from_height) in
    ap header r.split
    ∙ header-named found.0 (r.before_width ++ from_width)
    ∙ rw (
      gap-before_number r.before_width r.width found.1
          (r.before_height ++ from_height) r.before_width_is r.width_is,
      number-before_space r.width r.before_height found.1 from_height r.width_is r.width_side
          (BeginsSpaced-gap r.before_height r.before_height_is),
      gap-before_number r.before_height r.height found.2
          (r.before_raster ++ found.3) r.before_height_is r.height_is,
      number-before_space r.height r.before_raster found.2 found.3 r.height_is r.height_side
          (BeginsSpaced-before_raster found.0 r.before_raster r.before_raster_is),
      last,
    ) refl

-- no magic number reports out of memory
magic-of_bytes : (bytes : List ℕ) → IsOfBytes (magic bytes)
magic-of_bytes [] = λ e. cc
magic-of_bytes (p ∷ []) =
    cond-of_bytes (eqb p 80) (Err Truncated) (Err BadMagic) (λ e. cc) (λ e. cc)
magic-of_bytes (p ∷ second ∷ rest) = grind (arith, nat_tests, common_steps)

-- nothing between the height and the raster reports out of memory
before_raster-of_bytes : (form : Form) (bytes : List ℕ) → IsOfBytes (before_raster form bytes)
before_raster-of_bytes Plain bytes = gap-of_bytes bytes
before_raster-of_bytes Raw bytes = space-of_bytes bytes

-- nothing before a raster reports out of memory
header-of_bytes : (bytes : List ℕ) → IsOfBytes (header bytes)
unfolding header
header-of_bytes bytes =
    grind (
      arith,
      nat_tests,
      common_steps,
      before_raster-of_bytes,
      bind-of_bytes,
      gap-of_bytes,
      magic-of_bytes,
      number-of_bytes,
    )

-- all before a raster doesn't ask for memory
pub header-memory : (bytes : List ℕ) (fault : PbmFault) → header bytes ≡ Err fault → fault ≡ Memory
    → ⊥
header-memory bytes fault e is = grind (arith, nat_tests, common_steps, IsOfBytes, header-of_bytes)
