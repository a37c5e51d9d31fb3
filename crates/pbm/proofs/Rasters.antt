-- Rasters: what is read is spelled so, and what is spelled so is read.
use Rattle.std.proofs.Common.{◌≡◌, ℕ, zero, suc, ◌-◌, ◌+◌, ◌<◌, Bool, true, false, cond, eqb, List}
use Rattle.std.proofs.Common.{[], ◌∷◌, ◌++◌, length, Result, Ok, Err, refl, sym, ap, ◌∙◌}
use Rattle.std.proofs.Common.{append_assoc, inl, inr, arith, rules}
use Rattle.metric.specs.declared.fault.PbmFault.{PbmFault}
use Rattle.metric.specs.declared.fault.PbmFault.TheVariants.{BadComment}
use Rattle.pbm.specs.Faults.{◌>>=◌, filling, gap, pixel_at, next_pixel, pixels}
use Rattle.pbm.specs.Image.{is_whitespace, IsGap, pixel_byte, IsBetween, IsRaster}
use Rattle.pbm.proofs.Steps.{bind_ok, chosen}
use Rattle.pbm.proofs.Gaps.{GapRead-from, EndsGap, filling-again, gap-again}
use Rattle.std.proofs.lemmas.Grind.{common_steps}
use Rattle.std.proofs.lemmas.Bool.Decides.{nat_tests}

-- a pixel that is read is spelled so
pixel_at-read : (bytes : List ℕ) (found : Bool × List ℕ) → pixel_at bytes ≡ Ok found
    → bytes ≡ pixel_byte found.0 ∷ found.1
pixel_at-read [] found e = absurd cc
pixel_at-read (byte ∷ rest) found e = grind (arith, nat_tests, common_steps)

-- a pixel was read, after nothing or a gap
record PixelRead (bytes : List ℕ) (found : Bool × List ℕ) : Type 0 where
  between : List ℕ
  is_between : IsBetween between
  split : bytes ≡ between ++ (pixel_byte found.0 ∷ found.1)

-- the next pixel that is read is spelled so
next_pixel-read : (bytes : List ℕ) (found : Bool × List ℕ) → next_pixel bytes ≡ Ok found
    → PixelRead bytes found
unfolding next_pixel
next_pixel-read [] found e = absurd cc
next_pixel-read (byte ∷ rest) found e =
    elim (chosen (is_whitespace byte) (filling false rest >>= pixel_at)
    (cond (eqb byte 35) (Err BadComment) (pixel_at (byte ∷ rest))) (Ok found) e) [
      | inl spaced ↦
          let b = bind_ok (filling false rest) pixel_at found spaced.1 in
          let g = GapRead-from byte rest b.0 spaced.0 b.1 in
          record {
            between = g.text;
            is_between = inr g.is_gap;
            split = g.split ∙ ap (λ (t : List ℕ). g.text ++ t) (pixel_at-read b.0 found b.2);
          }
      | inr here ↦ elim (chosen (eqb byte 35) (Err BadComment) (pixel_at (byte ∷ rest))
          (Ok found) here.1) [
            | inl comment ↦ absurd (let no = comment.1 in cc)
            | inr at ↦ record {
              between = [];
              is_between = inl refl;
              split = pixel_at-read (byte ∷ rest) found at.1;
            }
          ]
    ]

-- a raster of this many pixels was read, after nothing or a gap
pub record RasterRead (n : ℕ) (bytes : List ℕ) (found : List Bool × List ℕ) : Type 0 where
  pub between : List ℕ
  pub text : List ℕ
  pub is_between : IsBetween between
  pub is_raster : IsRaster text found.0
  pub split : bytes ≡ between ++ (text ++ found.1)
  pub count : length found.0 ≡ n

-- a pixel, nothing or a gap and a raster are a raster
IsRaster-cons : (pixel : Bool) (all : List Bool) (between rest : List ℕ) → 0 < length all
    → IsBetween between → IsRaster rest all
    → IsRaster (pixel_byte pixel ∷ (between ++ rest)) (pixel ∷ all)
unfolding IsRaster
IsRaster-cons pixel [] between rest some is_between is = absurd (omega arith)
IsRaster-cons pixel (next ∷ all) between rest some is_between is =
    (between, rest, is_between, is, refl)

-- one pixel is a raster
RasterRead-one : (bytes : List ℕ) (first : Bool × List ℕ) → PixelRead bytes first
    → RasterRead 1 bytes (first.0 ∷ [], first.1)
unfolding IsRaster
RasterRead-one bytes first p = grind (arith, nat_tests, common_steps)

-- a pixel and a raster are a raster
RasterRead-cons : (n : ℕ) (bytes : List ℕ) (first : Bool × List ℕ) (others : List Bool × List ℕ)
    → PixelRead bytes first → RasterRead (suc n) first.1 others
    → RasterRead (suc (suc n)) bytes (first.0 ∷ others.0, others.1)
RasterRead-cons n bytes first others p r =
    let some : 0 < length others.0 = omega (arith, r.count) in
    record {
      between = p.between;
      text = pixel_byte first.0 ∷ (r.between ++ r.text);
      is_between = p.is_between;
      is_raster = IsRaster-cons first.0 others.0 r.between r.text some r.is_between r.is_raster;
      split = p.split ∙ ap (λ (t : List ℕ). p.between ++ (pixel_byte first.0 ∷ t))
          (r.split ∙ sym (append_assoc r.between r.text others.1));
      count = ap suc r.count;
    }

-- pixels that are read are spelled so
pub pixels-read : (n : ℕ) (bytes : List ℕ) (found : List Bool × List ℕ)
    → pixels (suc n) bytes ≡ Ok found → RasterRead (suc n) bytes found
unfolding pixels
pixels-read zero bytes found e =
    grind (arith, nat_tests, common_steps, RasterRead-one, bind_ok, next_pixel-read)
pixels-read (suc n) bytes found e =
    let others = pixels-read n in
    grind (arith, nat_tests, common_steps, RasterRead-cons, bind_ok, next_pixel-read, others)

-- a gap ends at a pixel
pixel-ends : (pixel : Bool) → EndsGap (pixel_byte pixel)
pixel-ends true = record { no_whitespace = refl; no_comment = refl }
pixel-ends false = record { no_whitespace = refl; no_comment = refl }

-- a pixel is read
pixel_at-again : (pixel : Bool) (rest : List ℕ)
    → pixel_at (pixel_byte pixel ∷ rest) ≡ Ok (pixel, rest)
pixel_at-again true rest = refl
pixel_at-again false rest = refl

-- a pixel is read after nothing
next_pixel-here : (pixel : Bool) (rest : List ℕ)
    → next_pixel (pixel_byte pixel ∷ rest) ≡ Ok (pixel, rest)
unfolding next_pixel
next_pixel-here true rest = refl
next_pixel-here false rest = refl

-- a pixel is read after a gap
next_pixel-spaced : (first : ℕ) (others : List ℕ) (pixel : Bool) (rest : List ℕ)
    → is_whitespace first ≡ true
    → filling false (others ++ pixel_byte pixel ∷ rest) ≡ Ok (pixel_byte pixel ∷ rest)
    → next_pixel ((first ∷ others) ++ pixel_byte pixel ∷ rest) ≡ Ok (pixel, rest)
unfolding next_pixel
next_pixel-spaced first others pixel rest is h = rw (is, h) (pixel_at-again pixel rest)

-- a pixel is read after nothing or a gap
next_pixel-again : (between : List ℕ) (pixel : Bool) (rest : List ℕ) → IsBetween between
    → next_pixel (between ++ pixel_byte pixel ∷ rest) ≡ Ok (pixel, rest)
next_pixel-again between pixel rest is =
    grind (
      arith,
      nat_tests,
      common_steps,
      filling-again,
      next_pixel-here,
      next_pixel-spaced,
      pixel-ends,
    )

-- a raster is read after nothing or a gap
raster-again : (all : List Bool) (pixel : Bool) (between text rest : List ℕ) → IsBetween between
    → IsRaster text (pixel ∷ all)
    → pixels (suc (length all)) (between ++ (text ++ rest)) ≡ Ok (pixel ∷ all, rest)
unfolding pixels IsRaster
raster-again [] pixel between text rest is_between is =
    grind (arith, nat_tests, common_steps, next_pixel-again)
raster-again (next ∷ all) pixel between text rest is_between is =
    search (rules, arith, append_assoc, next_pixel-again, raster-again all next)

-- a raster that is spelled so is read
pub pixels-again : (all : List Bool) (n : ℕ) (text rest : List ℕ) → length all ≡ n → 0 < n
    → IsRaster text all → pixels n (text ++ rest) ≡ Ok (all, rest)
pixels-again [] n text rest count some is = absurd (omega arith)
pixels-again (pixel ∷ all) n text rest count some is =
    ap (λ (m : ℕ). pixels m (text ++ rest)) (sym count)
    ∙ raster-again all pixel [] text rest (inl refl) is

-- a raster starts with its first pixel
raster-front : (all : List Bool) (pixel : Bool) (text : List ℕ) → IsRaster text (pixel ∷ all)
    → (more : List ℕ) × (text ≡ pixel_byte pixel ∷ more)
unfolding IsRaster
raster-front [] pixel text is = ([], is)
raster-front (next ∷ all) pixel text is = (is.0 ++ is.1, is.4)

-- the gap before a raster is read
pub gap-before_raster : (all : List Bool) (text gap_text rest : List ℕ) → 0 < length all
    → IsRaster text all → IsGap gap_text → gap (gap_text ++ (text ++ rest)) ≡ Ok (text ++ rest)
gap-before_raster [] text gap_text rest some is is_gap = absurd (omega arith)
gap-before_raster (pixel ∷ all) text gap_text rest some is is_gap =
    grind (arith, nat_tests, common_steps, gap-again, pixel-ends, raster-front)

-- what was read before, and what is still read
abbrev pub with_front : List Bool → Result (List Bool × List ℕ) PbmFault
    → Result (List Bool × List ℕ) PbmFault
with_front front read = read >>= λ x. Ok (front ++ x.0, x.1)

-- where nothing was read before, what is still read is all
pub with_front-nil : (read : Result (List Bool × List ℕ) PbmFault) → with_front [] read ≡ read
with_front-nil (Ok x) = refl
with_front-nil (Err fault) = refl

-- a pixel that is read after a front belongs to the front
with_front-cons : (front : List Bool) (pixel : Bool) (read : Result (List Bool × List ℕ) PbmFault)
    → with_front front (read >>= λ x. Ok (pixel ∷ x.0, x.1)) ≡ with_front (front ++ pixel ∷ []) read
with_front-cons front pixel (Ok x) = ap (λ (all : List Bool). Ok (all, x.1)) (simp append_assoc)
with_front-cons front pixel (Err fault) = refl

-- a pixel goes over from those to read to those that were read
pub pixels-more : (front : List Bool) (count k : ℕ) (bytes : List ℕ) (pixel : Bool) (rest : List ℕ)
    (whole : Result (List Bool × List ℕ) PbmFault) → k < count → next_pixel bytes ≡ Ok (pixel, rest)
    → whole ≡ with_front front (pixels (count - k) bytes)
    → whole ≡ with_front (front ++ pixel ∷ []) (pixels (count - (k + 1)) rest)
unfolding pixels
pixels-more front count k bytes pixel rest whole few h so_far =
    let more : count - k ≡ suc (count - (k + 1)) = omega arith in
    let one : with_front front (pixels (count - k) bytes)
    ≡ with_front (front ++ pixel ∷ []) (pixels (count - (k + 1)) rest) =
    rw (more, h) (with_front-cons front pixel (pixels (count - (k + 1)) rest)) in
    so_far ∙ one

-- a fault at a pixel is the raster's
pub pixels-fault : (front : List Bool) (count k : ℕ) (bytes : List ℕ) (fault : PbmFault)
    (whole : Result (List Bool × List ℕ) PbmFault) → k < count → next_pixel bytes ≡ Err fault
    → whole ≡ with_front front (pixels (count - k) bytes) → whole ≡ Err fault
unfolding pixels
pixels-fault front count k bytes fault whole few h so_far = grind (arith, nat_tests, common_steps)

-- where no pixel is left to read, all pixels are those of the front
pub pixels-done : (front : List Bool) (count : ℕ) (bytes : List ℕ)
    (whole : Result (List Bool × List ℕ) PbmFault)
    → whole ≡ with_front front (pixels (count - count) bytes) → whole ≡ Ok (front, bytes)
unfolding pixels
pixels-done front count bytes whole so_far = grind (arith, nat_tests, common_steps)
