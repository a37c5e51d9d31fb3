-- Images: what is read is an image, and an image is read.
use Rattle.std.proofs.Common.{◌≡◌, ℕ, zero, suc, ◌+◌, ◌-◌, ◌*◌, ◌<◌, ◌≤◌, Bool, List, [], ◌∷◌, ◌++◌}
use Rattle.std.proofs.Common.{length, get_or, Ok, Err, refl, sym, ap, subst, ◌∙◌, append_assoc, inl}
use Rattle.std.proofs.Common.{inr, arith, rules}
use Rattle.std.proofs.lemmas.List.{append-nil, length-append}
use Rattle.metric.specs.declared.fault.PbmFault.{PbmFault}
use Rattle.bits.specs.Cells.{Cells, IsSide, IsBitmap}
use Rattle.bits.proofs.CellsLemmas.{IsBitmap-cells_where}
use Rattle.pbm.specs.declared.header.Form.{Form}
use Rattle.pbm.specs.declared.header.Form.TheVariants.{Plain, Raw}
use Rattle.pbm.specs.Faults.{◌>>=◌, header, pixels, ended, cells_of_pixels, plain_raster}
use Rattle.pbm.specs.Faults.{raw_raster, raster, image}
use Rattle.pbm.specs.Image.{IsGap, IsNumber, IsBetween, IsRaster, pixels_of, IsPlain}
use Rattle.pbm.specs.Image.{IsRaw, IsImage, IsEnd, Reads}
use Rattle.pbm.proofs.Steps.{ok_is, bind_ok}
use Rattle.pbm.proofs.Gaps.{space-again, fills-append, fills-gap}
use Rattle.pbm.proofs.Rasters.{RasterRead, pixels-read, pixels-again, gap-before_raster}
use Rattle.pbm.proofs.RawRasters.{RawRead, raw_raster-read, raw_raster-again}
use Rattle.pbm.proofs.Pixels.{place-below, length-pixels_of, cells_of-pixels_of, pixels_of-cells_of}
use Rattle.pbm.proofs.Headers.{HeaderRead, header-read, header-again}
use Rattle.std.proofs.lemmas.Grind.{common_steps}
use Rattle.std.proofs.lemmas.Bool.Decides.{nat_tests}

-- a gap, and nothing or a gap after it, are a gap
IsGap-append : (text between : List ℕ) → IsGap text → IsBetween between → IsGap (text ++ between)
IsGap-append text between is is_between =
    grind (arith, nat_tests, common_steps, append-nil, fills-append, fills-gap)

-- what is accepted after an image ends it
ended-read : (bytes rest : List ℕ) → ended bytes ≡ Ok rest → (bytes ≡ rest) × IsEnd rest
ended-read [] rest e = let same = ok_is [] rest e in (same, subst (λ (t : List ℕ). IsEnd t) same tt)
ended-read (byte ∷ others) rest e = grind (arith, nat_tests, common_steps)

-- what ends an image is accepted after it
ended-again : (rest : List ℕ) → IsEnd rest → ended rest ≡ Ok rest
ended-again [] end = refl
ended-again (byte ∷ others) end = rw end refl

-- some pixels that are read are a raster
raster-read : (n : ℕ) (bytes : List ℕ) (found : List Bool × List ℕ) → 0 < n
    → pixels n bytes ≡ Ok found → RasterRead n bytes found
raster-read zero bytes found some e = absurd (omega arith)
raster-read (suc n) bytes found some e = pixels-read n bytes found e

-- the parts of an image and what follows it regroup, where a gap was read in two parts
regroup-two_gaps : (a b c d e f g rest : List ℕ)
    → (80 ∷ 49 ∷ (a ++ (b ++ (c ++ (d ++ ((e ++ f) ++ g)))))) ++ rest
    ≡ 80 ∷ 49 ∷ (a ++ (b ++ (c ++ (d ++ (e ++ (f ++ (g ++ rest)))))))
regroup-two_gaps a b c d e f g rest = simp append_assoc

-- the parts of an image and what follows it regroup
regroup : (a b c d e g rest : List ℕ)
    → (80 ∷ 49 ∷ (a ++ (b ++ (c ++ (d ++ (e ++ g)))))) ++ rest
    ≡ 80 ∷ 49 ∷ (a ++ (b ++ (c ++ (d ++ (e ++ (g ++ rest))))))
regroup a b c d e g rest = simp append_assoc

-- the parts of a raw image and what follows it regroup
regroup-raw : (a b c d : List ℕ) (space : ℕ) (g rest : List ℕ)
    → (80 ∷ 52 ∷ (a ++ (b ++ (c ++ (d ++ (space ∷ g)))))) ++ rest
    ≡ 80 ∷ 52 ∷ (a ++ (b ++ (c ++ (d ++ ((space ∷ []) ++ (g ++ rest))))))
regroup-raw a b c d space g rest = simp append_assoc

-- no text is a raw image and a plain one
one_form : (text : List ℕ) (cells : Cells) → IsRaw text cells → IsPlain text cells → ⊥
one_form text cells raw plain =
    let second = ap (λ (t : List ℕ). get_or t 1 0) (sym raw.is_text ∙ plain.is_text) in omega arith

-- an image was read from the bytes
pub record ImageRead (bytes : List ℕ) (found : Cells × List ℕ) : Type 0 where
  pub text : List ℕ
  pub split : bytes ≡ text ++ found.1
  pub is_image : IsImage text found.0
  pub end : IsPlain text found.0 → IsEnd found.1

-- a header, a plain raster and an end are an image
ImageRead-plain : (bytes : List ℕ) (width height : ℕ) (raster_bytes : List ℕ)
    (all : List Bool × List ℕ) → HeaderRead bytes (Plain, width, height, raster_bytes)
    → RasterRead (width * height) raster_bytes all → IsEnd all.1
    → ImageRead bytes (cells_of_pixels width height all.0, all.1)
ImageRead-plain bytes width height raster_bytes all h r end =
    record {
      text = 80 ∷ 49
          ∷ (h.before_width
          ++ (h.width ++ (h.before_height
          ++ (h.height ++ ((h.before_raster ++ r.between) ++ r.text)))));
      split = h.split
          ∙ ap (λ (t : List ℕ). 80 ∷ 49
          ∷ (h.before_width
          ++ (h.width ++ (h.before_height ++ (h.height ++ (h.before_raster ++ t)))))) r.split
          ∙ sym (regroup-two_gaps h.before_width h.width h.before_height h.height h.before_raster
          r.between r.text all.1);
      is_image = inl (record {
        bitmap = IsBitmap-cells_where width height _ h.width_side h.height_side;
        gap_before_width = h.before_width;
        width = h.width;
        gap_before_height = h.before_height;
        height = h.height;
        gap_before_raster = h.before_raster ++ r.between;
        raster = r.text;
        gap_before_width_is = h.before_width_is;
        width_is = h.width_is;
        gap_before_height_is = h.before_height_is;
        height_is = h.height_is;
        gap_before_raster_is = IsGap-append h.before_raster r.between h.before_raster_is
            r.is_between;
        raster_is = subst (λ (pixels_read : List Bool). IsRaster r.text pixels_read)
            (sym (pixels_of-cells_of width height all.0 h.width_side r.count)) r.is_raster;
        is_text = refl;
      });
      end = λ plain. end;
    }

-- an image has a pixel
some_pixels : (width height : ℕ) → IsSide width → IsSide height → 0 < width * height
some_pixels width height width_is height_is =
    omega (arith, place-below width height 0 0 width_is.some height_is.some)

-- where what comes after the pixels of a plain image is accepted, an image was read
behind_pixels : (bytes : List ℕ) (width height : ℕ) (raster_bytes : List ℕ)
    (all : List Bool × List ℕ) (found : Cells × List ℕ)
    → HeaderRead bytes (Plain, width, height, raster_bytes)
    → RasterRead (width * height) raster_bytes all
    → (ended all.1 >>= λ rest. Ok (cells_of_pixels width height all.0, rest)) ≡ Ok found
    → ImageRead bytes found
behind_pixels bytes width height raster_bytes all found h r e =
    let d = bind_ok (ended all.1) (λ rest. Ok (cells_of_pixels width height all.0, rest)) found e in
    let end = ended-read all.1 d.0 d.1 in
    let end_is : IsEnd all.1 = subst (λ (t : List ℕ). IsEnd t) (sym end.0) end.1 in
    let same : ◌≡◌ {A = Cells × List ℕ} (cells_of_pixels width height all.0, all.1) found =
    ap (λ (t : List ℕ). (cells_of_pixels width height all.0, t)) end.0
    ∙ ok_is (cells_of_pixels width height all.0, d.0) found d.2 in
    subst (λ (f : Cells × List ℕ). ImageRead bytes f) same
    (ImageRead-plain bytes width height raster_bytes all h r end_is)

-- a header and a raw raster are an image
ImageRead-raw : (bytes : List ℕ) (width height : ℕ) (raster_bytes : List ℕ) (found : Cells × List ℕ)
    → HeaderRead bytes (Raw, width, height, raster_bytes) → RawRead width height raster_bytes found
    → ImageRead bytes found
ImageRead-raw bytes width height raster_bytes found h r =
    let text : List ℕ = 80 ∷ 52
    ∷ (h.before_width
    ++ (h.width ++ (h.before_height ++ (h.height ++ (h.before_raster_is.byte ∷ r.text))))) in
    let is : IsRaw text found.0 = record {
      bitmap = subst (λ (c : Cells). IsBitmap c) (sym r.cells_are)
          (IsBitmap-cells_where width height _ h.width_side h.height_side);
      gap_before_width = h.before_width;
      width = h.width;
      gap_before_height = h.before_height;
      height = h.height;
      space = h.before_raster_is.byte;
      raster = r.text;
      gap_before_width_is = h.before_width_is;
      width_is = subst (λ (c : Cells). IsNumber h.width c.width) (sym r.cells_are) h.width_is;
      gap_before_height_is = h.before_height_is;
      height_is = subst (λ (c : Cells). IsNumber h.height c.height) (sym r.cells_are) h.height_is;
      space_is = h.before_raster_is.byte_is;
      raster_is = r.is_raster;
      is_text = refl;
    } in
    record {
      text = text;
      split = h.split
          ∙ ap (λ (t : List ℕ). 80 ∷ 52
          ∷ (h.before_width
          ++ (h.width ++ (h.before_height ++ (h.height ++ (t ++ raster_bytes))))))
          h.before_raster_is.is_text
          ∙ ap (λ (t : List ℕ). 80 ∷ 52
          ∷ (h.before_width
          ++ (h.width ++ (h.before_height ++ (h.height ++ (h.before_raster_is.byte ∷ t))))))
          r.split
          ∙ sym (regroup-raw h.before_width h.width h.before_height h.height h.before_raster_is.byte
          r.text found.1);
      is_image = inr is;
      end = λ plain. absurd (one_form text found.0 is plain);
    }

-- where a raster is found after a header, an image was read
behind_header : (bytes : List ℕ) (form : Form) (width height : ℕ) (raster_bytes : List ℕ)
    (found : Cells × List ℕ) → HeaderRead bytes (form, width, height, raster_bytes)
    → raster form width height raster_bytes ≡ Ok found → ImageRead bytes found
unfolding plain_raster
behind_header bytes Plain width height raster_bytes found h e =
    let p = bind_ok (pixels (width * height) raster_bytes)
    (λ all. ended all.1 >>= λ rest. Ok (cells_of_pixels width height all.0, rest)) found e in
    behind_pixels bytes width height raster_bytes p.0 found h
    (raster-read (width * height) raster_bytes p.0
    (some_pixels width height h.width_side h.height_side) p.1) p.2
behind_header bytes Raw width height raster_bytes found h e =
    search (rules, arith, ImageRead-raw, raw_raster-read)

-- an image that is read is an image
image-read : (bytes : List ℕ) (found : Cells × List ℕ) → image bytes ≡ Ok found
    → ImageRead bytes found
unfolding image
image-read bytes found e =
    let h = bind_ok (header bytes) (λ front. raster front.0 front.1 front.2 front.3) found e in
    behind_header bytes h.0.0 h.0.1 h.0.2 h.0.3 found (header-read bytes h.0 h.1) h.2

-- what is before the raster of a plain image is read
header_of-plain : (bytes text rest : List ℕ) (cells : Cells) → bytes ≡ text ++ rest
    → (is : IsPlain text cells)
    → HeaderRead bytes (Plain, cells.width, cells.height, is.raster ++ rest)
header_of-plain bytes text rest cells split is =
    record {
      before_width = is.gap_before_width;
      width = is.width;
      before_height = is.gap_before_height;
      height = is.height;
      before_raster = is.gap_before_raster;
      before_width_is = is.gap_before_width_is;
      width_is = is.width_is;
      before_height_is = is.gap_before_height_is;
      height_is = is.height_is;
      before_raster_is = is.gap_before_raster_is;
      width_side = is.bitmap.width_is;
      height_side = is.bitmap.height_is;
      split = split ∙ ap (λ (t : List ℕ). t ++ rest) is.is_text
          ∙ regroup is.gap_before_width is.width is.gap_before_height is.height is.gap_before_raster
          is.raster rest;
    }

-- a plain image is read
plain-again : (bytes text rest : List ℕ) (cells : Cells) → bytes ≡ text ++ rest → IsPlain text cells
    → IsEnd rest → image bytes ≡ Ok (cells, rest)
unfolding image plain_raster header_of-plain
plain-again bytes text rest cells split is end =
    let some = some_pixels cells.width cells.height is.bitmap.width_is is.bitmap.height_is in
    let some_spelled : 0 < length (pixels_of cells) = omega (arith, some, length-pixels_of cells) in
    let last = gap-before_raster (pixels_of cells) is.raster is.gap_before_raster rest some_spelled
    is.raster_is is.gap_before_raster_is in
    let h : header bytes ≡ Ok (Plain, cells.width, cells.height, is.raster ++ rest) =
    header-again bytes (Plain, cells.width, cells.height, is.raster ++ rest)
    (header_of-plain bytes text rest cells split is) last in
    let p : pixels (cells.width * cells.height) (is.raster ++ rest) ≡ Ok (pixels_of cells, rest) =
    pixels-again (pixels_of cells) (cells.width * cells.height) is.raster rest
    (length-pixels_of cells) some is.raster_is in
    rw (h, p, ended-again rest end)
    (ap (λ (c : Cells). Ok (c, rest)) (cells_of-pixels_of cells is.bitmap))

-- what is before the raster of a raw image is read
header_of-raw : (bytes text rest : List ℕ) (cells : Cells) → bytes ≡ text ++ rest
    → (is : IsRaw text cells) → HeaderRead bytes (Raw, cells.width, cells.height, is.raster ++ rest)
header_of-raw bytes text rest cells split is =
    record {
      before_width = is.gap_before_width;
      width = is.width;
      before_height = is.gap_before_height;
      height = is.height;
      before_raster = is.space ∷ [];
      before_width_is = is.gap_before_width_is;
      width_is = is.width_is;
      before_height_is = is.gap_before_height_is;
      height_is = is.height_is;
      before_raster_is = record { byte = is.space; is_text = refl; byte_is = is.space_is };
      width_side = is.bitmap.width_is;
      height_side = is.bitmap.height_is;
      split = split ∙ ap (λ (t : List ℕ). t ++ rest) is.is_text
          ∙ regroup-raw is.gap_before_width is.width is.gap_before_height is.height is.space
          is.raster
          rest;
    }

-- a raw image is read
raw-again : (bytes text rest : List ℕ) (cells : Cells) → bytes ≡ text ++ rest → IsRaw text cells
    → image bytes ≡ Ok (cells, rest)
unfolding image header_of-raw
raw-again bytes text rest cells split is =
    let last = space-again is.space (is.raster ++ rest) is.space_is in
    let h : header bytes ≡ Ok (Raw, cells.width, cells.height, is.raster ++ rest) =
    header-again bytes (Raw, cells.width, cells.height, is.raster ++ rest)
    (header_of-raw bytes text rest cells split is) last in
    let r : raw_raster cells.width cells.height (is.raster ++ rest) ≡ Ok (cells, rest) =
    raw_raster-again cells is.raster rest is.bitmap is.raster_is in
    rw h r

-- an image is read
image-again : (bytes text rest : List ℕ) (cells : Cells) → bytes ≡ text ++ rest → IsImage text cells
    → (IsPlain text cells → IsEnd rest) → image bytes ≡ Ok (cells, rest)
image-again bytes text rest cells split is end =
    elim is [
      | inl plain ↦ plain-again bytes text rest cells split plain (end plain)
      | inr raw ↦ raw-again bytes text rest cells split raw
    ]

-- what is left after an image is no longer than the bytes
pub image-shorter : (bytes : List ℕ) (found : Cells × List ℕ) → image bytes ≡ Ok found
    → length found.1 ≤ length bytes
image-shorter bytes found e =
    let r = image-read bytes found e in
    omega (arith, length-append r.text found.1, ap length r.split)

-- what is found is read, with that rest
pub image-reads : (bytes rest : List ℕ) (cells : Cells) → image bytes ≡ Ok (cells, rest)
    → (found : Reads bytes (length bytes - length rest) cells) × (found.rest ≡ rest)
image-reads bytes rest cells e =
    let r = image-read bytes (cells, rest) e in (
      record {
        text = r.text;
        rest = rest;
        split = r.split;
        taken = omega (arith, length-append r.text rest, ap length r.split);
        image = r.is_image;
        end = r.end;
      },
      refl,
    )

-- what is read is found, with that rest
pub reads-image : (bytes : List ℕ) (n : ℕ) (cells : Cells) (found : Reads bytes n cells)
    → image bytes ≡ Ok (cells, found.rest)
reads-image bytes n cells found =
    image-again bytes found.text found.rest cells found.split found.image found.end

-- what is left says how many bytes were taken
taken-is : (bytes : List ℕ) (n : ℕ) (cells : Cells) (found : Reads bytes n cells)
    → n + length found.rest ≡ length bytes
taken-is bytes n cells found =
    omega (arith, length-append found.text found.rest, ap length found.split, found.taken)

-- at most one image is read from given bytes
pub one_image-reads : (bytes : List ℕ) (m n : ℕ) (a b : Cells) → Reads bytes m a → Reads bytes n b
    → (m ≡ n) × (a ≡ b)
one_image-reads bytes m n a b first second =
    let same = ok_is (a, first.rest) (b, second.rest)
    (sym (reads-image bytes m a first) ∙ reads-image bytes n b second) in
    let rests : length first.rest ≡ length second.rest =
    ap (λ (p : Cells × List ℕ). length p.1) same in (
      omega (arith, taken-is bytes m a first, taken-is bytes n b second, rests),
      ap (λ (p : Cells × List ℕ). p.0) same,
    )

-- a fault means that no image is read
pub fault-none : (bytes : List ℕ) (fault : PbmFault) → image bytes ≡ Err fault
    → (n : ℕ) (cells : Cells) → Reads bytes n cells → ⊥
fault-none bytes fault e n cells found = let is = reads-image bytes n cells found in cc
