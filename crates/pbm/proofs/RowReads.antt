-- How far a raw raster was read into its bitmap, row by row.
use Rattle.std.proofs.Common.{◌≡◌, ℕ, ◌+◌, ◌-◌, ◌*◌, ◌/◌, ◌%◌, ◌<◌, ◌≤◌, ◌==◌, Bool, true, false}
use Rattle.std.proofs.Common.{[], Option, List, length, take, drop, get_or, Ok, Err, refl, sym, ap}
use Rattle.std.proofs.Common.{◌∙◌, arith, length-drop}
use Rattle.std.specs.Int.{bit_at}
use Rattle.std.proofs.lemmas.Bool.{le-ltb}
use Rattle.std.proofs.lemmas.List.{get_or-take, get_or-drop, drop-drop}
use Rattle.metric.specs.Stream.{AreAll}
use Rattle.metric.specs.declared.fault.PbmFault.{PbmFault}
use Rattle.metric.specs.declared.fault.PbmFault.TheVariants.{Truncated}
use Rattle.bits.specs.Cells.{Cells, cells_where}
use Rattle.bits.specs.Words.{words_across}
use Rattle.bits.specs.Writes.{with_row}
use Rattle.bits.proofs.CellsLemmas.{cells_where-same}
use Rattle.pbm.specs.Faults.{raw_cells, raw_raster}
use Rattle.pbm.specs.Image.{bytes_across, raw_pixel}
use Rattle.pbm.specs.Raw.{IsRowRead}
use Rattle.pbm.specs.Windows.{Meets}
use Rattle.pbm.proofs.Following.{Meets-end}
use Rattle.pbm.proofs.RasterRows.{drawn_row-more}
use Rattle.pbm.proofs.Words.{drawn_words, drawn_words-all, place-below_row, raw_word-pixel}
use Rattle.std.proofs.lemmas.Grind.{common_steps}
use Rattle.std.proofs.lemmas.Bool.Decides.{nat_tests}

-- the rows above row y were read into the bitmap, and the others stand in what is left
pub record IsRawTo (width height y : ℕ) (all left : List ℕ) (cells : Cells) : Type 0 where
  pub enough : y * bytes_across width ≤ length all
  pub behind : left ≡ drop (y * bytes_across width) all
  pub drawn : cells ≡ drawn_words width height (raw_pixel (bytes_across width) all)
      (y * words_across width)

-- no row was read into a blank bitmap
pub IsRawTo-none : (width height : ℕ) (bytes : List ℕ) (cells : Cells)
    → cells ≡ cells_where width height (λ x y. false) → IsRawTo width height 0 bytes bytes cells
IsRawTo-none width height bytes cells blank = grind (arith, nat_tests, common_steps)

-- a further row was read
pub IsRawTo-row : (width height y : ℕ) (all here left words : List ℕ) (cells : Cells)
    → width ≤ 4096 → IsRawTo width height y all here cells
    → IsRowRead (bytes_across width) here words left
    → IsRawTo width height (y + 1) all left (with_row cells y words)
IsRawTo-row width height y all here left words cells few so_far read =
    let across : ℕ = bytes_across width in
    let start : ℕ = y * across in
    let next : (y + 1) * across ≡ start + across = omega arith in
    let size : length here ≡ length all - start =
    ap (λ (l : List ℕ). length l) so_far.behind ∙ length-drop start all in
    let so = so_far.enough in
    let more = read.enough in
    record {
      enough = omega (arith, next, size, so, more);
      behind = read.left ∙ (ap (λ (l : List ℕ). drop across l) so_far.behind
          ∙ (drop-drop across start all ∙ ap (λ (n : ℕ). drop n all) (sym next)));
      drawn = ap (λ (c : Cells). with_row c y words) so_far.drawn
          ∙ drawn_row-more width height y words (raw_pixel across all)
          (λ k i column within inside.
          let place : start + (8 * k + i / 8) ≡ start + 8 * k + i / 8 = omega arith in
          raw_word-pixel across all y k (start + 8 * k) i (get_or words k 0) refl
          (read.bits k (omega arith) i within (omega arith)
          ∙ ap (λ (byte : ℕ). bit_at byte (7 - i % 8))
          (ap (λ (l : List ℕ). get_or l (8 * k + i / 8) 0) so_far.behind
          ∙ (get_or-drop start all (8 * k + i / 8) 0
          ∙ ap (λ (n : ℕ). get_or all n 0) place))));
    }

-- where each row was read, the raster was
pub IsRawTo-all : (width height : ℕ) (all left : List ℕ) (cells : Cells)
    → IsRawTo width height height all left cells → raw_raster width height all ≡ Ok (cells, left)
unfolding raw_raster
IsRawTo-all width height all left cells whole =
    let across : ℕ = bytes_across width in
    let needed : ℕ = height * across in
    let same : raw_cells width height (take needed all) ≡ cells =
    cells_where-same width height (raw_pixel across (take needed all)) (raw_pixel across all)
    (λ a b ha hb.
    let column : a / 8 < across = omega arith in
    ap (λ (byte : ℕ). bit_at byte (7 - a % 8) == 1)
    (get_or-take needed all (b * across + a / 8) 0
    (place-below_row across height (a / 8) b column hb)))
    ∙ sym (whole.drawn ∙ drawn_words-all width height (height * words_across width)
    (raw_pixel across all) refl) in
    rw (le-ltb (length all) needed whole.enough, same, sym whole.behind) refl

-- where the bytes left are fewer than a row, the raster is cut
pub IsRawTo-cut : (width height y : ℕ) (cells : Cells) (fault : PbmFault) (all here : List ℕ)
    → y < height → IsRawTo width height y all here cells
    → (fault ≡ Truncated) × (length here < bytes_across width)
    → raw_raster width height all ≡ Err fault
unfolding raw_raster
IsRawTo-cut width height y cells fault all here row so_far cut =
    grind (arith, nat_tests, common_steps)

-- where a source has ended with fewer bytes than a row takes, there are no more of them
pub row-cut : (rest : Option (List ℕ)) (bytes : List ℕ) (across : ℕ) (none : Bool)
    → (none ≡ true → AreAll rest []) → (none ≡ false → across ≤ length bytes)
    → length bytes < across
    → Meets rest bytes (λ all. (Truncated ≡ Truncated) × (length all < across))
row-cut rest bytes across true all some few = Meets-end (all refl) (refl, few)
row-cut rest bytes across false all some few =
    absurd (let enough = some refl in omega (arith, enough, few))
