-- Strips of distances in halves.
use Rattle.std.proofs.Common.{◌≡◌, ℕ, ◌+◌, ◌-◌, ◌*◌, ◌/◌, ◌%◌, ◌<◌, ◌≤◌, inl, inr}
use Rattle.std.proofs.Common.{List, [], length, map, arith, slice_index_or}
use Rattle.std.proofs.Math.Nat.{mul-le-mul_right}
use Rattle.std.proofs.lemmas.Bool.{cases_lt}
use Rattle.std.proofs.lemmas.List.{length-map}
use Rattle.field.proofs.StripLemmas.{line_within, strip_below, strip_here}
use Rattle.field.specs.declared.compact_strip.CompactStrip.{CompactStrip}
use Rattle.field.specs.Distances.{HaveNumbers, distances_in}
use Rattle.field.specs.Compact.{AreCompact, AreLines, HasLines, numbers_in, numbers_kept}
use Rattle.field.proofs.HalfLemmas.{length-numbers_kept}

-- a row whose distances end among those of a strip is one of the strip's rows
row_below : (width : ℕ) (low high starts : List ℕ) (row : ℕ) → AreLines width low high starts
    → row * width + width ≤ length (numbers_kept width low high starts) → row < length starts
row_below width low high starts row are within =
    let many = are.as_many in
    let some = are.some in
    let all = length-numbers_kept width low high starts in
    elim (cases_lt row (length starts)) [
      | inl less ↦ less
      | inr more ↦
          let through : length starts * width ≤ row * width = mul-le-mul_right width more in
          absurd (omega (arith, within, all, many, some, through))
    ]

-- the row is one of the strip's, which is that of the row among all strips
pub record IsInStrip (width height row : ℕ) (strips : List CompactStrip) (strip : CompactStrip) :
    Type 0 where
  pub inside : row % height < length strip.starts.items
  pub here : numbers_in width strip
      ≡ slice_index_or (map (numbers_in width) strips) (row / height) []

-- a row of a table is in the strip that is read for it
pub IsInStrip-read : (width y0 y1 height row : ℕ) (strips : List CompactStrip)
    (strip : CompactStrip)
    → HaveNumbers (distances_in width y0 y1 height (map (numbers_in width) strips))
    → AreCompact width strips → row < y1 - y0
    → strip ≡ slice_index_or strips (row / height) strip
    → IsInStrip width height row strips strip
IsInStrip-read width y0 y1 height row strips strip have compact below read =
    let lists : List (List ℕ) = map (numbers_in width) strips in
    let placed = have.placed in
    let here = strip_here (numbers_in width) strips height (y1 - y0) row strip placed.some
    placed.enough below read in
    let number : row / height < length lists =
    strip_below height (y1 - y0) (length lists) row placed.some placed.enough below in
    let inside : row / height < length strips =
    rw (length-map strips (numbers_in width)) at number in
    let lines : HasLines width strip = rw (← read) at (compact.each (row / height) strip inside) in
    let within = line_within width height (y1 - y0) lists row placed below in
    record {
      inside = row_below width strip.low.items strip.high.items strip.starts.items (row % height)
          lines (rw here within);
      here = here;
    }
