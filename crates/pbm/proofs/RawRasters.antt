-- Raw rasters: what is read is spelled so, and what is spelled so is read.
use Rattle.std.proofs.Common.{◌≡◌, ℕ, ◌*◌, List, ◌++◌, length, Ok, arith}
use Rattle.std.proofs.lemmas.Bool.{ltb-false, le-ltb}
use Rattle.std.proofs.lemmas.List.{length-take-le, take-append-drop, take_at, drop_at}
use Rattle.std.proofs.lemmas.List.{length-append}
use Rattle.bits.specs.Cells.{Cells, IsBitmap}
use Rattle.bits.proofs.CellsLemmas.{has-cells_where, cells_where-same, cells_where-has}
use Rattle.pbm.specs.Faults.{raw_cells, raw_raster}
use Rattle.pbm.specs.Image.{bytes_across, IsRawRaster}
use Rattle.std.proofs.lemmas.Grind.{common_steps}
use Rattle.std.proofs.lemmas.Bool.Decides.{nat_tests}

-- a raw raster was read from the bytes
pub record RawRead (width height : ℕ) (bytes : List ℕ) (found : Cells × List ℕ) : Type 0 where
  pub text : List ℕ
  pub split : bytes ≡ text ++ found.1
  pub cells_are : found.0 ≡ raw_cells width height text
  pub is_raster : IsRawRaster text found.0

-- as many bytes as a raster needs are a raster of what they spell
IsRawRaster-cells : (width height : ℕ) (raster : List ℕ)
    → length raster ≡ height * bytes_across width
    → IsRawRaster raster (raw_cells width height raster)
IsRawRaster-cells width height raster count =
    grind (arith, nat_tests, common_steps, has-cells_where)

-- a raw raster that is read is spelled so
pub raw_raster-read : (width height : ℕ) (bytes : List ℕ) (found : Cells × List ℕ)
    → raw_raster width height bytes ≡ Ok found → RawRead width height bytes found
unfolding raw_raster
raw_raster-read width height bytes found e =
    grind (
      arith,
      nat_tests,
      common_steps,
      IsRawRaster-cells,
      length-take-le,
      ltb-false,
      take-append-drop,
    )

-- a raw raster that is spelled so is read
pub raw_raster-again : (cells : Cells) (raster rest : List ℕ) → IsBitmap cells
    → IsRawRaster raster cells
    → raw_raster cells.width cells.height (raster ++ rest) ≡ Ok (cells, rest)
unfolding raw_raster
raw_raster-again cells raster rest bitmap is =
    grind (
      arith,
      nat_tests,
      common_steps,
      cells_where-has,
      cells_where-same,
      drop_at,
      le-ltb,
      length-append,
      take_at,
    )
