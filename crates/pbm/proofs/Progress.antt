-- How far a raster was read into its bitmap.
use Rattle.std.proofs.Common.{◌≡◌, ℕ, ◌-◌, ◌*◌, Bool, false, List, length, Ok, arith}
use Rattle.bits.specs.Cells.{Cells, cells_where}
use Rattle.pbm.specs.Faults.{pixels, cells_of_pixels}
use Rattle.pbm.proofs.Rasters.{with_front, with_front-nil, pixels-done}
use Rattle.std.proofs.lemmas.Grind.{common_steps}
use Rattle.std.proofs.lemmas.Bool.Decides.{nat_tests}

-- the first k pixels were read into the bitmap, and the others are read from the rest
pub record IsReadTo (bytes : List ℕ) (width height k : ℕ) (cells : Cells) (rest : List ℕ) :
    Type 0 where
  pub front : List Bool
  pub count : length front ≡ k
  pub cells_are : cells ≡ cells_of_pixels width height front
  pub others : pixels (width * height) bytes ≡ with_front front (pixels (width * height - k) rest)

-- no pixel was read into a blank bitmap
pub IsReadTo-none : (bytes : List ℕ) (width height k : ℕ) (cells : Cells) → k ≡ 0
    → cells ≡ cells_where width height (λ x y. false) → IsReadTo bytes width height k cells bytes
IsReadTo-none bytes width height k cells none blank =
    grind (arith, nat_tests, common_steps, with_front-nil)

-- where each row was read, all pixels of the image are read
pub IsReadTo-all : (bytes : List ℕ) (width height k : ℕ) (cells : Cells) (rest : List ℕ)
    → k ≡ width * height → IsReadTo bytes width height k cells rest → (all : List Bool)
    × (pixels (width * height) bytes ≡ Ok (all, rest)) × (cells ≡ cells_of_pixels width height all)
IsReadTo-all bytes width height k cells rest same so_far =
    grind (arith, nat_tests, common_steps, pixels-done)
