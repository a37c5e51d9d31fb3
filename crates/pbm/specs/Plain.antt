-- The pixels of a plain raster as the bits of a number: this project's own rule.
use Rattle.std.specs.Prelude.{◌≡◌, ℕ, ◌+◌, ◌^◌, ◌<◌, ◌≤◌, ◌==◌, false, Bool, List, [], ◌∷◌, length}
use Rattle.std.specs.Prelude.{Ok, slice_index, slice_index_or, if◌then◌else◌}
use Rattle.std.specs.Int.{bit_at}
use Rattle.pbm.specs.Faults.{pixels}
use Rattle.pbm.specs.Image.{is_whitespace}

-- this many pixels were read as bits of a number, the first the lowest, and this is left
pub record AreBitsRead (count : ℕ) (bytes : List ℕ) (number : ℕ) (rest : List ℕ) : Type 0 where
  pub all : List Bool
  pub size : length all ≡ count
  pub read : pixels count bytes ≡ Ok (all, rest)
  pub bits : (i : ℕ) → i < count → (bit_at number i == 1) ≡ slice_index_or all i false

-- this many pixel digits are at the front, and are the first bits of a number
pub record AreDigits (count : ℕ) (bytes : List ℕ) (number : ℕ) : Type 0 where
  pub enough : count ≤ length bytes
  pub digits : (k : ℕ) → k < count → slice_index bytes k ≡ 48 + bit_at number k

-- one to `most` pixels were read as the bits of a number that has no others
pub record AreSomeRead (most : ℕ) (bytes : List ℕ) (count : ℕ) (number : ℕ) (rest : List ℕ) :
    Type 0 where
  pub some : 0 < count
  pub few : count ≤ most
  pub read : AreBitsRead count bytes number rest
  pub below : number < 2 ^ count

-- the bytes without the whitespace byte at their front, if there is one
abbrev pub behind_space : List ℕ → List ℕ
behind_space [] = []
behind_space (byte ∷ rest) = if is_whitespace byte then rest else byte ∷ rest
