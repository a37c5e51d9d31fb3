-- A row of a raw raster as words: this project's own rule.
use Rattle.std.specs.Prelude.{◌≡◌, ℕ, ◌+◌, ◌*◌, ◌-◌, ◌/◌, ◌%◌, ◌<◌, ◌≤◌, List, length, drop}
use Rattle.std.specs.Prelude.{slice_index}
use Rattle.std.specs.Int.{bit_at}

-- a row of this many bytes was read as words, the first pixel the lowest bit, and this is left
pub record IsRowRead (across : ℕ) (bytes words rest : List ℕ) : Type 0 where
  pub enough : across ≤ length bytes
  pub left : rest ≡ drop across bytes
  pub bits : (k : ℕ) → k < 64 → (i : ℕ) → i < 64 → 8 * k + i / 8 < across
      → bit_at (slice_index words k) i ≡ bit_at (slice_index bytes (8 * k + i / 8)) (7 - i % 8)
