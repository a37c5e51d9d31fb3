-- The layout of an arena's blocks, and which of them are in it.
use Rattle.std.specs.Prelude.{◌≡◌, ℕ, ◌+◌, ◌*◌, ◌<◌, ◌≤◌, List}
use denote.RawPtr.{Ptr, block_ptr}

-- an arena's region has a memory object, a start in it, and a count of blocks
pub record Home : Type 0 where
  pub block : ℕ
  pub start : ℕ
  pub count : ℕ

-- a block of a region is lent out, is raw memory without words yet, or is in with these words
pub data Content : Type 0 where
  out : Content
  bare : Content
  held : List ℕ → Content

-- a block is in, with words or as raw memory without words yet
abbrev pub IsHeld : Content → Type 0
IsHeld out = ⊥
IsHeld bare = Unit {0}
IsHeld (held ws) = Unit {0}

-- where block k starts
abbrev pub place : Home → ℕ → ℕ
place h k = k * 512 + h.start

-- a region has at most 16,384 blocks
abbrev pub IsHome : Home → Type 0
IsHome h = h.count ≤ 16384

-- p is the address of block k
abbrev pub IsBlock : Home → Ptr → ℕ → Type 0
IsBlock h p k = (p ≡ block_ptr h.block (place h k)) × (k < h.count)
