-- What a region and a tile own.
use Rattle.std.specs.Prelude.{ℕ, ◌+◌, List, [], ◌∷◌}
use Rattle.std.specs.Borrow.{full_share, u64, Array}
use base.Fml.{Fml, ftrue, fsep, froom}
use mir.Syntax.{Ty, w64, ty_int, ty_array}
use denote.RattleType.{RattleType}
use denote.Memory.{part_at}
use Rattle.arena.specs.Blocks.{Home, Content, out, bare, held}

-- a block's words are a `[u64; 64]`
abbrev pub block_row : RattleType
block_row = Array u64 64

-- a block's words have this machine type
abbrev pub block_ty : Ty
block_ty = ty_array (ty_int w64) 64

-- at offset o a block owns its words, if it is in the region
abbrev pub block_at : ℕ → ℕ → Content → Fml
block_at b o out = ftrue
block_at b o bare = froom block_ty b o
block_at b o (held ws) = part_at block_row full_share ws b o

-- the blocks from offset o on are owned, one after another
abbrev pub blocks_from : ℕ → ℕ → List (Content) → Fml
blocks_from b o [] = ftrue
blocks_from b o (c ∷ cs) = fsep (block_at b o c) (blocks_from b (o + 512) cs)

-- the type of the region of this home, as its allocator sees it
abbrev pub region_ty : Home → Ty
region_ty h = ty_array block_ty h.count
