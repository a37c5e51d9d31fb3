-- A tile, a region and a lease may go to another thread: what they own names no thread.
use Rattle.std.proofs.Common.{ℕ, ◌+◌, List, [], ◌∷◌}
use base.Fraction.{full_share}
use base.Shift.{Keyless}
use denote.Exit.{Exit, leaves, unchanged, hidden, under}
use denote.RattleType.{RattleType}
use denote.RawPtr.{Ptr, block_ptr, null_ptr, lies_at}
use denote.Builtin.{RawPtr, u32}
use denote.Struct.Struct.{exits_of}
use denote.Struct.Owning.{shape, fields, to}
use denote.Param.Send.{IsSend, Quiet, Frees, AllSend, part_keyless, owning_send, struct_send}
use denote.Param.Send.{sendable}
use Rattle.arena.specs.Blocks.{Content, out, bare, held}
use Rattle.arena.specs.Ownership.{block_row, block_at, blocks_from, region_ty}
use Rattle.arena.specs.contracts.region.Tile as Tile
use Rattle.arena.specs.contracts.region.Region as Region
use Rattle.arena.specs.contracts.region.Lease as Lease
use Rattle.core.specs.declared.alloc.Allocator.{Ghosts}

-- an exit that holds no thread's token holds none where it is hidden and taken at values that map
-- to its own
quiet : {D X : Type 0} (to : D → X) (e : Exit X) → Quiet e → Quiet (hidden (under to e))
quiet to unchanged q = λ x w. tt
quiet to (leaves L l S s r₀) q = λ d. q (to d)

-- the words of a block may go to another thread
words : IsSend block_row
words = search sendable

-- a raw pointer may go to another thread
ptr : IsSend RawPtr
ptr = search sendable

-- a `u32` may go to another thread
half : IsSend u32
half = search sendable

-- owning a block's words at an address holds no thread's token
lies : (p : Ptr) (ws : List ℕ) → Keyless (lies_at block_row full_share p ws)
lies (block_ptr b o) ws = part_keyless block_row words full_share ws b o
lies null_ptr ws = tt

-- what a region owns of one block holds no thread's token
one_block : (b o : ℕ) (c : Content) → Keyless (block_at b o c)
one_block b o out = tt
one_block b o bare = tt
one_block b o (held ws) = part_keyless block_row words full_share ws b o

-- what a region owns of its blocks holds no thread's token
each_block : (b o : ℕ) (cs : List Content) → Keyless (blocks_from b o cs)
each_block b o [] = tt
each_block b o (c ∷ cs) = (one_block b o c, each_block b (o + 512) cs)

-- a tile may go to another thread
pub Tile-send : IsSend Tile.the_row
Tile-send = let O = Tile.the_type in
    owning_send O (ptr, (half, tt)) (λ d. lies d.at d.words)
    (λ k. quiet (to O) (exits_of k (fields O))
    ((struct_send (shape O) (ptr, (half, tt))).leaving k))

-- a region may go to another thread
pub Region-send : IsSend Region.the_row
Region-send = let O = Region.the_type in
    owning_send O (ptr, tt) (λ d. each_block d.home.block d.home.start d.blocks)
    (λ k. quiet (to O) (exits_of k (fields O)) ((struct_send (shape O) (ptr, tt)).leaving k))

module _ (A : RattleType) (g : Ghosts A.Denot) where
  -- a lease may go to another thread where its allocator may, and what gives its region back holds
  -- no thread's token
  pub Lease-send : IsSend A → Frees g g.dealloc_token → IsSend (Lease.the_row A g)
  Lease-send sa f = let O = Lease.the_type A g in
      let marker : AllSend (fields O) = (search sendable, tt) in
      owning_send O marker (λ d. f.frees d.alloc (region_ty d.home)
      (block_ptr d.home.block d.home.start))
      (λ k. quiet (to O) (exits_of k (fields O)) ((struct_send (shape O) marker).leaving k))
