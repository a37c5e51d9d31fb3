-- The free list: it starts at a block, and each free block's first word is the number of the next.
use Rattle.std.specs.Prelude.{◌≡◌, ◌≢◌, ℕ, zero, suc, ◌<◌, ◌≤◌, Bool, true, false, List, [], ◌∷◌}
use Rattle.std.specs.Prelude.{length, slice_index_or, ⊤}
use Rattle.arena.specs.Blocks.{Home, Content, out, bare, held}

-- an arena, as a caller sees it
pub record Pool : Type 0 where
  pub home : Home
  pub free : List ℕ

-- the number in a block's first word, to which it links; 0 if it has no words
abbrev pub link_of : Content → ℕ
link_of out = 0
link_of bare = 0
link_of (held ws) = slice_index_or ws 0 0

-- the number of the block that block k links to
abbrev pub next : List Content → ℕ → ℕ
next bs k = link_of (slice_index_or bs k out)

-- the chain of n blocks from block f on, each linked to the next
abbrev pub chain : List Content → ℕ → ℕ → List ℕ
chain bs f zero = []
chain bs f (suc n) = f ∷ chain bs (next bs f) n

-- whether a block is in, with words
abbrev pub here : Content → Bool
here out = false
here bare = false
here (held ws) = true

-- k isn't in the list
abbrev pub NotIn : ℕ → List ℕ → Type 0
NotIn k [] = ⊤
NotIn k (x ∷ xs) = (k ≢ x) × NotIn k xs

-- these n blocks are in, and none twice
abbrev pub Linked : List Content → ℕ → ℕ → Type 0
Linked bs f zero = f ≤ 16384
Linked bs f (suc n) = (here (slice_index_or bs f out) ≡ true) × NotIn f (chain bs (next bs f) n)
    × Linked bs (next bs f) n

-- how many blocks are in
abbrev pub in_count : List Content → ℕ
in_count [] = 0
in_count (out ∷ bs) = in_count bs
in_count (bare ∷ bs) = in_count bs
in_count (held ws ∷ bs) = suc (in_count bs)

-- the free list starts at block f and has n blocks, all that are in; at most 16,384 blocks in all
pub record IsArena (bs : List Content) (f n : ℕ) : Type 0 where
  pub linked : Linked bs f n
  pub counted : in_count bs ≡ n
  pub few : length bs ≤ 16384

-- a lease is for this region, whose number of blocks is known
abbrev pub IsLeased : Home → ℕ → Home → Type 0
IsLeased home count leased = (leased ≡ home) × (count ≡ home.count)

-- the blocks below `done` have words that link each to the next, and the others none yet
pub record Filled (bs : List Content) (done count : ℕ) : Type 0 where
  pub long : length bs ≡ count
  pub below : (k : ℕ) → k < done → (ws : List ℕ) × (slice_index_or bs k out ≡ held ws)
      × (slice_index_or ws 0 0 ≡ suc k)
  pub above : (k : ℕ) → done ≤ k → k < count → slice_index_or bs k out ≡ bare
