-- The places of words: which are apart, and which lie within.
use Rattle.events.proofs.Names.{rules, ◌≡◌, ℕ, ◌+◌, ◌*◌, refl, ◌≢◌, ◌<◌, arith}
use Rattle.std.proofs.lemmas.Nat.{same_from_place}
use Rattle.events.specs.Words.{Base, tiles, word_count, now_at, pin_at, map_at, tile_at, IsPlan}
use Rattle.events.specs.declared.plan.Plan.{Plan}

-- a reader's word isn't NOW
pub pin-now : (r : ℕ) → pin_at r ≢ now_at
unfolding pin_at
pin-now r is = absurd (omega arith)

-- a word of a directory isn't NOW
pub map-now : (k : Base) (slot p : ℕ) → map_at k slot p ≢ now_at
unfolding map_at
map-now k slot p is = absurd (omega arith)

-- a word of a block isn't NOW
pub tile-now : (k : Base) (b i : ℕ) → tile_at k b i ≢ now_at
unfolding tile_at
tile-now k b i is = absurd (omega arith)

-- a word of a directory is no reader's
pub map-pin : (k : Base) (slot p r : ℕ) → r < k.setting.sessions → map_at k slot p ≢ pin_at r
unfolding map_at pin_at
map-pin k slot p r h is = absurd (omega arith)

-- a word of a block is no reader's
pub tile-pin : (k : Base) (b i r : ℕ) → r < k.setting.sessions → tile_at k b i ≢ pin_at r
unfolding tile_at pin_at
tile-pin k b i r h is = absurd (omega arith)

-- two readers have two words
pub pin-pin : (r q : ℕ) → r ≢ q → pin_at r ≢ pin_at q
unfolding pin_at
pin-pin r q apart is = absurd (apart (omega arith))

-- a word of a directory is no word of a block
pub tile-map : (k : Base) (slot p b i : ℕ) → slot < k.setting.versions → p < tiles k
    → tile_at k b i ≢ map_at k slot p
unfolding tile_at map_at
tile-map k slot p b i hs hp is = grind arith

-- two words of directories are apart where the slots are
pub map-map : (k : Base) (slot p slot' p' : ℕ) → p < tiles k → p' < tiles k → slot ≢ slot'
    → map_at k slot p ≢ map_at k slot' p'
unfolding map_at
map-map k slot p slot' p' hp hp' apart is =
    apart (same_from_place slot p slot' p' (tiles k) hp hp' (omega arith)).0

-- two words of one directory are apart where the positions are
pub map-position : (k : Base) (slot p p' : ℕ) → map_at k slot p ≡ map_at k slot p' → p ≡ p'
unfolding map_at
map-position k slot p p' is = omega arith

-- two words of blocks are apart where the blocks are, or the rows
pub tile-tile : (k : Base) (b i b' i' : ℕ) → i < 64 → i' < 64 → tile_at k b i ≡ tile_at k b' i'
    → (b ≡ b') × (i ≡ i')
unfolding tile_at
tile-tile k b i b' i' hi hi' is = same_from_place b i b' i' 64 hi hi' (omega arith)

-- a reader's word is a word of the world
pub pin-within : (k : Base) (r : ℕ) → r < k.setting.sessions → pin_at r < word_count k
unfolding pin_at word_count
pin-within k r h = omega arith

-- a word of a directory is a word of the world
pub map-within : (k : Base) (slot p : ℕ) → slot < k.setting.versions → p < tiles k
    → map_at k slot p < word_count k
unfolding map_at word_count
map-within k slot p hs hp = grind arith

-- a word of a block is a word of the world
pub tile-within : (k : Base) (b i : ℕ) → b < k.setting.blocks → i < 64
    → tile_at k b i < word_count k
unfolding tile_at word_count
tile-within k b i hb hi = omega arith

-- NOW is a word of the world
pub now-within : (k : Base) → now_at < word_count k
unfolding word_count
now-within k = omega arith

-- a store's sizes tell where a directory's word stands
pub map_place : (k : Base) (plan : Plan) (slot t p : ℕ) → t ≡ plan.tiles → IsPlan k plan
    → plan.directories + (slot * t + p) ≡ map_at k slot p
unfolding map_at
map_place k plan slot t p tiles_is is = search rules

-- a store's sizes tell where a block's word stands
pub tile_place : (k : Base) (plan : Plan) (b i : ℕ) → IsPlan k plan
    → plan.rows + (b * 64 + i) ≡ tile_at k b i
unfolding tile_at
tile_place k plan b i is =
    rw (plan.rows_are, plan.directories_are, is.tiles_is, is.setting_is) refl

-- a store's sizes tell how many words there are
pub words_counted : (k : Base) (plan : Plan) → IsPlan k plan
    → plan.rows + 64 * plan.setting.blocks ≡ word_count k
unfolding word_count
words_counted k plan is = rw (plan.rows_are, plan.directories_are, is.tiles_is, is.setting_is) refl
