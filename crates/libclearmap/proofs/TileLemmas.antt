-- The words of a map whose tiles have marks.
use Rattle.libclearmap.proofs.Names.{◌≡◌, ◌≢◌, ℕ, ◌+◌, ◌*◌, ◌/◌, ◌^◌, ◌<◌, ◌==◌, ◌&&◌, true, false}
use Rattle.libclearmap.proofs.Names.{if◌then◌else◌, List, get_or, ◌∙◌, arith, w64, bit_at, bit_not}
use Rattle.libclearmap.proofs.Names.{bit_at_not, same_from_bits_below, word_where-lt, nat_tests}
use Rattle.libclearmap.proofs.Names.{IsBanded, IsTiled, IsObstacle, IsSide, has, is_stored}
use Rattle.libclearmap.proofs.Names.{words_across, IsBitmap-cells_where, cells_where-same}
use Rattle.libclearmap.proofs.Names.{has-cells_where, has-outside, words_of_row, word_in_row}
use Rattle.libclearmap.proofs.Names.{ClearmapBits, IsBlankTile, bands_down, cells_of_bits}
use Rattle.libclearmap.proofs.Names.{cells_of_rows, is_counted, is_marked, is_set, is_tile_counted}
use Rattle.libclearmap.proofs.LayoutLemmas.{cell_bits, maps}

-- a word of a row counts where its tile isn't known to be blank
pub word_in_tiles : (map : ClearmapBits) (words : List ℕ) (y k own : ℕ) → map.tiles ≢ 0
    → k < words_across map.width → y < map.height
    → own ≡ get_or (words_of_row (cells_of_rows map words) y) k 0
    → (if bit_at (get_or words (map.tiles + y / 64) 0) k == 0 then own else 0)
    ≡ get_or (words_of_row (cells_of_bits map words) y) k 0
word_in_tiles map words y k own some within row is =
    let plain = is ∙ word_in_row (cells_of_rows map words) y k within in
    let fits = word_where-lt (λ i. has (cells_of_rows map words) (64 * k + i) y) 64 in
    rw (word_in_row (cells_of_bits map words) y k within) (same_from_bits_below 64 _ _ (grind arith)
    (word_where-lt _ 64) (λ i few.
    let tile : (64 * k + i) / 64 ≡ k = omega arith in grind cell_bits))

-- what is known of an obstacle of a map in bits: it is inside, and no mark covers it
pub record IsFound (map : ClearmapBits) (words : List ℕ) (x y : ℕ) : Type 0 where
  pub column : x < map.width
  pub row : y < map.height
  pub counted : is_tile_counted map.tiles words x y ≡ true
  pub set : is_set map words x y ≡ true

-- an obstacle of a map in bits is inside, and no mark covers it
pub obstacle_found : (map : ClearmapBits) (words : List ℕ) (x y : ℕ) → IsSide map.width
    → IsSide map.height → IsObstacle (cells_of_bits map words) x y → IsFound map words x y
obstacle_found map words x y wide high obstacle =
    let inside = has-outside _ (IsBitmap-cells_where _ _ _ wide high) x y obstacle in
    grind (arith, nat_tests, has-cells_where)

-- a map in bits has no obstacle in a tile that is known to be blank
pub IsTiled-marks : (map : ClearmapBits) (words : List ℕ) (band : ℕ) → map.tiles ≢ 0
    → IsSide map.width → IsSide map.height → get_or words (map.tiles + band) 0 < 2 ^ 64
    → IsTiled (cells_of_bits map words) band (bit_not w64 (get_or words (map.tiles + band) 0))
IsTiled-marks map words band some wide high fits x y obstacle here =
    let found = obstacle_found map words x y wide high obstacle in
    grind (arith, nat_tests, bit_at_not w64 (get_or words (map.tiles + band) 0) (x / 64) fits)

-- a map in bits has no obstacle in a band that is known to be blank
pub IsBanded-bits : (map : ClearmapBits) (words : List ℕ) → IsSide map.width → IsSide map.height
    → (bands : ℕ) → IsBanded (cells_of_rows map words) bands
    → IsBanded (cells_of_bits map words) bands
IsBanded-bits map words wide high bands banded x y obstacle =
    grind (arith, obstacle_found map words x y wide high obstacle, has-cells_where, banded x y)

-- marks that are those of the blank tiles, and of the bands all of whose tiles they are, leave each
-- cell as it is
pub marked_same : (map : ClearmapBits) (words : List ℕ) (next : ClearmapBits) (others : List ℕ)
    → IsSide map.width → IsSide map.height → next.tiles ≢ 0
    → next.width ≡ map.width → next.height ≡ map.height
    → ((x y : ℕ) → x < map.width → y < map.height
    → is_stored next.stride others x y ≡ is_stored map.stride words x y)
    → ((x y : ℕ) → IsObstacle (cells_of_bits map words) x y
    → bit_at (get_or others (next.tiles + y / 64) 0) (x / 64) ≡ 0)
    → ((x y : ℕ) → IsObstacle (cells_of_bits map words) x y → bit_at next.blank_bands (y / 64) ≡ 0)
    → ((band tile : ℕ) → band < bands_down map → tile < 64
    → IsBlankTile (cells_of_bits map words) band tile
    → bit_at (get_or others (next.tiles + band) 0) tile ≡ 1)
    → cells_of_bits next others ≡ cells_of_bits map words
marked_same map words next others wide high some width height stored clear bands blank =
    rw (width, height) (cells_where-same map.width map.height _ _ (λ x y hx hy.
    let few = wide.few in
    let cell = has-cells_where map.width map.height (is_marked map words) x y hx hy in
    let tile = blank (y / 64) (x / 64) (omega arith) (omega arith) in
    let covered : (is_tile_counted map.tiles words x y && is_counted map.blank_bands y) ≡ false
    → bit_at (get_or others (next.tiles + y / 64) 0) (x / 64) ≡ 1 = λ none.
    tile (λ a b row column obstacle. let found = obstacle_found map words a b wide high obstacle in
    grind (arith, nat_tests)) in
    grind (arith, nat_tests, stored x y hx hy, cell, clear x y, bands x y, covered)))

-- what a map with marks says of its words, its bands and its tiles
pub ruleset tiled = (maps, IsBanded-bits, IsTiled-marks, obstacle_found, word_in_tiles)
