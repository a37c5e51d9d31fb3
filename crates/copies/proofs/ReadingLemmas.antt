-- The tiles of a version, as a pin reads them.
use Rattle.std.proofs.Common.{◌≡◌, ℕ, ◌+◌, ◌*◌, ◌/◌, ◌<◌, ap, ◌∙◌, arith}
use Rattle.std.proofs.lemmas.Nat.{mul-add-lt}
use Rattle.bits.specs.Cells.{Cells}
use Rattle.bits.specs.Words.{words_across}
use Rattle.bits.specs.Tiles.{tile_count, tiles_down}
use Rattle.events.specs.Words.{Base, tiles}
use Rattle.events.specs.Tidy.{IsOfMap}

-- the tile in which a word of a row stands is one of the map's
pub position_inside : (z : Base) (cells : Cells) (y k across p : ℕ) → IsOfMap z cells
    → y < cells.height → across ≡ words_across cells.width → k < across → p ≡ y / 64 * across + k
    → p < tiles z
position_inside z cells y k across p of_map row across_is within is =
    let column : k < words_across cells.width = omega arith in
    let here : p ≡ y / 64 * words_across cells.width + k = is
    ∙ ap (λ (a : ℕ). y / 64 * a + k) across_is in
    let below = mul-add-lt (y / 64) (words_across cells.width) k (tiles_down cells.height)
    (omega arith) column in
    let same : tile_count cells ≡ tiles z = λ i.
    words_across (of_map.width_is i) * tiles_down (of_map.height_is i) in
    omega arith
