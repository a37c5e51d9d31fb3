-- The marks are those of the blank tiles, so that each cell stays as it is.
use Rattle.libclearmap.proofs.Names.{◌≡◌, ℕ, ◌+◌, ◌-◌, ◌*◌, ◌/◌, ◌%◌, ◌<◌, ◌≤◌, ◌==◌, get_or}
use Rattle.libclearmap.proofs.Names.{inl, refl, ap, arith, bit_at, mul-le-mul_right}
use Rattle.libclearmap.proofs.Names.{IsBitmap-cells_where, IsBlankTile, bands_down, cells_of_bits}
use Rattle.libclearmap.proofs.MarkLemmas.{blank_rows_tile, marks_placed}
use Rattle.libclearmap.proofs.TileLemmas.{marked_same, obstacle_found}
use Rattle.libclearmap.proofs.mark.clearmap_mark.Goals as goal

-- a blank tile has its mark among the words
marked_blank : (c : goal.After-map-2-1) (band tile : ℕ) → band < bands_down c.args.map.now
    → tile < 64 → IsBlankTile (cells_of_bits c.args.map.now c.args.words.now) band tile
    → bit_at (get_or c.write_marks.new.words (c.args.tiles + band) 0) tile ≡ 1
marked_blank c band tile few within blank =
    let high = c.in-Ok.ensures.shape.height_is.few in
    let bands = c.div_ceil-bands.ensures in
    rw (c.write_marks.ensures.marks band (omega (arith, bands)))
    (c.in-Ok.ensures.none band tile (omega (arith, high)) within blank)

pub returns-clause-same : goal.returns-clause-same
returns-clause-same c = λ done.
    let map = c.args.map.now in
    let words = c.args.words.now in
    let shape = c.in-Ok.ensures.shape in
    let placed = marks_placed c.args.tiles _ map c.in_default.ensures in
    let bands = c.div_ceil-bands.ensures in
    let wide = shape.width_is.few in
    let high = shape.height_is.few in
    marked_same map words _ c.write_marks.new.words shape.width_is shape.height_is
    (omega (arith, placed.0)) refl refl
    (λ x y hx hy.
    let rows : y * map.stride ≤ (map.height - 1) * map.stride = mul-le-mul_right map.stride
    (omega (arith, hy)) in
    ap (λ (w : ℕ). bit_at w (x % 64) == 1) (c.write_marks.ensures.rest (y * map.stride + x / 64)
    (inl (omega (arith, rows, hx, placed.0)))))
    (λ x y obstacle.
    let row = (obstacle_found map words x y shape.width_is shape.height_is obstacle).row in
    rw (c.write_marks.ensures.marks (y / 64) (omega (arith, bands, row)))
    (c.in-Ok.ensures.some x y obstacle))
    (λ x y obstacle.
    let found = obstacle_found map words x y shape.width_is shape.height_is obstacle in
    let row = found.row in
    let column = found.column in
    c.blank_bands-map.ensures.some (y / 64) (x / 64) (omega (arith, row, high))
    (omega (arith, column, wide)) (c.in-Ok.ensures.some x y obstacle))
    (marked_blank c)

pub returns-clause-blank : goal.returns-clause-blank
returns-clause-blank c = λ band tile done few within blank. marked_blank c band tile few within
    blank

pub returns-clause-blank_bands : goal.returns-clause-blank_bands
returns-clause-blank_bands c = λ band done few rows.
    let shape = c.in-Ok.ensures.shape in
    c.blank_bands-map.ensures.none band few (λ tile within. c.in-Ok.ensures.none band tile few
    within (blank_rows_tile _ band tile
    (IsBitmap-cells_where _ _ _ shape.width_is shape.height_is) rows))
