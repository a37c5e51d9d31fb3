-- A map in bits whose rows or marks are written.
use Rattle.libclearmap.proofs.Names.{◌≡◌, ◌≢◌, ℕ, ◌+◌, ◌-◌, ◌*◌, ◌/◌, ◌%◌, ◌<◌, ◌≤◌, ◌==◌, ◌&&◌, ◌⊎◌}
use Rattle.std.specs.Prelude.{zero, suc}
use Rattle.libclearmap.proofs.Names.{if◌then◌else◌, Bool, true, false, cond, List, length, get_or}
use Rattle.libclearmap.proofs.Names.{set, inl, inr, refl, ◌∙◌, arith, bit_at, bit_at-zero}
use Rattle.libclearmap.proofs.Names.{◌^◌, length-set}
use Rattle.libclearmap.proofs.Names.{nat_tests, cases_eq, cases_lt, get_or-set_same}
use Rattle.libclearmap.proofs.Names.{get_or-set_other, mul-le-mul_right, Cells, has, cells_where}
use Rattle.libclearmap.proofs.Names.{has-cells_where, cells_where-same, is_stored, words_across}
use Rattle.libclearmap.proofs.Names.{ClearmapBits, IsShape, bands_down, cells_of_bits, is_counted}
use Rattle.libclearmap.proofs.Names.{is_marked, is_tile_counted, rows_end}
use Rattle.bits.specs.Cells.{is_within, with_rect}
use Rattle.column.proofs.Places.{row_ends}
use Rattle.libclearmap.specs.Paints.{IsAlike, IsChangedTo, IsUnused}
use Rattle.libclearmap.specs.Statuses.{bits_status, first_wrong, shape_status}
use Rattle.libclearmap.specs.Statuses.{tiles_status}
use Rattle.libclearmap.proofs.MarkLemmas.{bit_of_ones}

-- ---- What a right map's words are --------------------------------------------------------------

-- where the first of two statuses isn't wrong, and both aren't, neither is
first_right : (first next : ℕ) → first_wrong first next ≡ 0 → (first ≡ 0) × (next ≡ 0)
first_right zero next right = (refl, right)
first_right (suc n) next right = absurd (omega (arith, right))

-- a right map fits its words
shape_right : (map : ClearmapBits) (words : List ℕ) → bits_status map words ≡ 0
    → IsShape map.width map.height (words_across map.width) map.stride (length words)
shape_right map words right =
    let shape = (first_right (shape_status map.width map.height (words_across map.width) map.stride
    (length words)) (tiles_status map (length words)) right).0 in
    record {
      width_is = record { some = grind (arith, nat_tests); few = grind (arith, nat_tests) };
      height_is = record { some = grind (arith, nat_tests); few = grind (arith, nat_tests) };
      apart = grind (arith, nat_tests);
      few = grind (arith, nat_tests);
      room = grind (arith, nat_tests);
    }

-- the marks of a right map lie between its rows and the end of its words
marks_right : (map : ClearmapBits) (words : List ℕ) → bits_status map words ≡ 0
    → map.tiles ≢ 0 → (rows_end map ≤ map.tiles) × (map.tiles + bands_down map ≤ length words)
marks_right map words right some =
    let tiles = (first_right (shape_status map.width map.height (words_across map.width) map.stride
    (length words)) (tiles_status map (length words)) right).1 in
    (grind (arith, nat_tests), grind (arith, nat_tests))

-- a right map is right with other words, if they are as many
pub right_same : (map : ClearmapBits) (words others : List ℕ) → bits_status map words ≡ 0
    → length others ≡ length words → bits_status map others ≡ 0
right_same map words others right many = rw many right

-- a word of a right map's row lies before the rows' end
row_place : (map : ClearmapBits) (words : List ℕ) (y k : ℕ) → bits_status map words ≡ 0
    → y < map.height → k < words_across map.width
    → (y * map.stride + k < rows_end map) × (y * map.stride + k < length words)
row_place map words y k right row within =
    let shape = shape_right map words right in
    let room = shape.room in
    let rows : y * map.stride ≤ (map.height - 1) * map.stride = mul-le-mul_right map.stride
    (omega (arith, row)) in
    (omega (arith, rows, within), omega (arith, rows, within, room))

-- ---- One change after another ------------------------------------------------------------------

-- a word that is unused in one layout is in another that differs in its blank bands alone
unused_alike : (map next : ClearmapBits) (k : ℕ) → IsAlike map next → IsUnused map k → IsUnused next k
unused_alike map next k alike unused = record {
  beside_rows = λ y row. rw (alike.stride_same, alike.width_same)
      (unused.beside_rows y (rw alike.height_same at row));
  beside_marks = rw (alike.tiles_same, alike.height_same) unused.beside_marks;
}

-- two changes, one after the other
pub changed_then : (map : ClearmapBits) (words : List ℕ) (next : ClearmapBits) (others : List ℕ)
    (last : ClearmapBits) (ends : List ℕ) (between cells : Cells)
    → IsChangedTo map words next others between → IsChangedTo next others last ends cells
    → IsChangedTo map words last ends cells
changed_then map words next others last ends between cells first second = record {
  alike = record {
    width_same = second.alike.width_same ∙ first.alike.width_same;
    height_same = second.alike.height_same ∙ first.alike.height_same;
    stride_same = second.alike.stride_same ∙ first.alike.stride_same;
    tiles_same = second.alike.tiles_same ∙ first.alike.tiles_same;
  };
  right = second.right;
  cells_are = second.cells_are;
  unused = λ k unused. second.unused k (unused_alike map next k first.alike unused)
      ∙ first.unused k unused;
}

-- a change to cells that are others in other words
pub changed_as : (map : ClearmapBits) (words : List ℕ) (next : ClearmapBits) (others : List ℕ)
    (cells same : Cells) → IsChangedTo map words next others cells → cells ≡ same
    → IsChangedTo map words next others same
changed_as map words next others cells same changed is = record {
  alike = changed.alike;
  right = changed.right;
  cells_are = changed.cells_are ∙ is;
  unused = changed.unused;
}

-- no change
pub unchanged : (map : ClearmapBits) (words : List ℕ) → bits_status map words ≡ 0
    → IsChangedTo map words map words (cells_of_bits map words)
unchanged map words right = record {
  alike = record {
    width_same = refl;
    height_same = refl;
    stride_same = refl;
    tiles_same = refl;
  };
  right = right;
  cells_are = refl;
  unused = λ k unused. refl;
}

-- ---- Rectangles --------------------------------------------------------------------------------

-- a rectangle of no rows changes no cell
pub with_no_rows : (width height : ℕ) (test : ℕ → ℕ → Bool) (x0 y x1 : ℕ) (value : Bool)
    → cells_where width height test ≡ with_rect (cells_where width height test) x0 y x1 y value
with_no_rows width height test x0 y x1 value = cells_where-same width height _ _ (λ a b ha hb.
    grind (arith, nat_tests, has-cells_where width height test a b ha hb))

-- a rectangle and one more row of it are the rectangle with that row
pub with_more_rows : (cells : Cells) (x0 y0 x1 y : ℕ) (value : Bool) → y0 ≤ y
    → with_rect (with_rect cells x0 y0 x1 y value) x0 y x1 (y + 1) value
    ≡ with_rect cells x0 y0 x1 (y + 1) value
with_more_rows cells x0 y0 x1 y value order = cells_where-same cells.width cells.height _ _
    (λ a b ha hb.
    grind (
      arith,
      nat_tests,
      has-cells_where cells.width cells.height
          (λ c d. if is_within x0 y0 x1 y c d then value else has cells c d) a b ha hb,
    ))

-- ---- A row's span ------------------------------------------------------------------------------

-- a span of a row is written: what each cell of the map is then
module _ (map : ClearmapBits) (old new : List ℕ) (y x0 x1 : ℕ) (value : Bool)
    (right : bits_status map old ≡ 0) (row : y < map.height) (column : x1 ≤ map.width)
    (inside : (k i : ℕ) → i < 64 → x0 ≤ 64 * k + i → 64 * k + i < x1
    → bit_at (get_or new (y * map.stride + k) 0) i ≡ cond value 1 0)
    (outside : (k i : ℕ) → i < 64 → (64 * k + i < x0) ⊎ (x1 ≤ 64 * k + i)
    → bit_at (get_or new (y * map.stride + k) 0) i ≡ bit_at (get_or old (y * map.stride + k) 0) i)
    (others : (k : ℕ) → (k < y * map.stride) ⊎ (64 * (y * map.stride) + x1 ≤ 64 * k)
    → get_or new k 0 ≡ get_or old k 0) where
  -- the words of the other rows stay
  other_row : (b k : ℕ) → b ≢ y → b < map.height → k < words_across map.width
      → get_or new (b * map.stride + k) 0 ≡ get_or old (b * map.stride + k) 0
  other_row b k other high within =
      let shape = shape_right map old right in
      let apart = shape.apart in
      elim (cases_lt b y) [
        | inl above ↦ others _ (inl (omega (arith, row_ends b y map.stride above, apart, within)))
        | inr below ↦ others _ (inr (omega (
          arith,
          row_ends y b map.stride (omega arith),
          apart,
          column,
        )))
      ]

  -- the marks of tiles stay
  pub span_marks : (b : ℕ) → map.tiles ≢ 0 → get_or new (map.tiles + b) 0
      ≡ get_or old (map.tiles + b) 0
  span_marks b some =
      let placed = marks_right map old right some in
      let rows : y * map.stride ≤ (map.height - 1) * map.stride = mul-le-mul_right map.stride
      (omega (arith, row)) in
      others _ (inr (omega (arith, rows, placed.0, column)))

  -- unused words stay
  pub span_unused : (k : ℕ) → IsUnused map k → get_or new k 0 ≡ get_or old k 0
  span_unused k unused = elim (unused.beside_rows y row) [
    | inl above ↦ others k (inl above)
    | inr below ↦ others k (inr (omega (arith, column)))
  ]

  -- the bit of a cell
  span_bit : (x b : ℕ) → x < map.width → b < map.height → is_stored map.stride new x b
      ≡ (if is_within x0 y x1 (y + 1) x b then value else is_stored map.stride old x b)
  span_bit x b hx hb =
      let whole : 64 * (x / 64) + x % 64 ≡ x = omega arith in
      let place : x % 64 < 64 = omega arith in
      elim (cases_eq b y) [
        | inl here ↦ grind (
          arith,
          nat_tests,
          inside (x / 64) (x % 64) place,
          outside (x / 64) (x % 64) place,
        )
        | inr other ↦ grind (arith, nat_tests, other_row b (x / 64) other hb)
      ]

  -- the cells of the map
  pub span_cells : ((x : ℕ) → value ≡ true → x0 ≤ x → x < x1
      → (is_tile_counted map.tiles old x y && is_counted map.blank_bands y) ≡ true)
      → cells_of_bits map new ≡ with_rect (cells_of_bits map old) x0 y x1 (y + 1) value
  span_cells shown = cells_where-same map.width map.height _ _ (λ x b hx hb.
      grind (
        arith,
        nat_tests,
        span_bit x b hx hb,
        shown x,
        span_marks (b / 64),
        has-cells_where map.width map.height (is_marked map old) x b hx hb,
      ))

-- ---- A part of a band's words ------------------------------------------------------------------

-- some words of the rows of a band are 0: what the others are
module _ (map : ClearmapBits) (old new : List ℕ) (band first end : ℕ)
    (right : bits_status map old ≡ 0) (within : end ≤ words_across map.width)
    (others : (k : ℕ) → ((y : ℕ) → y < map.height → y / 64 ≡ band
    → (k < y * map.stride + first) ⊎ (y * map.stride + end ≤ k))
    → get_or new k 0 ≡ get_or old k 0) where
  -- the words of other bands stay, and those next to the part
  pub part_other : (y k : ℕ) → y < map.height → k < words_across map.width
      → (y / 64 ≢ band) ⊎ ((k < first) ⊎ (end ≤ k))
      → get_or new (y * map.stride + k) 0 ≡ get_or old (y * map.stride + k) 0
  part_other y k row inside beside =
      let apart = (shape_right map old right).apart in
      others _ (λ b high same. elim (cases_eq y b) [
        | inl here ↦ elim beside [
          | inl other ↦ absurd (other (rw here same))
          | inr aside ↦ rw here (elim aside [
            | inl left ↦ inl (omega (arith, left))
            | inr behind ↦ inr (omega (arith, behind))
          ])
        ]
        | inr differ ↦ elim (cases_lt y b) [
          | inl above ↦ inl (omega (arith, row_ends y b map.stride above, apart, inside))
          | inr below ↦ inr (omega (arith, row_ends b y map.stride (omega arith), apart, within))
        ]
      ])

  -- the marks of tiles stay
  pub part_marks : (b : ℕ) → map.tiles ≢ 0
      → get_or new (map.tiles + b) 0 ≡ get_or old (map.tiles + b) 0
  part_marks b some =
      let placed = marks_right map old right some in
      others _ (λ y high same.
      let rows : y * map.stride ≤ (map.height - 1) * map.stride = mul-le-mul_right map.stride
      (omega (arith, high)) in
      inr (omega (arith, rows, placed.0, within)))

  -- unused words stay
  pub part_unused : (k : ℕ) → IsUnused map k → get_or new k 0 ≡ get_or old k 0
  part_unused k unused = others k (λ y high same. elim (unused.beside_rows y high) [
    | inl above ↦ inl (omega (arith, above))
    | inr below ↦ inr (omega (arith, below, within))
  ])

-- ---- Marks taken away --------------------------------------------------------------------------

-- the marks of a band's tiles are set: what each cell's bit counts for then
pub marks_set : (map : ClearmapBits) (old : List ℕ) (band place : ℕ) → bits_status map old ≡ 0
    → map.tiles ≢ 0 → place ≡ map.tiles + band → (x y : ℕ) → x < map.width → y < map.height
    → (is_tile_counted map.tiles (set old place (2 ^ 64 - 1)) x y
    && is_stored map.stride (set old place (2 ^ 64 - 1)) x y)
    ≡ (if y / 64 == band then false
    else (is_tile_counted map.tiles old x y && is_stored map.stride old x y))
marks_set map old band place right some is x y column row =
    let shape = shape_right map old right in
    let wide = shape.width_is.few in
    let placed = marks_right map old right some in
    let low = (row_place map old y (x / 64) right row (omega (arith, column))).0 in
    let one = bit_of_ones (x / 64) (omega (arith, column, wide)) in
    let band_in : y / 64 < bands_down map = omega (arith, row) in
    grind (arith, nat_tests, cases_eq (y / 64) band, get_or-set_same, get_or-set_other)

-- a band is no longer said to be blank, but its cells are hidden still
pub band_shown : (map next : ClearmapBits) (old new : List ℕ) (band : ℕ) → IsAlike map next
    → bits_status map old ≡ 0 → length new ≡ length old → bit_at map.blank_bands band ≡ 1
    → ((k : ℕ) → k < 64 → k ≢ band → bit_at next.blank_bands k ≡ bit_at map.blank_bands k)
    → ((x y : ℕ) → x < map.width → y < map.height → y / 64 ≡ band
    → (is_tile_counted map.tiles new x y && is_stored map.stride new x y) ≡ false)
    → ((x y : ℕ) → x < map.width → y < map.height → y / 64 ≢ band
    → (is_tile_counted map.tiles new x y && is_stored map.stride new x y)
    ≡ (is_tile_counted map.tiles old x y && is_stored map.stride old x y))
    → ((k : ℕ) → IsUnused map k → get_or new k 0 ≡ get_or old k 0)
    → IsChangedTo map old next new (cells_of_bits map old)
band_shown map next old new band alike right many blank bands none others unused = record {
  alike = alike;
  right = rw (alike.width_same, alike.height_same, alike.stride_same, alike.tiles_same, many)
      right;
  cells_are = rw (alike.width_same, alike.height_same, alike.stride_same, alike.tiles_same)
      (cells_where-same map.width map.height _ _ (λ x y hx hy.
      let high = (shape_right map old right).height_is.few in
      grind (
        arith,
        nat_tests,
        cases_eq (y / 64) band,
        bands (y / 64),
        none x y hx hy,
        others x y hx hy,
      )));
  unused = unused;
}

-- a tile's words are 0, and it is no longer said to be blank
module _ (map : ClearmapBits) (old new : List ℕ) (band tile place marks : ℕ)
    (right : bits_status map old ≡ 0) (some : map.tiles ≢ 0) (place_is : place ≡ map.tiles + band)
    (band_in : band < bands_down map) (tile_in : tile < words_across map.width)
    (many : length new ≡ length old)
    (blank : bit_at (get_or old place 0) tile ≡ 1)
    (none : (y k : ℕ) → y < map.height → y / 64 ≡ band → tile ≤ k → k < tile + 1
    → get_or new (y * map.stride + k) 0 ≡ 0)
    (others : (k : ℕ) → ((y : ℕ) → y < map.height → y / 64 ≡ band
    → (k < y * map.stride + tile) ⊎ (y * map.stride + (tile + 1) ≤ k))
    → get_or new k 0 ≡ get_or old k 0)
    (kept : (k : ℕ) → k < 64 → k ≢ tile → bit_at marks k ≡ bit_at (get_or new place 0) k) where
  -- the other tiles of the band keep their marks
  pub tile_others : (k : ℕ) → k < 64 → k ≢ tile
      → bit_at (get_or (set new place marks) (map.tiles + band) 0) k
      ≡ bit_at (get_or old (map.tiles + band) 0) k
  tile_others k few other =
      let same = part_marks map old new band tile (tile + 1) right (omega arith) others band some in
      let placed = marks_right map old right some in
      grind (arith, get_or-set_same, kept k)

  -- a word of a row is that of before, or 0 in the tile
  tile_word : (y k : ℕ) → y < map.height → k < words_across map.width
      → get_or (set new place marks) (y * map.stride + k) 0
      ≡ (if (y / 64 == band) && (k == tile) then 0 else get_or old (y * map.stride + k) 0)
  tile_word y k row within =
      let low = (row_place map old y k right row within).0 in
      let placed = marks_right map old right some in
      let other = part_other map old new band tile (tile + 1) right (omega arith) others y k row
      within in
      let aside : (k ≢ tile) → (k < tile) ⊎ (tile + 1 ≤ k) = λ differ. elim (cases_lt k tile) [
        | inl left ↦ inl left
        | inr behind ↦ inr (omega (arith, behind, differ))
      ] in
      let apart : y * map.stride + k ≢ place = λ same. omega (arith, low, placed.0) in
      rw (get_or-set_other new place (y * map.stride + k) marks 0 apart)
      (elim (cases_eq (y / 64) band) [
        | inl here ↦ elim (cases_eq k tile) [
          | inl own ↦ grind (arith, nat_tests, none y k row here)
          | inr differ ↦ grind (arith, nat_tests, other (inr (aside differ)))
        ]
        | inr differ ↦ grind (arith, nat_tests, other (inl differ))
      ])

  -- a mark is that of before, but for the tile's
  tile_mark : (y k : ℕ) → y < map.height → k < 64
      → bit_at (get_or (set new place marks) (map.tiles + y / 64) 0) k
      ≡ (if (y / 64 == band) && (k == tile) then bit_at marks tile
      else bit_at (get_or old (map.tiles + y / 64) 0) k)
  tile_mark y k row few =
      let same = part_marks map old new band tile (tile + 1) right (omega arith) others (y / 64)
      some in
      let placed = marks_right map old right some in
      grind (
        arith,
        nat_tests,
        cases_eq (y / 64) band,
        cases_eq k tile,
        get_or-set_same,
        get_or-set_other,
        kept k,
      )

  -- each cell stays
  pub tile_shown : IsChangedTo map old map (set new place marks) (cells_of_bits map old)
  tile_shown = record {
    alike = record { width_same = refl; height_same = refl; stride_same = refl; tiles_same = refl };
    right = right_same map old (set new place marks) right (length-set _ _ _ ∙ many);
    cells_are = cells_where-same map.width map.height _ _ (λ x y hx hy.
        let wide = (shape_right map old right).width_is.few in
        let word = tile_word y (x / 64) hy (omega (arith, hx)) in
        let mark = tile_mark y (x / 64) hy (omega (arith, hx, wide)) in
        grind (arith, nat_tests, bit_at-zero, cases_eq (y / 64) band, cases_eq (x / 64) tile));
    unused = λ k unused.
        let apart : k ≢ place = λ same. elim unused.beside_marks [
          | inl none ↦ some none
          | inr beside ↦ elim beside [
            | inl above ↦ omega (arith, above, same, place_is)
            | inr below ↦ omega (arith, below, same, place_is, band_in)
          ]
        ] in
        get_or-set_other new place k marks 0 apart
        ∙ part_unused map old new band tile (tile + 1) right (omega arith) others k unused;
  }
