-- Rows that stand in strips of equal height.
use Rattle.std.proofs.Common.{◌≡◌, ℕ, ◌+◌, ◌-◌, ◌*◌, ◌/◌, ◌%◌, ◌<◌, ◌≤◌, List, [], ◌∷◌, Option}
use Rattle.std.proofs.Common.{None, Result, Ok, IfOk, length, map, slice_index_or, ap, arith, refl}
use Rattle.std.proofs.Common.{sym, ◌∙◌}
use Rattle.std.specs.List.{slice_range}
use Rattle.std.proofs.Math.Nat.{div-add-mod, div-lt_iff_lt-mul, mod-lt, mul-le-mul_right}
use Rattle.std.proofs.lemmas.Nat.{div-mul-add, mod-mul-add}
use Rattle.std.proofs.lemmas.List.{ext_get_or, get_or-map, length-map}
use Rattle.std.proofs.lemmas.List.FromFn.{get_or-map-range_with_len, length-map-range_with_len}
use Rattle.metric.specs.declared.spot.Spot.{Spot}
use Rattle.column.specs.declared.batch.Batch.{Batch}
use Rattle.column.proofs.Places.{place_above}
use Rattle.field.specs.Bands.{AreAnswers}
use Rattle.field.specs.Obstacles.{AreRows, HaveRows, cell_in, cells_in, in_strips, seen_from}
use Rattle.field.specs.Strips.{AreStrips, AreStripsOf, HoldRows, Holding, IsStripOf, line_in}
use Rattle.field.specs.Strips.{rows_before, strip_row}
use Rattle.field.proofs.ObstacleLemmas.{length-line, line_at}

-- what holds of each success among those found holds of each strip, which are all of them
pub each_found : {V E : Type 0} (Holds : ℕ → V → Type 0) (found : List (Result V E))
    (strips : List V) → found ≡ map Ok strips
    → ((k : ℕ) (other : Result V E) → k < length found
    → IfOk (slice_index_or found k other) (Holds k))
    → (k : ℕ) (other : V) → k < length strips → Holds k (slice_index_or strips k other)
each_found {V} {E} Holds found strips same each k other below =
    let many : k < length found = rw (same, length-map {B = Result V E} strips Ok) below in
    let here : slice_index_or found k (Ok other) ≡ Ok (slice_index_or strips k other) =
    rw same (get_or-map Ok strips k other (Ok other) below) in
    rw here at (each k (Ok other) many)

-- strips that hold something of their rows hold it in their lists
pub HoldRows-lists : {S T : Type 0} (items : S → List T) (holds : Holding S)
    (lists : Holding (List T)) (d : ℕ → ℕ → ℕ) (batch : Batch) (height : ℕ) (strips : List S)
    → ((from to : ℕ) (kept : S) → holds d batch.bitmap.now batch.edge from to kept
    → lists d batch.bitmap.now batch.edge from to (items kept))
    → HoldRows holds d batch height strips → HoldRows lists d batch height (map items strips)
HoldRows-lists {S} {T} items holds lists d batch height strips turns held = record {
  bitmap = held.bitmap;
  some = held.some;
  enough = rw (length-map strips items) held.enough;
  each = each_list strips held.each;
}
  where
    each_list : (strips : List S) → AreStripsOf holds d batch height strips
        → AreStripsOf lists d batch height (map items strips)
    each_list [] each k other inside = elim inside [ ]
    each_list (first ∷ others) each k other inside =
        let below : k < length (first ∷ others) = rw (length-map (first ∷ others) items) at inside
        in
        rw (get_or-map items (first ∷ others) k first other below)
        (turns (strip_row batch height k) (strip_row batch height (k + 1))
        (slice_index_or (first ∷ others) k first) (each k first below))

-- the strip of a row is one of the strips
pub strip_below : (height rows count row : ℕ) → 1 ≤ height → rows ≤ count * height → row < rows
    → row / height < count
strip_below height rows count row some enough below =
    (div-lt_iff_lt-mul some).1 (omega (arith, enough, below))

-- the number of a row is that of its strip times the strips' height, with its place in the strip
-- added
row_in_strip : (height row : ℕ) → row ≡ row / height * height + row % height
row_in_strip height row = let parts = div-add-mod row height in omega (arith, parts)

-- a cell of a row stands in the row's strip
cell_here : (width height : ℕ) (strips : List (List (Option Spot))) (row x : ℕ) → 1 ≤ height
    → x < width
    → cell_in width height strips (row * width + x)
    ≡ slice_index_or (slice_index_or strips (row / height) []) (row % height * width + x) None
cell_here width height strips row x some inside =
    let rest : row % height * width + x < height * width =
    place_above (row % height) height width x (mod-lt row some) inside in
    let parts = row_in_strip height row in
    let place : row * width + x ≡ row / height * (height * width) + (row % height * width + x) =
    let scaled : row * width ≡ (row / height * height + row % height) * width = rw (← parts) refl in
    omega (arith, scaled) in
    rw (
      place,
      div-mul-add (row / height) (height * width) (row % height * width + x) rest,
      mod-mul-add (row / height) (height * width) (row % height * width + x) rest,
    ) refl

-- the cell in this column of a row, in all strips, is that of the row's strip
cell_at : (width height rows : ℕ) (strips : List (List (Option Spot))) (row x : ℕ) → 1 ≤ height
    → row < rows → x < width
    → slice_index_or (cells_in width height rows strips) (row * width + x) None
    ≡ slice_index_or (slice_index_or strips (row / height) []) (row % height * width + x) None
cell_at width height rows strips row x some below inside =
    get_or-map-range_with_len (cell_in width height strips) 0 (rows * width) (row * width + x)
    (row * width + x) None (place_above row rows width x below inside) (omega arith)
    ∙ cell_here width height strips row x some inside

-- as many cells stand in strips as their rows have
length-cells_in : (width height rows : ℕ) (strips : List (List (Option Spot)))
    → length (cells_in width height rows strips) ≡ rows * width
length-cells_in width height rows strips =
    length-map-range_with_len (cell_in width height strips) 0 (rows * width)

-- rows that stand in strips are rows of a map, each with its cells
pub AreRows-strips : (width y0 y1 height : ℕ) (strips : List (List (Option Spot)))
    → HaveRows width y0 y1 height strips → AreRows (in_strips width y0 y1 height strips)
AreRows-strips width y0 y1 height strips have =
    record {
      across = have.across;
      order = have.order;
      within = have.within;
      as_many = length-cells_in width height (y1 - y0) strips;
    }

-- all strips before a row's strip are full, and the row's place in its own strip lies within it
strip_starts : (height rows row : ℕ) → 1 ≤ height → row < rows
    → (rows_before rows height (row / height) ≡ row / height * height)
    × (row % height < rows_before rows height (row / height + 1)
    - rows_before rows height (row / height))
strip_starts height rows row some below =
    let parts = row_in_strip height row in
    let rest = mod-lt row some in
    let next : (row / height + 1) * height ≡ row / height * height + height = omega arith in
    (omega (arith, parts, below), rw next (omega (arith, parts, below, rest)))

-- a row's line ends in its strip, whose length is that of its rows
line_inside : {T : Type 0} (width height rows : ℕ) (strip : List T) (row : ℕ) → 1 ≤ height
    → row < rows
    → length strip ≡ (rows_before rows height (row / height + 1)
    - rows_before rows height (row / height)) * width
    → row % height * width + width ≤ length strip
line_inside width height rows strip row some below long =
    let starts = strip_starts height rows row some below in
    let own : ℕ = rows_before rows height (row / height + 1)
    - rows_before rows height (row / height) in
    let through : (row % height + 1) * width ≤ own * width =
    mul-le-mul_right width (omega (arith, starts.1)) in
    omega (arith, long, through)

-- a row's line ends in its strip
pub line_within : {T : Type 0} (width height rows : ℕ) (strips : List (List T)) (row : ℕ)
    → AreStrips width height rows strips → row < rows
    → row % height * width + width ≤ length (slice_index_or strips (row / height) [])
line_within width height rows strips row are below =
    line_inside width height rows (slice_index_or strips (row / height) []) row are.some below
    (are.each (row / height)
    (strip_below height rows (length strips) row are.some are.enough below))

-- a row's line in its strip is its part of all cells
pub line_in_strips : (width y0 y1 height : ℕ) (strips : List (List (Option Spot))) (row : ℕ)
    → HaveRows width y0 y1 height strips → row < y1 - y0
    → line_in width height strips row ≡ slice_range (cells_in width height (y1 - y0) strips)
    (row * width) (row * width + width)
line_in_strips width y0 y1 height strips row have below =
    let are = have.placed in
    let strip : List (Option Spot) = slice_index_or strips (row / height) [] in
    let all : List (Option Spot) = cells_in width height (y1 - y0) strips in
    let many = length-cells_in width height (y1 - y0) strips in
    let through : (row + 1) * width ≤ (y1 - y0) * width =
    mul-le-mul_right width (omega (arith, below)) in
    let own = length-line strip (row % height * width) width
    (line_within width height (y1 - y0) strips row are below) in
    let whole = length-line all (row * width) width (omega (arith, many, through)) in
    ext_get_or None (slice_range strip (row % height * width) (row % height * width + width))
    (slice_range all (row * width) (row * width + width)) (own ∙ sym whole)
    (λ x inside.
    let column : x < width = rw own at inside in
    rw (
      line_at strip (row % height * width) width x None column,
      line_at all (row * width) width x None column,
    )
    (sym (cell_at width height (y1 - y0) strips row x are.some below column)))

-- a row of a batch is one of its strip's rows, and has its place there
pub record IsRowHeld {S : Type 0} (holds : Holding S) (d : ℕ → ℕ → ℕ) (batch : Batch)
    (height : ℕ) (strips : List S) (other : S) (y : ℕ) : Type 0 where
  pub held : IsStripOf holds d batch height ((y - batch.y0) / height)
      (slice_index_or strips ((y - batch.y0) / height) other)
  pub from : strip_row batch height ((y - batch.y0) / height) ≤ y
  pub to : y < strip_row batch height ((y - batch.y0) / height + 1)
  pub place : y - strip_row batch height ((y - batch.y0) / height) ≡ (y - batch.y0) % height

-- each row of a batch is held by its strip
pub row_held : {S : Type 0} {holds : Holding S} (d : ℕ → ℕ → ℕ) (batch : Batch) (height : ℕ)
    (strips : List S) (other : S) → HoldRows holds d batch height strips → (y : ℕ) → batch.y0 ≤ y
    → y < batch.y1 → IsRowHeld holds d batch height strips other y
row_held d batch height strips other held y from to =
    let rows : ℕ = batch.y1 - batch.y0 in
    let row : ℕ = y - batch.y0 in
    let below : row < rows = omega (arith, from, to) in
    let starts = strip_starts height rows row held.some below in
    let parts = row_in_strip height row in
    record {
      held = held.each (row / height) other
          (strip_below height rows (length strips) row held.some held.enough below);
      from = rw starts.0 (omega (arith, parts, from));
      to = omega (arith, starts.0, starts.1, parts, from);
      place = rw starts.0 (omega (arith, parts, from));
    }

-- where each strip tells the nearest obstacles of its rows, all cells tell those of all rows
pub AreAnswers-strips : (d : ℕ → ℕ → ℕ) (batch : Batch) (height : ℕ)
    (strips : List (List (Option Spot)))
    → HoldRows (AreAnswers seen_from None) d batch height strips
    → AreAnswers seen_from None d batch.bitmap.now batch.edge batch.y0 batch.y1
    (cells_in batch.bitmap.now.width height (batch.y1 - batch.y0) strips)
AreAnswers-strips d batch height strips held =
    let width = batch.bitmap.now.width in
    let rows = batch.y1 - batch.y0 in
    record {
      as_many = length-cells_in width height rows strips;
      filled = record {
        each = λ x y column from to.
            let here = row_held d batch height strips [] held y from to in
            rw (
              cell_at width height rows strips (y - batch.y0) x held.some (omega (arith, from, to))
                  column,
              ← here.place,
            )
            (here.held.filled.each x y column here.from here.to);
      };
    }

-- strips whose lists are as long as their rows have these rows
pub AreStrips-held : {T : Type 0} (lists : Holding (List T)) (d : ℕ → ℕ → ℕ) (batch : Batch)
    (height : ℕ) (strips : List (List T))
    → ((from to : ℕ) (kept : List T) → lists d batch.bitmap.now batch.edge from to kept
    → length kept ≡ (to - from) * batch.bitmap.now.width)
    → HoldRows lists d batch height strips
    → AreStrips batch.bitmap.now.width height (batch.y1 - batch.y0) strips
AreStrips-held lists d batch height strips long held = record {
  some = held.some;
  enough = held.enough;
  each = λ strip below.
      let rows : strip_row batch height (strip + 1) - strip_row batch height strip
      ≡ rows_before (batch.y1 - batch.y0) height (strip + 1)
      - rows_before (batch.y1 - batch.y0) height strip = omega arith in
      rw (← rows)
      (long (strip_row batch height strip) (strip_row batch height (strip + 1))
      (slice_index_or strips strip []) (held.each strip [] below));
}

-- the strip that is read at the place of a row's strip is that strip
pub strip_here : {T V : Type 0} (items : V → List T) (all : List V) (height rows row : ℕ)
    (strip : V) → 1 ≤ height → rows ≤ length (map items all) * height → row < rows
    → strip ≡ slice_index_or all (row / height) strip
    → items strip ≡ slice_index_or (map items all) (row / height) []
strip_here items all height rows row strip some enough below read =
    let inside : row / height < length all =
    strip_below height rows (length all) row some (rw (length-map all items) at enough) below in
    ap items read ∙ sym (get_or-map items all (row / height) strip [] inside)
