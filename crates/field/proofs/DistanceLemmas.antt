-- The distances of the nearest obstacles of rows, and that they are distances within a map.
use Rattle.std.proofs.Common.{ℕ, zero, suc, ◌+◌, ◌-◌, ◌*◌, ◌/◌, ◌<◌, ◌≤◌, ◌∙◌, inl, inr, ℤ, pos}
use Rattle.std.proofs.Common.{negsuc, ◌≤ℤ◌, List, [], Option, None, Some, slice_index_or, arith}
use Rattle.std.proofs.lemmas.Grind.{get_or_default_zero}
use Rattle.std.proofs.lemmas.Int.{ints}
use Rattle.metric.specs.declared.edge.Edge.{Edge}
use Rattle.metric.specs.declared.edge.Edge.TheVariants.{Open, Wall}
use Rattle.metric.specs.declared.near.Near.{Near}
use Rattle.metric.specs.Nearest.{IsNear, apart}
use Rattle.bits.specs.Cells.{Cells, IsBitmap}
use Rattle.bits.specs.Edges.{IsBlack, IsBlocked, IsFrame}
use Rattle.bits.proofs.CellsLemmas.{has-outside}
use Rattle.envelope.specs.Answer.{IsDistanceOf}
use Rattle.column.proofs.Places.{place_above}
use Rattle.column.specs.declared.batch.Batch.{Batch}
use Rattle.field.specs.Distances.{AreAllMeasured, AreMeasuredRows, HaveNumbers, IsFarAway}
use Rattle.field.specs.Distances.{distances_in, number_at}
use Rattle.field.specs.Obstacles.{IsMeasured}
use Rattle.field.specs.Strips.{HoldRows, strip_row}
use Rattle.field.proofs.StripLemmas.{AreStrips-held, row_held}

-- a spot is no more columns and rows from a cell than two cells of a map with its frame can be
abbrev pub IsNotFar : ℕ → ℕ → ℤ → ℤ → Type 0
IsNotFar x y c e = (apart x c ≤ 4097) × (apart y e ≤ 4097)

-- a spot of the bitmap isn't far from a cell
black_near : (cells : Cells) (c e : ℤ) (x y : ℕ) → IsBitmap cells → x < cells.width
    → y < cells.height → IsBlack cells c e → IsNotFar x y c e
black_near cells (pos a) (pos b) x y bitmap inside within black =
    let place = has-outside cells bitmap a b black in
    let column = place.column in
    let row = place.row in
    let wide = bitmap.width_is.few in
    let high = bitmap.height_is.few in
    (omega arith, omega arith)
black_near cells (pos a) (negsuc b) x y bitmap inside within none = absurd none
black_near cells (negsuc a) e x y bitmap inside within none = absurd none

-- a column or row from -1 to the side isn't far from one of the map
side_near : (x side : ℕ) (c : ℤ) → x < side → side ≤ 4096 → negsuc 0 ≤ℤ c → c ≤ℤ pos side
    → apart x c ≤ 4097
side_near x side (pos a) inside few low high = let most : a ≤ side = omega (arith, ints) in
    omega arith
side_near x side (negsuc zero) inside few low high = omega arith
side_near x side (negsuc (suc n)) inside few low high = absurd (omega (arith, ints))

-- a spot of the frame isn't far from a cell
frame_near : (cells : Cells) (c e : ℤ) (x y : ℕ) → IsBitmap cells → x < cells.width
    → y < cells.height → IsFrame cells c e → IsNotFar x y c e
frame_near cells c e x y bitmap inside within frame = (
  side_near x cells.width c inside bitmap.width_is.few frame.left frame.right,
  side_near y cells.height e within bitmap.height_is.few frame.top frame.bottom,
)

-- an obstacle of a map with its edge isn't far from a cell
blocked_near : (cells : Cells) (edge : Edge) (c e : ℤ) (x y : ℕ) → IsBitmap cells
    → x < cells.width → y < cells.height → IsBlocked cells edge c e → IsNotFar x y c e
blocked_near cells Open c e x y bitmap inside within black =
    black_near cells c e x y bitmap inside within black
blocked_near cells Wall c e x y bitmap inside within (inl black) =
    black_near cells c e x y bitmap inside within black
blocked_near cells Wall c e x y bitmap inside within (inr frame) =
    frame_near cells c e x y bitmap inside within frame

-- the distance of the nearest obstacle is measured
IsMeasured-near : (d : ℕ → ℕ → ℕ) (cells : Cells) (edge : Edge) (x y number : ℕ)
    (near : Option Near) → IsBitmap cells → x < cells.width → y < cells.height
    → IsNear d (IsBlocked cells edge) x y near → IsDistanceOf near number
    → IsMeasured d near number
IsMeasured-near d cells edge x y number None bitmap inside within found is = is
IsMeasured-near d cells edge x y number (Some near) bitmap inside within found is =
    let few = blocked_near cells edge near.cell.x near.cell.y x y bitmap inside within found.obstacle
    in (
      is,
      record {
        columns = apart x near.cell.x;
        rows = apart y near.cell.y;
        few_columns = few.0;
        few_rows = few.1;
        is = is ∙ found.distance_is;
      },
    )

-- numbers that say how far the nearest obstacles of rows are, are their distances
pub AreMeasuredRows-values : (d : ℕ → ℕ → ℕ) (cells : Cells) (edge : Edge) (from to : ℕ)
    (numbers : List ℕ) → IsBitmap cells → to ≤ cells.height
    → AreAllMeasured d cells edge from to numbers
    → AreMeasuredRows d cells edge from to numbers
AreMeasuredRows-values d cells edge from to numbers bitmap within values = record {
  each = λ x y column low high.
      let many = values.as_many in
      let place = place_above (y - from) (to - from) cells.width x (omega (arith, low, high)) column
      in
      let it = values.each x y column low high in
      rw (← get_or_default_zero numbers ((y - from) * cells.width + x) 4294967295
      (omega (arith, many, place)))
      (record {
        near = it.near;
        near_is = it.near_is;
        measured = IsMeasured-near d cells edge x y
            (slice_index_or numbers ((y - from) * cells.width + x) 4294967295) it.near bitmap column
            (omega (arith, high, within)) it.near_is it.said;
      });
}

-- where each strip has the distances of its rows, the table has those of all rows
pub number_at-strips : (d : ℕ → ℕ → ℕ) (batch : Batch) (height : ℕ) (strips : List (List ℕ))
    → HoldRows AreAllMeasured d batch height strips
    → (x y : ℕ) → x < batch.bitmap.now.width → batch.y0 ≤ y → y < batch.y1
    → IsFarAway d (IsBlocked batch.bitmap.now batch.edge) x y
    (number_at (distances_in batch.bitmap.now.width batch.y0 batch.y1 height strips) x y)
number_at-strips d batch height strips held x y column from to =
    let row : ℕ = y - batch.y0 in
    let here = row_held d batch height strips [] held y from to in
    rw (← here.place)
    ((AreMeasuredRows-values d batch.bitmap.now batch.edge (strip_row batch height (row / height))
    (strip_row batch height (row / height + 1)) (slice_index_or strips (row / height) []) held.bitmap
    (omega (arith, batch.within, batch.order)) here.held).each x y column here.from here.to)

-- strips with the distances of their rows have the numbers of all rows
pub HaveNumbers-strips : (d : ℕ → ℕ → ℕ) (batch : Batch) (height : ℕ) (strips : List (List ℕ))
    → HoldRows AreAllMeasured d batch height strips
    → HaveNumbers (distances_in batch.bitmap.now.width batch.y0 batch.y1 height strips)
HaveNumbers-strips d batch height strips held = record {
  across = held.bitmap.width_is.few;
  order = batch.order;
  placed = AreStrips-held AreAllMeasured d batch height strips (λ from to kept held. held.as_many)
      held;
}
