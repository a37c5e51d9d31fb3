-- The first obstacle in a rectangle is the first of its cells that has one as near as cells can be.
use Rattle.std.proofs.Common.{◌≡◌, ℕ, ◌<◌, ◌≤◌, ℤ, pos, negsuc, inl, inr, refl, ap, subst, ◌≤ℤ◌}
use Rattle.std.proofs.Common.{arith}
use Rattle.std.proofs.lemmas.Int.{ints}
use Rattle.std.proofs.lemmas.Bool.{cases_lt}
use Rattle.metric.specs.Crossing.{StaysNearer}
use Rattle.metric.specs.Distance.{Grows}
use Rattle.metric.specs.Nearest.{apart, spot_distance}
use Rattle.metric.specs.declared.cell.Cell.{Cell}
use Rattle.metric.specs.declared.edge.Edge.{Edge}
use Rattle.metric.specs.declared.edge.Edge.TheVariants.{Open, Wall}
use Rattle.metric.specs.declared.rect.Rect.{Rect}
use Rattle.metric.proofs.Growing.{of_grows}
use Rattle.bits.specs.Cells.{Cells, IsBitmap, IsInside, IsObstacle}
use Rattle.bits.specs.Edges.{IsBlack, IsBlocked}
use Rattle.clearance.specs.Firsts.{IsCellFar, IsCellNear, IsFirstColumn, IsFirstRow, IsRectNear}
use Rattle.clearance.specs.Inside.{HasObstacle, IsFirstObstacle}
use Rattle.clearance.specs.Search.{IsInRect, IsRectIn}
use Rattle.clearance.proofs.Searches.{obstacle_within}

-- an obstacle of the map is no farther than the largest map is wide or high
black_apart : (cells : Cells) (x y : ℕ) (a b : ℤ) → IsBitmap cells → IsInside cells x y
    → IsBlack cells a b → (apart x a ≤ 4097) × (apart y b ≤ 4097)
black_apart cells x y (pos a) (pos b) bitmap inside obstacle =
    let last = obstacle_within cells bitmap a b obstacle in
    let column = last.2 in
    let row = last.3 in
    let width = bitmap.width_is.few in
    let height = bitmap.height_is.few in
    let right = inside.column in
    let bottom = inside.row in
    (omega arith, omega arith)
black_apart cells x y (pos a) (negsuc b) bitmap inside obstacle = absurd obstacle
black_apart cells x y (negsuc a) b bitmap inside obstacle = absurd obstacle

-- no column or row of the frame is farther
frame_apart : (x width : ℕ) (a : ℤ) → x < width → width ≤ 4096 → negsuc 0 ≤ℤ a → a ≤ℤ pos width
    → apart x a ≤ 4097
frame_apart x width (pos a) inside few left right = omega (arith, ints)
frame_apart x width (negsuc a) inside few left right = omega (arith, ints)

-- nor is any obstacle of the map with its edge
blocked_apart : (cells : Cells) (edge : Edge) (x y : ℕ) (a b : ℤ) → IsBitmap cells
    → IsInside cells x y → IsBlocked cells edge a b → (apart x a ≤ 4097) × (apart y b ≤ 4097)
blocked_apart cells Open x y a b bitmap inside obstacle =
    black_apart cells x y a b bitmap inside obstacle
blocked_apart cells Wall x y a b bitmap inside obstacle = elim obstacle [
  | inl black ↦ black_apart cells x y a b bitmap inside black
  | inr frame ↦ (
    frame_apart x cells.width a inside.column bitmap.width_is.few frame.left frame.right,
    frame_apart y cells.height b inside.row bitmap.height_is.few frame.top frame.bottom,
  )
]

-- a spot that isn't apart is the cell
apart_none : (x : ℕ) (a : ℤ) → apart x a ≡ 0 → a ≡ pos x
apart_none x (pos a) none = let same : a ≡ x = omega arith in ap pos same
apart_none x (negsuc a) none = absurd (omega arith)

-- a cell of the map that is an obstacle with its edge is one
own_black : (cells : Cells) (edge : Edge) (x y : ℕ) → IsInside cells x y
    → IsBlocked cells edge (pos x) (pos y) → IsObstacle cells x y
own_black cells Open x y inside obstacle = obstacle
own_black cells Wall x y inside obstacle = elim obstacle [
  | inl black ↦ black
  | inr frame ↦ absurd (frame.outside x y inside refl refl)
]

-- an obstacle of the map is one of its spots
black_blocked : (cells : Cells) (edge : Edge) (x y : ℕ) → IsObstacle cells x y
    → IsBlocked cells edge (pos x) (pos y)
black_blocked cells Open x y obstacle = obstacle
black_blocked cells Wall x y obstacle = inl obstacle

-- a cell with an obstacle nearer than those next to it is an obstacle
own_of_near : (distance : ℕ → ℕ → ℕ) → Grows distance → StaysNearer distance
    → (cells : Cells) (edge : Edge) (limit x y : ℕ) → IsBitmap cells → IsInside cells x y
    → limit ≤ distance 1 0 → limit ≤ distance 0 1
    → IsCellNear distance (IsBlocked cells edge) limit x y
    → IsObstacle cells x y × (distance 0 0 < limit)
own_of_near distance grows stays cells edge limit x y bitmap inside beside below near =
    let bounds = blocked_apart cells edge x y near.a near.b bitmap inside near.obstacle in
    let less = near.nearer in
    elim (cases_lt 0 (apart x near.a)) [
      | inl some ↦
          let grown = of_grows distance grows stays 1 (apart x near.a) 0 (apart y near.b) some
          bounds.0 (omega arith) bounds.1 in
          absurd (omega arith)
      | inr same ↦ elim (cases_lt 0 (apart y near.b)) [
        | inl some ↦
            let grown = of_grows distance grows stays 0 (apart x near.a) 1 (apart y near.b)
            (omega arith) bounds.0 some bounds.1 in
            absurd (omega arith)
        | inr row ↦
            let column : apart x near.a ≡ 0 = omega arith in
            let level : apart y near.b ≡ 0 = omega arith in
            let x_is = apart_none x near.a column in
            let y_is = apart_none y near.b level in (
              own_black cells edge x y inside (subst (λ (n : ℤ). IsBlocked cells edge (pos x) n) y_is
                  (subst (λ (n : ℤ). IsBlocked cells edge n near.b) x_is near.obstacle)),
              rw (column, level) at less,
            )
      ]
    ]

-- a cell of a rectangle in the map is in the map
inside_rect : (cells : Cells) (rect : Rect) (x y : ℕ) → IsRectIn cells rect → IsInRect rect x y
    → IsInside cells x y
inside_rect cells rect x y within cell =
    let columns = within.columns in
    let rows = within.rows in
    let right = cell.right in
    let bottom = cell.bottom in
    record { column = omega arith; row = omega arith }

-- a rectangle in which a cell is so near has an obstacle
pub HasObstacle-near : (distance : ℕ → ℕ → ℕ) → Grows distance → StaysNearer distance
    → (cells : Cells) (edge : Edge) (rect : Rect) (limit : ℕ) → IsRectIn cells rect
    → limit ≤ distance 1 0 → limit ≤ distance 0 1
    → IsRectNear distance (IsBlocked cells edge) rect limit → HasObstacle cells rect
HasObstacle-near distance grows stays cells edge rect limit within beside below near = record {
  x = near.x;
  y = near.y;
  cell = near.cell;
  obstacle = (own_of_near distance grows stays cells edge limit near.x near.y within.bitmap
      (inside_rect cells rect near.x near.y within near.cell) beside below near.near).0;
}

-- an obstacle is so near to its own cell
pub IsCellNear-own : (distance : ℕ → ℕ → ℕ) → Grows distance → StaysNearer distance
    → (cells : Cells) (edge : Edge) (rect : Rect) (limit x y : ℕ) → IsRectIn cells rect
    → limit ≤ distance 1 0 → limit ≤ distance 0 1
    → IsRectNear distance (IsBlocked cells edge) rect limit → IsObstacle cells x y
    → IsCellNear distance (IsBlocked cells edge) limit x y
IsCellNear-own distance grows stays cells edge rect limit x y within beside below near obstacle =
    let own = (own_of_near distance grows stays cells edge limit near.x near.y within.bitmap
    (inside_rect cells rect near.x near.y within near.cell) beside below near.near).1 in
    let across : apart x (pos x) ≡ 0 = omega arith in
    let down : apart y (pos y) ≡ 0 = omega arith in
    record {
      a = pos x;
      b = pos y;
      obstacle = black_blocked cells edge x y obstacle;
      nearer = rw (across, down) own;
    }

-- a cell of the rectangle that isn't an obstacle is far
far_unless_own : (distance : ℕ → ℕ → ℕ) → Grows distance → StaysNearer distance
    → (cells : Cells) (edge : Edge) (rect : Rect) (limit x y : ℕ) → IsRectIn cells rect
    → limit ≤ distance 1 0 → limit ≤ distance 0 1 → IsInRect rect x y
    → (IsObstacle cells x y → ⊥) → IsCellFar distance (IsBlocked cells edge) limit x y
far_unless_own distance grows stays cells edge rect limit x y within beside below cell none =
    λ a b obstacle. elim (cases_lt (spot_distance distance x y a b) limit) [
      | inl near ↦ absurd (none (own_of_near distance grows stays cells edge limit x y within.bitmap
          (inside_rect cells rect x y within cell) beside below
          (record { a = a; b = b; obstacle = obstacle; nearer = near })).0)
      | inr far ↦ far
    ]

-- the first obstacle is in the first row that has a cell so near
pub IsFirstRow-own : (distance : ℕ → ℕ → ℕ) → Grows distance → StaysNearer distance
    → (cells : Cells) (edge : Edge) (rect : Rect) (limit : ℕ) (first : Cell) → IsRectIn cells rect
    → limit ≤ distance 1 0 → limit ≤ distance 0 1
    → IsRectNear distance (IsBlocked cells edge) rect limit → IsFirstObstacle cells rect first
    → IsFirstRow distance (IsBlocked cells edge) rect limit first.y
IsFirstRow-own distance grows stays cells edge rect limit first within beside below near is = record {
  x = first.x;
  cell = is.cell;
  near = IsCellNear-own distance grows stays cells edge rect limit first.x first.y within beside below
      near is.obstacle;
  above = λ a b cell less. far_unless_own distance grows stays cells edge rect limit a b within beside
      below cell (is.above a b cell less);
}

-- the first obstacle is in the first column of the first row
pub IsFirstColumn-own : (distance : ℕ → ℕ → ℕ) → Grows distance → StaysNearer distance
    → (cells : Cells) (edge : Edge) (rect : Rect) (limit : ℕ) (first : Cell) → IsRectIn cells rect
    → limit ≤ distance 1 0 → limit ≤ distance 0 1
    → IsRectNear distance (IsBlocked cells edge) rect limit → IsFirstObstacle cells rect first
    → IsFirstColumn distance (IsBlocked cells edge) rect limit first.y first.x
IsFirstColumn-own distance grows stays cells edge rect limit first within beside below near is =
    let top = is.cell.top in
    let bottom = is.cell.bottom in
    let right = is.cell.right in
    record {
      cell = is.cell;
      near = IsCellNear-own distance grows stays cells edge rect limit first.x first.y within beside
          below near is.obstacle;
      before = λ a left less. far_unless_own distance grows stays cells edge rect limit a first.y
          within beside below
          (record { left = left; right = omega arith; top = top; bottom = bottom })
          (is.before a left less);
    }
