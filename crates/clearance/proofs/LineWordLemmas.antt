-- The lines that have an obstacle of a word near.
use Rattle.std.proofs.Common.{◌≡◌, ℕ, ℤ, pos, negsuc, ◌-◌, ◌/◌, ◌%◌, ◌^◌, ◌<◌, ◌≤◌, min, max, refl}
use Rattle.std.proofs.Common.{sym}
use Rattle.std.proofs.Common.{subst, arith}
use Rattle.std.specs.Int.{abs_diff, bit_at}
use Rattle.metric.specs.Crossing.{StaysNearer}
use Rattle.metric.specs.Distance.{Grows, distance_between}
use Rattle.metric.specs.Nearest.{spot_distance}
use Rattle.metric.specs.declared.edge.Edge.TheVariants.{Open}
use Rattle.metric.specs.declared.cell.Cell.{Cell}
use Rattle.metric.specs.declared.rect.Rect.{Rect}
use Rattle.metric.proofs.Growing.{of_grows}
use Rattle.bits.specs.Cells.{Cells, IsObstacle}
use Rattle.bits.specs.Edges.{IsBlocked}
use Rattle.clearance.specs.LineWords.{AreLinesFar, IsLineKept, IsRectLeft, IsWordSpot}
use Rattle.clearance.specs.Lines.{IsFirstBefore, IsRectOf}
use Rattle.clearance.specs.Paths.{towards}
use Rattle.clearance.specs.Rows.{IsFar}
use Rattle.clearance.specs.Search.{IsInRect, IsLeastBelow, column_gap, row_gap}
use Rattle.clearance.specs.Seekers.{AreObstacles, IsBeyond, IsColumnOf, IsPartOf}
use Rattle.clearance.specs.Spots.{IsInWord}
use Rattle.clearance.specs.Strips.{IsLineNear, IsOnLine}
use Rattle.clearance.specs.declared.lines.Lines.{Lines}
use Rattle.clearance.proofs.LineFirsts.{IsFirstBefore-all}
use Rattle.clearance.proofs.Searches.{IsFar-greater}

-- a cell of a rectangle is as far as the rectangle
rect_nearest : (distance : ℕ → ℕ → ℕ) → Grows distance → StaysNearer distance
    → (rect : Rect) (columns gap x y a b : ℕ) → IsInRect rect x y → a < 4096 → b < 4096
    → columns ≤ column_gap rect a → gap ≤ row_gap rect b
    → distance columns gap ≤ distance_between distance x y a b
rect_nearest distance grows stays rect columns gap x y a b cell column row apart away =
    let x_low = cell.left in
    let x_high = cell.right in
    let y_low = cell.top in
    let y_high = cell.bottom in
    let right = rect.has_cells.right in
    let bottom = rect.has_cells.bottom in
    of_grows distance grows stays columns (abs_diff x a) gap (abs_diff y b) (omega arith)
    (omega arith) (omega arith) (omega arith)

-- no cell of a rectangle is nearer to a word's obstacles than its nearest column and its row
word_spot_far : (distance : ℕ → ℕ → ℕ) → Grows distance → StaysNearer distance
    → (rect : Rect) (tile y word columns gap least : ℕ) → tile < 64 → y < 4096
    → ((a : ℕ) → a / 64 ≡ tile → bit_at word (a % 64) ≡ 1 → columns ≤ column_gap rect a)
    → gap ≡ row_gap rect y → least ≤ distance columns gap → least < 2 ^ 32
    → (x z : ℕ) (a b : ℤ) → IsInRect rect x z → IsWordSpot tile y word a b
    → IsFar (spot_distance distance x z a b) least
word_spot_far distance grows stays rect tile y word columns gap least few row apart gap_is low small
    x z (pos a) (pos b) cell here =
    let place = here.1 in
    let same = here.0 in
    let grown = rect_nearest distance grows stays rect columns gap x z a b cell (omega arith)
    (omega arith) (apart a here.1 here.2) (omega arith) in
    IsFar-greater (distance columns gap) (distance_between distance x z a b) least grown
    (record { not_below = low; is_limit = small })
word_spot_far distance grows stays rect tile y word columns gap least few row apart gap_is low small
    x z (pos a) (negsuc b) cell none = absurd none
word_spot_far distance grows stays rect tile y word columns gap least few row apart gap_is low small
    x z (negsuc a) b cell none = absurd none

-- the distance of a word's nearest column, if it is below the limit, is the least
pub IsLeastBelow-word : (distance : ℕ → ℕ → ℕ) → Grows distance → StaysNearer distance
    → (rect : Rect) (tile y word columns gap dist limit least : ℕ) → tile < 64 → y < 4096
    → ((a : ℕ) → a / 64 ≡ tile → bit_at word (a % 64) ≡ 1 → columns ≤ column_gap rect a)
    → IsColumnOf rect tile word columns → gap ≡ row_gap rect y → dist ≡ distance columns gap
    → dist < 2 ^ 32 → least ≡ min dist limit
    → IsLeastBelow distance (IsWordSpot tile y word) rect limit least
IsLeastBelow-word distance grows stays rect tile y word columns gap dist limit least few row apart
    column gap_is dist_is small is =
    let some_column = rect.has_cells.columns in
    let some_row = rect.has_cells.rows in
    record {
      within = omega arith;
      far = word_spot_far distance grows stays rect tile y word columns gap least few row apart
          gap_is (omega arith) (omega arith);
      reached = λ less.
          let a = column.a in
          let across_is = column.columns_is in
          let x = max rect.x0 (min (rect.x1 - 1) a) in
          let z = max rect.y0 (min (rect.y1 - 1) y) in
          let across : abs_diff x a ≡ columns = omega arith in
          let down : abs_diff z y ≡ gap = omega arith in
          record {
            x = x;
            y = z;
            cell = record {
              left = omega arith;
              right = omega arith;
              top = omega arith;
              bottom = omega arith;
            };
            a = pos a;
            b = pos y;
            obstacle = (refl, column.here, column.bit);
            distance_is = rw (across, down) (omega arith);
          };
    }

-- no line before the first one has an obstacle of the word near
pub AreLinesFar-first : (distance : ℕ → ℕ → ℕ) (lines : Lines) (end line tile y word : ℕ)
    → IsFirstBefore distance (IsWordSpot tile y word) lines end line
    → (a b : ℕ) → IsInWord tile y word a b → AreLinesFar distance lines line a b
AreLinesFar-first distance lines end line tile y word first a b here =
    λ k x z from before on_line. first.before k from before x z (pos a) (pos b) on_line here

-- no line has an obstacle near that is as far from their rectangle as the limit
pub AreLinesFar-beyond : (distance : ℕ → ℕ → ℕ) → Grows distance → StaysNearer distance
    → (lines : Lines) (rect : Rect) (start : Cell) (end limit dist x gap a b : ℕ)
    → IsRectLeft lines end rect start limit → limit ≤ dist
    → IsBeyond distance rect dist x gap a b
    → AreLinesFar distance lines end a b
AreLinesFar-beyond distance grows stays lines rect start end limit dist x gap a b shape low beyond =
    λ k c r from before on_line.
    let far = beyond.far in
    let limit_is = shape.limit_is (omega arith) in
    let grown = rect_nearest distance grows stays rect (column_gap rect a) (row_gap rect b) c r a b
    (shape.all k c r from before on_line) beyond.column beyond.row (omega arith) (omega arith) in
    omega arith

-- fewer lines are far too
pub AreLinesFar-fewer : (distance : ℕ → ℕ → ℕ) (lines : Lines) (end fewer a b : ℕ) → fewer ≤ end
    → AreLinesFar distance lines end a b → AreLinesFar distance lines fewer a b
AreLinesFar-fewer distance lines end fewer a b less far =
    λ k x y from before on_line. far k x y from (omega arith) on_line

-- an obstacle of a word is one of the map
word_obstacle : (cells : Cells) (tile y word : ℕ) (a b : ℤ) → AreObstacles cells tile y word
    → IsWordSpot tile y word a b → IsBlocked cells Open a b
word_obstacle cells tile y word (pos a) (pos b) obstacles here = obstacles a b here
word_obstacle cells tile y word (pos a) (negsuc b) obstacles none = absurd none
word_obstacle cells tile y word (negsuc a) b obstacles none = absurd none

-- a line that has an obstacle of a word near has one of the map's
word_near : (distance : ℕ → ℕ → ℕ) (cells : Cells) (lines : Lines) (tile y word k : ℕ)
    → AreObstacles cells tile y word
    → IsLineNear distance (IsWordSpot tile y word) lines.strip lines.limit k
    → IsLineNear distance (IsBlocked cells Open) lines.strip lines.limit k
word_near distance cells lines tile y word k obstacles near = record {
  x = near.x;
  y = near.y;
  on_line = near.on_line;
  a = near.a;
  b = near.b;
  obstacle = word_obstacle cells tile y word near.a near.b obstacles near.obstacle;
  nearer = near.nearer;
}

-- the first line so far, after a word has been met
pub IsLineKept-word : (distance : ℕ → ℕ → ℕ) (cells : Cells) (whole : Lines) (last : ℕ)
    (lines : Lines) (end line tile y word : ℕ) → AreObstacles cells tile y word → line < end
    → IsFirstBefore distance (IsWordSpot tile y word) lines end line
    → IsLineKept distance cells whole last lines end
    → IsLineKept distance cells whole last lines line
IsLineKept-word distance cells whole last lines end line tile y word obstacles less first kept =
    let within = kept.within in
    record {
      lines_is = kept.lines_is;
      from = first.from;
      within = omega arith;
      near = λ fewer. word_near distance cells lines tile y word line obstacles (first.near less);
    }

-- once no line before it has an obstacle near, what is kept is the first line
pub IsFirstBefore-kept : (distance : ℕ → ℕ → ℕ) (cells : Cells) (lines : Lines) (end : ℕ)
    (last : Lines) (line : ℕ) → IsLineKept distance cells lines end last line
    → ((a b : ℕ) → IsObstacle cells a b → AreLinesFar distance last line a b)
    → IsFirstBefore distance (IsBlocked cells Open) lines end line
IsFirstBefore-kept distance cells lines end last line kept far =
    subst (λ (l : Lines). IsFirstBefore distance (IsBlocked cells Open) l end line) kept.lines_is
    (IsFirstBefore-all distance cells last (λ b. b ≤ b) end line (λ a b obstacle. omega arith)
    (record {
      from = kept.from;
      within = kept.within;
      near = kept.near;
      far = λ k x y a b from before on_line obstacle row.
          far a b obstacle k x y from before on_line;
    }))

-- the start of a line is one of its cells
pub start_on_line : (lines : Lines)
    → IsOnLine lines.strip lines.first (towards lines.strip.from.x lines.strip.to.x lines.first)
    (towards lines.strip.from.y lines.strip.to.y lines.first)
start_on_line lines =
    let some = lines.strip.shape.some in
    record { left = omega arith; right = omega arith; row = refl }

-- the rectangle of fewer lines is a part of that of all
pub IsPartOf-fewer : (lines : Lines) (end last : ℕ) (whole part : Rect) (start : Cell) (limit : ℕ)
    → last < end → IsRectLeft lines end whole start limit
    → ((x y : ℕ) → IsInRect part x y → (k : ℕ) × (lines.first ≤ k) × (k ≤ last)
    × IsOnLine lines.strip k x y)
    → IsPartOf whole part
IsPartOf-fewer lines end last whole part start limit fewer shape only =
    let columns = part.has_cells.columns in
    let rows = part.has_cells.rows in
    let (k, from, before, on_line) = only part.x0 part.y0
    (record { left = omega arith; right = columns; top = omega arith; bottom = rows }) in
    let (m, first, earlier, on_last) = only (part.x1 - 1) (part.y1 - 1)
    (record { left = omega arith; right = omega arith; top = omega arith; bottom = omega arith }) in
    let one = shape.all k part.x0 part.y0 from (omega arith) on_line in
    let other = shape.all m (part.x1 - 1) (part.y1 - 1) first (omega arith) on_last in
    let l = one.left in
    let t = one.top in
    let r = other.right in
    let b = other.bottom in
    record { left = l; top = t; right = omega arith; bottom = omega arith }

-- what is said of lines and an end holds of the same lines and end
pub AreLinesFar-same : (distance : ℕ → ℕ → ℕ) (lines same : Lines) (end line a b : ℕ)
    → same ≡ lines → line ≡ end → AreLinesFar distance lines end a b
    → AreLinesFar distance same line a b
AreLinesFar-same distance lines same end line a b lines_is end_is far =
    subst (λ (l : Lines). AreLinesFar distance l line a b) (sym lines_is)
    (subst (λ (n : ℕ). AreLinesFar distance lines n a b) (sym end_is) far)

-- what is kept of lines is kept of the same ones
pub IsLineKept-same : (distance : ℕ → ℕ → ℕ) (cells : Cells) (whole : Lines) (last : ℕ)
    (lines same : Lines) (end line : ℕ) → same ≡ lines → line ≡ end
    → IsLineKept distance cells whole last lines end
    → IsLineKept distance cells whole last same line
IsLineKept-same distance cells whole last lines same end line lines_is end_is kept =
    subst (λ (l : Lines). IsLineKept distance cells whole last l line) (sym lines_is)
    (subst (λ (n : ℕ). IsLineKept distance cells whole last lines n) (sym end_is) kept)

-- the rectangle of some lines is that of those left
pub IsRectLeft-lines : (lines : Lines) (end : ℕ) (rect : Rect) (start : Cell)
    → IsRectOf lines end rect → IsOnLine lines.strip lines.first start.x start.y
    → IsRectLeft lines end rect start lines.limit
IsRectLeft-lines lines end rect start of on_line = record {
  all = of.all;
  on_line = on_line;
  inside = of.all lines.first start.x start.y (omega arith) of.some on_line;
  limit_is = λ _. refl;
}
