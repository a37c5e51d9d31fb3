-- The first of some lines that has an obstacle near, as words of obstacles are met: this project's
-- own rule.
use Rattle.std.specs.Prelude.{◌≡◌, ℕ, ℤ, pos, negsuc, ◌<◌, ◌≤◌}
use Rattle.metric.specs.Distance.{distance_between}
use Rattle.metric.specs.declared.edge.Edge.TheVariants.{Open}
use Rattle.metric.specs.declared.cell.Cell.{Cell}
use Rattle.metric.specs.declared.rect.Rect.{Rect}
use Rattle.bits.specs.Cells.{Cells}
use Rattle.bits.specs.Edges.{IsBlocked}
use Rattle.clearance.specs.Search.{IsInRect}
use Rattle.clearance.specs.Spots.{IsInWord}
use Rattle.clearance.specs.Strips.{IsLineNear, IsOnLine}
use Rattle.clearance.specs.declared.lines.Lines.{Lines}

-- the word of a tile's row has an obstacle
pub record IsWord (bits tile y : ℕ) : Type 0 where
  pub some : 0 < bits
  pub few : tile < 64
  pub row : y < 4096

-- spot (a, b) is one of a word's obstacles
abbrev pub IsWordSpot : ℕ → ℕ → ℕ → ℤ → ℤ → Type 0
IsWordSpot tile y word (pos a) (pos b) = IsInWord tile y word a b
IsWordSpot tile y word (pos a) (negsuc b) = ⊥
IsWordSpot tile y word (negsuc a) b = ⊥

-- the lines before the end lie in the rectangle, as does a cell of the first one; the limit is that
-- of the lines, if one is left
pub record IsRectLeft (lines : Lines) (end : ℕ) (rect : Rect) (start : Cell) (limit : ℕ) :
    Type 0 where
  pub all : (k x y : ℕ) → lines.first ≤ k → k < end → IsOnLine lines.strip k x y
      → IsInRect rect x y
  pub on_line : IsOnLine lines.strip lines.first start.x start.y
  pub inside : IsInRect rect start.x start.y
  pub limit_is : lines.first < end → limit ≡ lines.limit

-- no line before the end has obstacle (a, b) near
abbrev pub AreLinesFar : (ℕ → ℕ → ℕ) → Lines → ℕ → ℕ → ℕ → Type 0
AreLinesFar distance lines end a b =
    (k x y : ℕ) → lines.first ≤ k → k < end → IsOnLine lines.strip k x y
    → lines.limit ≤ distance_between distance x y a b

-- the first line so far, of a search of some lines before an end
pub record IsLineKept (distance : ℕ → ℕ → ℕ) (cells : Cells) (whole : Lines) (last : ℕ)
    (lines : Lines) (end : ℕ) : Type 0 where
  pub lines_is : lines ≡ whole
  pub from : lines.first ≤ end
  pub within : end ≤ last
  pub near : end < last → IsLineNear distance (IsBlocked cells Open) lines.strip lines.limit end
