-- The answer to a query on a bitmap: this project's own rule.
use Rattle.std.specs.Prelude.{◌≡◌, ◌≤◌, ℕ, None}
use Rattle.metric.specs.Nearest.{IsNear}
use Rattle.metric.specs.declared.edge.Edge.{Edge}
use Rattle.bits.specs.Cells.{Cells, IsInside}
use Rattle.bits.specs.Edges.{IsBlocked}
use Rattle.clearance.specs.Answers.{IsClearOf, IsLeastOf, IsRefusalFor, cells_of_rect}
use Rattle.clearance.specs.Paths.{IsPathRefusal, cells_of_path, path_refusal}
use Rattle.lines.specs.Asked.{QueryView, at, rect, path, clear_of}
use Rattle.lines.specs.declared.answer.Answer.{Answer}
use Rattle.lines.specs.declared.answer.Answer.TheVariants.{Near, Found, Clear, Refused}

-- the rectangle with these corners is within the bitmap
abbrev pub HasCorners : Cells → ℕ → ℕ → Type 0
HasCorners cells x1 y1 = (x1 ≤ cells.width) × (y1 ≤ cells.height)

-- the answer to a query on the bitmap with this edge, by this distance: its value, or its refusal
abbrev pub IsAnswerBy : (ℕ → ℕ → ℕ) → Cells → Edge → QueryView → Answer → Type 0
IsAnswerBy distance cells edge (at metric cell) (Near near) =
    IsInside cells cell.x cell.y × IsNear distance (IsBlocked cells edge) cell.x cell.y near
IsAnswerBy distance cells edge (at metric cell) (Refused refusal) =
    IsRefusalFor (IsInside cells cell.x cell.y) refusal
IsAnswerBy distance cells edge (rect metric x0 y0 x1 y1) (Found found) =
    HasCorners cells x1 y1
    × IsLeastOf distance (IsBlocked cells edge) (cells_of_rect x0 y0 x1 y1) found
IsAnswerBy distance cells edge (rect metric x0 y0 x1 y1) (Refused refusal) =
    IsRefusalFor (HasCorners cells x1 y1) refusal
IsAnswerBy distance cells edge (path metric points) (Found found) =
    (path_refusal cells points ≡ None)
    × IsLeastOf distance (IsBlocked cells edge) (cells_of_path points) found
IsAnswerBy distance cells edge (path metric points) (Refused refusal) =
    IsPathRefusal cells points refusal
IsAnswerBy distance cells edge (clear_of metric d points) (Clear found) =
    (path_refusal cells points ≡ None)
    × IsClearOf distance (IsBlocked cells edge) (cells_of_path points) d found
IsAnswerBy distance cells edge (clear_of metric d points) (Refused refusal) =
    IsPathRefusal cells points refusal
IsAnswerBy distance cells edge query answer = ⊥
