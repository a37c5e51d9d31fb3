-- A paint or a stamp that has been judged: this project's own rule.
use Rattle.std.specs.Prelude.{◌≡◌, ℕ, ◌≤◌, List, None}
use Rattle.events.specs.declared.command.Command.{Command}
use Rattle.events.specs.Drawing.{drawn}
use Rattle.grid.specs.declared.stroke.Stroke.{Stroke}
use Rattle.grid.specs.Grids.{Tiled, draft, full_by, refused_by}
use Rattle.grid.specs.Inks.{with_ink}

-- what is to be drawn is within the map, and has enough free blocks
pub record CanDraw (g : Tiled) (free : List ℕ) (s : Stroke) : Type 0 where
  pub columns : s.rect.x1 ≤ g.width
  pub rows : s.rect.y1 ≤ g.height
  pub room : full_by g free (with_ink (draft g) s.rect s.ink) ≡ None

-- a command has been judged: it isn't refused, and this is what it draws
pub record IsStroke (g : Tiled) (free : List ℕ) (c : Command) (s : Stroke) : Type 0 where
  pub can : CanDraw g free s
  pub draws : drawn (draft g) c ≡ with_ink (draft g) s.rect s.ink
  pub accepted : refused_by g free c ≡ None
