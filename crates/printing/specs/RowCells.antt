-- The buffers for a row of a table: this project's own rule.
use Rattle.std.specs.Prelude.{◌≡◌, ℕ, Bool, true, false, vec_len}
use Rattle.printing.specs.declared.row_cells.RowCells.{RowCells}

-- the buffers have room for a row of this width: for its obstacles, if they are printed, or else
-- for its distances
pub record IsRowRoom (nearest : Bool) (width : ℕ) (cells : RowCells) : Type 0 where
  pub nears : nearest ≡ true → vec_len cells.nears ≡ width
  pub distances : nearest ≡ false → vec_len cells.distances ≡ width
