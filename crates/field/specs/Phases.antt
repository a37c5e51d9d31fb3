-- What is known of both phases while the rows of a batch are computed in order: this project's own
-- rule.
use Rattle.std.specs.Prelude.{ℕ, ◌+◌, ◌*◌, ◌≤◌}
use Rattle.metric.specs.Edge.{shift}
use Rattle.bits.specs.Cells.{IsBitmap}
use Rattle.column.specs.Carrying.{IsNextRow}
use Rattle.column.specs.declared.batch.Batch.{Batch}
use Rattle.field.specs.declared.phases.Phases.{Phases}

-- row y of the batch is the next, and the stack has room for it
pub record IsNextLine (batch : Batch) (phases : Phases) (y : ℕ) : Type 0 where
  pub bitmap : IsBitmap batch.bitmap.now
  pub columns : IsNextRow batch phases.columns y
  pub stack : batch.bitmap.now.width + 2 * shift batch.edge ≤ phases.stack
