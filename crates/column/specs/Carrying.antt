-- What is known of the columns of a batch while its rows are computed in order: this project's own
-- rule.
use Rattle.std.specs.Prelude.{◌≡◌, ℕ, ◌+◌, ◌-◌, ◌*◌, ◌/◌, ◌%◌, ◌≤◌, ◌⊎◌, IfSome, length}
use Rattle.metric.specs.Edge.{shift}
use Rattle.column.specs.Capped.{capped}
use Rattle.column.specs.Lines.{AreBandLines, AreLinesBehind, IsLineBefore}
use Rattle.column.specs.declared.batch.Batch.{Batch}
use Rattle.column.specs.declared.carried.Carried.{Carried}
use Rattle.column.specs.declared.columns.Columns.{Columns}

-- the obstacles before row y, below each row of the current band and below each band are known
pub record IsCarriedTo (batch : Batch) (carried : Carried) (y : ℕ) : Type 0 where
  pub before : IsLineBefore (capped batch.edge batch.bitmap.now)
      (y + shift batch.edge) carried.before.items
  pub bands : AreBandLines batch.bitmap.now batch.edge batch.y0 batch.y1 0 carried.bands.items
  pub behind : AreLinesBehind batch.bitmap.now batch.edge carried.first carried.first carried.known
      carried.behind.items
  pub bands_room : (batch.y1 - batch.y0 + 63) / 64 * batch.bitmap.now.width
      ≤ length carried.bands.items
  pub line_room : length carried.line.items ≡ batch.bitmap.now.width
  pub behind_room : 64 * batch.bitmap.now.width ≤ length carried.behind.items
  pub from : batch.y0 ≤ y
  pub reached : carried.first ≤ y
  pub left : y ≤ carried.known
  pub few : carried.known ≤ carried.first + 64
  pub inside : carried.known ≤ batch.y1
  pub aligned : ((carried.known - batch.y0) % 64 ≡ 0) ⊎ (carried.known ≡ batch.y1)

-- row y of the batch is the next
pub record IsNextRow (batch : Batch) (columns : Columns) (y : ℕ) : Type 0 where
  pub from : batch.y0 ≤ y
  pub width : length columns.entries.items ≡ batch.bitmap.now.width + 2 * shift batch.edge
  pub carried : IfSome columns.carried (λ carried. IsCarriedTo batch carried y)
