-- Commands judged by what a desk holds: this project's own rule.
use Rattle.std.specs.Prelude.{◌≡◌, None}
use Rattle.events.specs.declared.command.Command.{Command}
use Rattle.events.specs.declared.command.Command.TheVariants.{Publish, Revert, Collect, Checkpoint}
use Rattle.events.specs.Drawing.{IsDraw}
use Rattle.events.specs.Ledger.{refused_by_ledger}
use Rattle.grid.specs.Strokes.{IsStroke}
use Rattle.desk.specs.declared.holding.Holding.{Holding}
use Rattle.desk.specs.declared.holding.judged.Judged.{Judged}
use Rattle.desk.specs.declared.holding.judged.Judged.TheVariants as kinds

-- what a command does; a paint or a stamp has enough free blocks
abbrev pub IsKind : Holding → Command → Judged → Type 0
IsKind h c (kinds.Draw stroke) = IsDraw c × IsStroke h.grid h.arena.free c stroke
IsKind h c kinds.Publish = c ≡ Publish
IsKind h c kinds.Revert = c ≡ Revert
IsKind h c kinds.Collect = c ≡ Collect
IsKind h c kinds.Checkpoint = c ≡ Checkpoint

-- neither the ledger nor the blocks refuse a command, and it does this
pub record IsJudged (h : Holding) (c : Command) (j : Judged) : Type 0 where
  pub by : refused_by_ledger h.ledger c ≡ None
  pub kind : IsKind h c j
