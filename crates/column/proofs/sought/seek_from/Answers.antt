-- The rows are searched downwards.
use Rattle.std.proofs.Common.{ℕ, ◌∙◌, ap, arith, refl}
use Rattle.std.proofs.Math.ListN.{replicate}
use Rattle.column.specs.Capped.{capped}
use Rattle.column.proofs.Caps.{capped_map}
use Rattle.column.proofs.SoughtLemmas.{IsLineFrom-all, IsRowFromTo, IsSought-down, IsSought-none}
use Rattle.column.proofs.sought.seek_from.Goals as goal

pub rows-init : goal.rows-init
rows-init c = record {
  sought =
      IsSought-none (capped c.args.edge c.args.bitmap.now)
      (IsRowFromTo (capped c.args.edge c.args.bitmap.now) c.args.y c.args.y)
      (replicate 64 18446744073709551615) c.fill.new.self c.requires.bitmap.width_is.few refl refl
      (c.fill.ensures.after (λ y same. same) ∙ ap (λ (n : ℕ). replicate n 65535) c.requires.width)
      (λ x b low high black. omega (arith, low, high));
}

pub rows-preserved : goal.rows-preserved
rows-preserved c = record {
  sought =
      IsSought-down (capped c.args.edge c.args.bitmap.now) c.args.y c.rows.row c.rows.missing
      c.look_at.new.missing c.rows.line c.look_at.new.entries
      (capped_map c.args.edge c.args.bitmap.now c.requires.bitmap) (omega arith)
      (omega arith)
      c.rows.invariant.sought c.look_at.ensures.len c.look_at.ensures.room c.look_at.ensures.missing
      c.look_at.ensures.seen;
}

pub returns : goal.returns
returns c = IsLineFrom-all (capped c.args.edge c.args.bitmap.now) c.args.y c.rows.row c.rows.missing
    c.rows.line (capped_map c.args.edge c.args.bitmap.now c.requires.bitmap)
    (omega arith) c.rows.invariant.sought
