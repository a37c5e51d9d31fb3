-- The rows are searched upwards.
use Rattle.std.proofs.Common.{ℕ, ◌+◌, ◌-◌, ◌≡◌, ◌∙◌, ap, arith, refl}
use Rattle.std.proofs.Math.ListN.{replicate}
use Rattle.column.specs.Capped.{capped}
use Rattle.column.proofs.Caps.{capped_map}
use Rattle.column.proofs.SoughtLemmas.{IsRowToBefore, IsSought, IsSought-none, IsSought-up}
use Rattle.column.proofs.sought.seek_before.Goals as goal

pub rows-init : goal.rows-init
rows-init c = record {
  sought =
      IsSought-none (capped c.args.edge c.args.bitmap.now)
      (IsRowToBefore (capped c.args.edge c.args.bitmap.now) c.args.y c.args.y)
      (replicate 64 18446744073709551615) c.fill.new.self c.requires.bitmap.width_is.few refl refl
      (c.fill.ensures.after (λ y same. same) ∙ ap (λ (n : ℕ). replicate n 65535) c.requires.width)
      (λ x b low high black. omega (arith, low, high));
}

pub rows-preserved : goal.rows-preserved
rows-preserved c =
    let next : c.rows.row ≡ (c.rows.row - 1) + 1 = omega arith in
    let sought : IsSought (capped c.args.edge c.args.bitmap.now)
    (IsRowToBefore (capped c.args.edge c.args.bitmap.now) ((c.rows.row - 1) + 1) c.args.y)
    c.rows.missing c.rows.line = rw (← next) c.rows.invariant.sought in
    record {
      sought =
          IsSought-up (capped c.args.edge c.args.bitmap.now)
          (c.rows.row - 1) c.args.y c.rows.missing c.look_at.new.missing c.rows.line
          c.look_at.new.entries (capped_map c.args.edge c.args.bitmap.now c.requires.bitmap)
          (omega arith) c.requires.row
          sought c.look_at.ensures.len c.look_at.ensures.room c.look_at.ensures.missing
          c.look_at.ensures.seen;
    }
