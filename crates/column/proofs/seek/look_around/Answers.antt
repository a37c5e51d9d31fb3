-- The rows are searched outwards.
use Rattle.std.proofs.Common.{◌≡◌, ◌+◌, ◌-◌, ◌%◌, ◌∙◌, ℕ, ap, refl, arith}
use Rattle.std.proofs.Math.ListN.{replicate}
use Rattle.column.specs.Capped.{capped}
use Rattle.column.proofs.Caps.{capped_map}
use Rattle.column.proofs.Seeking.{IsSeen-none, IsSeen-next, IsRowOfTable-seen}
use Rattle.column.proofs.seek.look_around.Goals as goal

pub away-init : goal.away-init
away-init c = record {
  seen =
      IsSeen-none (capped c.args.edge c.args.bitmap.now) c.args.y
      (replicate 64 18446744073709551615) c.fill.new.self c.height.ensures.bitmap.width_is.few
      refl (c.fill.ensures.after (λ y same. same)
      ∙ ap (λ (n : ℕ). replicate n 65535) c.requires.width);
}

pub away-preserved : goal.away-preserved
away-preserved c =
    let up = c.look_within in
    let down = c.look_within-in-away in
    let high = (capped_map c.args.edge c.args.bitmap.now c.height.ensures.bitmap).height_few in
    record {
      seen =
          IsSeen-next (capped c.args.edge c.args.bitmap.now) c.args.y c.away.away c.away.missing
          down.new.missing c.away.entries up.new.entries down.new.entries
          (capped_map c.args.edge c.args.bitmap.now c.height.ensures.bitmap) c.requires.row
          c.away.invariant.seen
          up.ensures.len down.ensures.len (down.ensures.room ∙ up.ensures.room) down.ensures.missing
          (λ within. let above : (c.args.y + (65536 - c.away.away)) % 65536
          ≡ c.args.y - c.away.away = omega (arith, within) in
          (rw above at up.ensures.seen) (omega (arith, c.requires.row)))
          (λ out. up.ensures.none (omega (arith, out, high))) down.ensures.seen down.ensures.none;
    }

pub returns : goal.returns
returns c =
    IsRowOfTable-seen (capped c.args.edge c.args.bitmap.now) c.args.y c.away.away c.away.missing
    c.away.entries (capped_map c.args.edge c.args.bitmap.now c.height.ensures.bitmap)
    c.requires.row
    (omega arith) c.away.invariant.seen
