-- Corner by corner.
use Rattle.std.proofs.Common.{◌<◌, length, rules, pos}
use Rattle.footprint.specs.declared.corner.Corner.{Corner}
use Rattle.footprint.proofs.Ranges.{IsRange-more}
use Rattle.footprint.proofs.bounds.bounds_of.Goals as goal

pub corners-preserved : goal.corners-preserved
corners-preserved c =
    let ring = c.args.ring.now in
    let i = c.corners.corner-index in
    let origin : Corner = record { x = pos 0; y = pos 0 } in
    let below : i < length ring = search rules in
    let with = c.with-bounds.ensures in
    record {
      columns = IsRange-more (λ a. a.x) ring i origin _ _ _ _ below c.corners.invariant.columns
          with.left with.right;
      rows = IsRange-more (λ a. a.y) ring i origin _ _ _ _ below c.corners.invariant.rows with.top
          with.bottom;
    }
