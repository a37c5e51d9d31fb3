-- Side by side.
use Rattle.std.proofs.Common.{length, ◌≤◌, ◌<◌, rules, pos}
use Rattle.std.proofs.lemmas.Int.{to_z-of_z}
use Rattle.std.proofs.lemmas.List.Elements.{All-get_or}
use Rattle.footprint.specs.declared.corner.Corner.{Corner}
use Rattle.footprint.specs.Polygon.{IsNear, PassesFrom, last_of}
use Rattle.footprint.specs.Sides.{IsOn}
use Rattle.footprint.proofs.Rings.{ended, side_more}
use Rattle.footprint.proofs.ring.columns_left.Goals as goal

pub sides-preserved : goal.sides-preserved
sides-preserved c =
    let ring = c.args.ring.now in
    let i = c.sides.to-index in
    let origin : Corner = record { x = pos 0; y = pos 0 } in
    let fit_row = c.ranges.row in
    let below : i < length ring = search rules in
    let rest = simp to_z-of_z at c.sides.invariant.rest in
    let cuts = simp to_z-of_z at c.cut-left.ensures in
    record {
      near = All-get_or IsNear ring i origin below c.requires.near;
      rest = λ x. simp to_z-of_z (side_more ring i origin c.sides.from x c.args.row
          c.sides.left.first c.sides.left.last c.cut-left.result.first c.cut-left.result.last
          (IsOn c.args.span.first c.args.span.last x
          × PassesFrom (last_of ring) ring x c.args.row) below (cuts x) (rest x));
    }

pub returns : goal.returns
returns c =
    let ring = c.args.ring.now in
    let i = c.sides.to-index in
    let fit_row = c.ranges.row in
    let over : length ring ≤ i = search rules in
    let rest = simp to_z-of_z at c.sides.invariant.rest in
    λ x. ended ring i c.sides.from x c.args.row c.sides.left.first c.sides.left.last
    (IsOn c.args.span.first c.args.span.last x × PassesFrom (last_of ring) ring x c.args.row)
    over (rest x)
