-- Corner by corner.
use Rattle.std.proofs.Common.{◌<◌, length, pos, rules, arith}
use Rattle.footprint.specs.declared.corner.Corner.{Corner}
use Rattle.footprint.proofs.Convexes.{number_of, turns_down_more}
use Rattle.footprint.proofs.polygon.turns_down.Goals as goal

pub corners-preserved : goal.corners-preserved
corners-preserved c =
    let ring = c.args.ring.now in
    let i = c.corners.to-index in
    let origin : Corner = record { x = pos 0; y = pos 0 } in
    let within : i < length ring = search rules in
    let few = c.corners.invariant.few in
    let more = number_of c.is_turn_down.result _ c.from-count.result c.from-count.ensures
    c.is_turn_down.ensures in
    record {
      few = omega (arith, few, more.1);
      rest = turns_down_more ring i origin c.corners.from c.corners.at c.corners.count
          c.from-count.result _ within more.0 c.corners.invariant.rest;
    }
