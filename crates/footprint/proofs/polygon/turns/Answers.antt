-- Corner by corner.
use Rattle.std.proofs.Common.{◌<◌, length, pos, rules, sym}
use Rattle.std.proofs.lemmas.List.Elements.{All-get_or}
use Rattle.footprint.specs.declared.corner.Corner.{Corner}
use Rattle.footprint.specs.Polygon.{IsNear}
use Rattle.footprint.proofs.Convexes.{turns_more}
use Rattle.footprint.proofs.polygon.turns.Goals as goal

pub corners-preserved : goal.corners-preserved
corners-preserved c =
    let ring = c.args.ring.now in
    let i = c.corners.to-index in
    let origin : Corner = record { x = pos 0; y = pos 0 } in
    let within : i < length ring = search rules in
    record {
      near = c.corners.invariant.next;
      next = All-get_or IsNear ring i origin within c.requires.near;
      rest = turns_more ring i origin c.corners.from c.corners.at _ within
          (sym c.if-not-is_turn.ensures) c.corners.invariant.rest;
    }
