-- What is left of the ring decides the rest.
use Rattle.std.proofs.Common.{◌↔◌, ℤ, drop}
use Rattle.footprint.specs.Polygon.{IsNear, PassesFrom, last_of}
use Rattle.footprint.specs.Sides.{IsOn}
use Rattle.footprint.proofs.ring.columns_left.Given as goal

abbrev pub invariant-sides : goal.invariant-sides
invariant-sides l = record {
  near : IsNear l.from;
  rest : (x : ℤ) → (IsOn l.left.first l.left.last x
      × PassesFrom l.from (drop l.to-index l.ring) x l.row)
      ↔ (IsOn l.fn.span.first l.fn.span.last x × PassesFrom (last_of l.ring) l.ring x l.row);
}
