-- The bounds so far.
use Rattle.footprint.specs.Sides.{IsRange}
use Rattle.footprint.proofs.bounds.bounds_of.Given as goal

abbrev pub invariant-corners : goal.invariant-corners
invariant-corners l = record {
  columns : IsRange (λ c. c.x) l.ring l.corner-index l.bounds.left l.bounds.right;
  rows : IsRange (λ c. c.y) l.ring l.corner-index l.bounds.top l.bounds.bottom;
}
