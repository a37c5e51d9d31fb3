-- A tile's obstacles are in the rows of its band up to the map's last.
use Rattle.std.proofs.Common.{arith}
use Rattle.clearance.proofs.SeekerSteps.{IsInTileRows-tile}
use Rattle.clearance.proofs.part.Part.of.Goals as goal

pub returns-clause-all : goal.returns-clause-all
returns-clause-all g c = λ a b here.
    IsInTileRows-tile (g.R.Rows.cells c.args.rows.now) c.args.band c.args.tile c.min.result a b
    c.height.ensures.bitmap (omega arith) here
