-- A place is two coordinates, one put after the other.
use Rattle.std.proofs.Common.{◌∷◌, rules}
use Rattle.std.specs.Fmt.{signed_decimal}
use Rattle.printing.specs.Putting.{Puts}
use Rattle.printing.proofs.PuttingLemmas.{Puts-more}
use Rattle.printing.proofs.line.put_place.Goals as goal

pub returns-clause-text : goal.returns-clause-text
returns-clause-text c =
    let first : Puts c.args.text.now c.args.at (47 ∷ signed_decimal c.args.spot.now.x)
    c.put_coordinate-next.new.text c.put_coordinate-next.result = search rules in
    let second : Puts c.put_coordinate-next.new.text c.put_coordinate-next.result
    (47 ∷ signed_decimal c.args.spot.now.y) c.put_coordinate.new.text c.put_coordinate.result =
    search rules in
    Puts-more _ _ _ _ _ _ _ _ first second
