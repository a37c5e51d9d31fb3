-- Below the last row there is no obstacle.
use Rattle.libclearmap.proofs.Names.{arith}
use Rattle.libclearmap.proofs.TileLemmas.{obstacle_found}
use Rattle.libclearmap.proofs.tiled_map.TiledMapRows.tiles.Goals as goal

pub returns-else-band-div_ceil : goal.returns-else-band-div_ceil
returns-else-band-div_ceil c x y obstacle here =
    let shape = c.args.self.now.plain.shape in
    let found = obstacle_found _ _ x y shape.width_is shape.height_is obstacle in
    absurd (omega (arith, c.height.ensures.height, c.div_ceil.ensures))
