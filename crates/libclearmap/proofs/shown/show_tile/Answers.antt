-- The tile's words are 0, so that its mark may go.
use Rattle.libclearmap.proofs.Names.{◌+◌, refl, arith}
use Rattle.libclearmap.proofs.PaintLemmas.{tile_others, tile_shown}
use Rattle.libclearmap.proofs.shown.show_tile.Goals as goal

pub returns-then-has_bit-clause-same : goal.returns-then-has_bit-clause-same
returns-then-has_bit-clause-same c =
    let none = rw c.from-index.ensures at c.blank_part.ensures.none in
    let others = rw c.from-index.ensures at c.blank_part.ensures.others in
    tile_shown c.args.map.now c.args.words.now c.blank_part.new.words c.args.band c.args.tile
    (c.args.map.now.tiles + c.from.result) c.without_bit.result c.requires.right c.requires.marks
    (omega (arith, c.from.ensures)) c.requires.band c.requires.tile c.blank_part.ensures.len
    (c.if-has_bit.ensures.0 refl) none others c.without_bit.ensures.kept

pub returns-then-has_bit-clause-others : goal.returns-then-has_bit-clause-others
returns-then-has_bit-clause-others c =
    let none = rw c.from-index.ensures at c.blank_part.ensures.none in
    let others = rw c.from-index.ensures at c.blank_part.ensures.others in
    tile_others c.args.map.now c.args.words.now c.blank_part.new.words c.args.band c.args.tile
    (c.args.map.now.tiles + c.from.result) c.without_bit.result c.requires.right c.requires.marks
    (omega (arith, c.from.ensures)) c.requires.band c.requires.tile c.blank_part.ensures.len
    (c.if-has_bit.ensures.0 refl) none others c.without_bit.ensures.kept
