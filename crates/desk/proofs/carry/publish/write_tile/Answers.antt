-- A tile that the draft has of its own is the next one, and each of its rows the next word.
use Rattle.desk.proofs.Names.{Some, ap, refl, sym, ◌∙◌, get_or, arith, next_row}
use Rattle.bits.proofs.TileDrawLemmas.{tile_words-row}
use Rattle.desk.proofs.PublishSteps.{next_tile, one_more}
use Rattle.desk.proofs.carry.publish.write_tile.Goals as goal

pub write_word-requires : goal.write_word-requires
write_word-requires g c =
    let row = c.loop-row.row in
    let own = next_tile _ c.args.keeper.now _ c.args.by c.args.index c.args.position _ _ _
    c.requires.told c.requires.in_hand c.requires.index
    (c.in-Some.ensures.0 ∙ ap (λ n. Some n) (sym c.number-block.ensures))
    (c.words-rows.ensures ∙ c.in-Some.ensures.1) in
    next_row g.Id.StoreName.store.base c.args.keeper.now c.loop-row.keeper c.args.by c.args.index
    c.number-block.result own.0 row _ _ _ c.loop-row.invariant refl own.1 (omega arith)
    (c.tile_at.ensures _ c.requires.plan)
    (ap (λ ws. get_or ws row 0) own.2 ∙ tile_words-row _ own.0 row (omega arith))

pub returns-after-loop-row-clause-count : goal.returns-after-loop-row-clause-count
returns-after-loop-row-clause-count g c =
    one_more _ c.args.keeper.now _ c.args.index c.args.position 1 _ c.requires.told
    c.requires.inside c.requires.index c.in-Some.ensures.0 refl

pub returns-in-None-clause-count : goal.returns-in-None-clause-count
returns-in-None-clause-count g c =
    one_more _ c.args.keeper.now _ c.args.index c.args.position 0 _ c.requires.told
    c.requires.inside c.requires.index c.in-None.ensures refl
