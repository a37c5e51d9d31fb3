-- The rows come first, then the directory.
use Rattle.map_core.proofs.Names.{arith, ap, ◌∙◌, length, own_list}
use Rattle.map_core.proofs.OrderWorld.{own_few, publish_rest}
use Rattle.map_core.proofs.KeepWorld.{consistent_of}
use Rattle.map_core.proofs.world.World.next_word.Goals as goal

pub overflow_mul-rows : goal.overflow_mul-rows
overflow_mul-rows c =
    omega (
      arith,
      own_few c.self.invariant,
      c.count_own-rows.ensures,
      ap (λ own. length (own_list own)) c.as_slice.ensures.value,
    )

pub overflow_cast-number : goal.overflow_cast-number
overflow_cast-number c =
    let now = consistent_of c.self.view_is c.self.invariant in
    let rest = publish_rest now c.count_own-rows.result c.args.number
    (c.count_own-rows.ensures ∙ ap (λ own. length (own_list own)) c.as_slice.ensures.value)
    c.requires.below c.if-number-rows.false in
    omega (arith, rest, now.whole.ready.blocks, now.whole.ready.few_blocks)

pub map_word-requires-clause-inside : goal.map_word-requires-clause-inside
map_word-requires-clause-inside c =
    let now = consistent_of c.self.view_is c.self.invariant in
    publish_rest now c.count_own-rows.result c.args.number
    (c.count_own-rows.ensures ∙ ap (λ own. length (own_list own)) c.as_slice.ensures.value)
    c.requires.below c.if-number-rows.false

pub map_word-requires-clause-accepted : goal.map_word-requires-clause-accepted
map_word-requires-clause-accepted c = c.requires.accepted
