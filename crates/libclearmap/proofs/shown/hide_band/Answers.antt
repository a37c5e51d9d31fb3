-- The band's words are 0, or all its tiles have marks.
use Rattle.libclearmap.proofs.Names.{◌≡◌, ◌+◌, ◌/◌, arith, inl, nat_tests, words_across}
use Rattle.libclearmap.proofs.PaintLemmas.{marks_set, part_other}
use Rattle.libclearmap.proofs.shown.hide_band.Goals as goal

pub returns-then-map-eq0-clause-others : goal.returns-then-map-eq0-clause-others
returns-then-map-eq0-clause-others c x y column row other =
    let map = c.args.map.now in
    let across : c.div_ceil-across.result ≡ words_across map.width =
    omega (arith, c.div_ceil-across.ensures) in
    let same = part_other map c.args.words.now c.blank_part.new.words c.args.band 0
    c.div_ceil-across.result c.requires.right (omega (arith, across)) c.blank_part.ensures.others
    y (x / 64) row (omega (arith, column)) (inl other) in
    grind (arith, nat_tests)

pub returns-else-map-eq0-clause-none : goal.returns-else-map-eq0-clause-none
returns-else-map-eq0-clause-none c x y column row here =
    let is = marks_set c.args.map.now c.args.words.now c.args.band
    (c.args.map.now.tiles + c.from.result) c.requires.right c.if-map-eq0.false
    (omega (arith, c.from.ensures)) x y column row in
    grind (arith, nat_tests, is)

pub returns-else-map-eq0-clause-others : goal.returns-else-map-eq0-clause-others
returns-else-map-eq0-clause-others c x y column row other =
    let is = marks_set c.args.map.now c.args.words.now c.args.band
    (c.args.map.now.tiles + c.from.result) c.requires.right c.if-map-eq0.false
    (omega (arith, c.from.ensures)) x y column row in
    grind (arith, nat_tests, is)
