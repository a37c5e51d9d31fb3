-- The words are the map, and so they are where blank bands don't count.
use Rattle.libclearmap.proofs.Names.{◌≡◌, arith, words_across, cells_of_bytes}
use Rattle.libclearmap.proofs.CopyLemmas.{packed_bits}
use Rattle.libclearmap.proofs.pack.clearmap_pack.Goals as goal

pub returns-clause-packed : goal.returns-clause-packed
returns-clause-packed c = λ _.
    let map = c.args.map.now in
    let stride : c.div_ceil-stride.result
    ≡ words_across map.width = omega (arith, c.div_ceil-stride.ensures) in
    let rows = c.pack_rows-blank_bands in
    let stored = rw (c.in-Ok.ensures.map, c.in-Ok.ensures.bytes) at rows.ensures.packed in
    let marked = rw (c.in-Ok.ensures.map, c.in-Ok.ensures.bytes) at rows.ensures.marked in
    rw stride (packed_bits (cells_of_bytes map c.args.bytes.now) rows.result rows.new.words marked
    stored)
