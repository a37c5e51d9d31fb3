-- A word with one bit cleared, from std's lemmas on `n & !(1 << k)`.
use Rattle.libclearmap.proofs.Names.{arith, w64, cases_eq, bit_at_clear_same, bit_at_clear_other}
use Rattle.libclearmap.proofs.marks.without.Goals as goal

pub returns-else-word-eq0-clause-marked : goal.returns-else-word-eq0-clause-marked
returns-else-word-eq0-clause-marked c i one =
    bit_at_clear_same w64 c.args.bits c.args.index (omega arith)

pub returns-else-word-eq0-clause-fewer : goal.returns-else-word-eq0-clause-fewer
returns-else-word-eq0-clause-fewer c band few zero =
    let same = bit_at_clear_same w64 c.args.bits c.args.index (omega arith) in
    let other = bit_at_clear_other w64 c.args.bits c.args.index (omega arith) band few in
    grind (arith, cases_eq band c.args.index)

pub returns-else-word-eq0-clause-others : goal.returns-else-word-eq0-clause-others
returns-else-word-eq0-clause-others c =
    bit_at_clear_other w64 c.args.bits c.args.index (omega arith)
