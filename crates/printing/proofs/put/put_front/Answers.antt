-- The first bytes are put, since the copied ones past the count lie after the place that is
-- returned.
use Rattle.std.proofs.Common.{◌≡◌, ◌+◌, length, arith, rules, refl}
use Rattle.std.proofs.lemmas.Simd.{take_more_put_chunk}
use Rattle.printing.proofs.PuttingLemmas.{Puts-first}
use Rattle.printing.proofs.put.put_front.Goals as goal

pub returns : goal.returns
returns g c =
    let all : length c.args.bytes ≡ g.row.N = search rules in
    Puts-first c.args.text.now _ c.args.bytes c.args.at c.args.count (omega arith) (omega arith)
    (take_more_put_chunk c.args.at c.args.text.now c.args.bytes
    (c.args.at + length c.args.bytes) refl (omega arith))
