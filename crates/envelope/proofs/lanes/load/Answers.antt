-- The numbers of the list.
use Rattle.std.proofs.lemmas.Simd.{get_or-chunk}
use Rattle.envelope.proofs.lanes.load.Goals as goal

pub returns : goal.returns
returns c i within = get_or-chunk c.args.at 8 c.args.numbers.now i 0 within
