-- A number of five digits or more is put as its ten-thousands, eight digits at most, and then its
-- last four digits.
use Rattle.std.proofs.Common.{arith, ◌/◌}
use Rattle.printing.proofs.PuttingLemmas.{Puts-more, decimal_quads, length-decimal_8}
use Rattle.printing.proofs.decimals.Decimals.put.Goals as goal

pub put_padded-requires-clause-room : goal.put_padded-requires-clause-room
put_padded-requires-clause-room c =
    let few = length-decimal_8 (c.args.number / 10000) (omega arith) in omega arith

pub returns : goal.returns
returns c = rw (decimal_quads c.args.number (omega arith) (omega arith))
    (Puts-more _ _ _ _ _ _ _ _ c.put_eight-next.ensures c.put_padded.ensures)
