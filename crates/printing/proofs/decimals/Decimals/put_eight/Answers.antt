-- A number of five to eight digits is put as its ten-thousands, and then its last four digits.
use Rattle.std.proofs.Common.{arith}
use Rattle.printing.proofs.PuttingLemmas.{Puts-more, decimal_quads}
use Rattle.printing.proofs.decimals.Decimals.put_eight.Goals as goal

pub returns : goal.returns
returns c = rw (decimal_quads c.args.number (omega arith) (omega arith))
    (Puts-more _ _ _ _ _ _ _ _ c.put_short-next.ensures c.put_padded.ensures)
