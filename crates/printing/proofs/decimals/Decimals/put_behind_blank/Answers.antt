-- A number of five to eight digits is put as the blank with its ten-thousands, and then its last
-- four digits.
use Rattle.std.proofs.Common.{arith}
use Rattle.printing.proofs.PuttingLemmas.{Puts-more, decimal_quads}
use Rattle.printing.proofs.decimals.Decimals.put_behind_blank.Goals as goal

pub returns-then-high-lt10000 : goal.returns-then-high-lt10000
returns-then-high-lt10000 c =
    rw (decimal_quads c.args.number (omega arith) (omega arith))
    (Puts-more _ _ _ _ _ _ _ _ c.put_spaced-next.ensures c.put_padded.ensures)
