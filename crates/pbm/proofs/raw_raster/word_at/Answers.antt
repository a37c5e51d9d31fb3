-- The first of the bytes is the lowest of the word.
use Rattle.std.proofs.Common.{arith}
use Rattle.pbm.proofs.Words.{bit_at-word}
use Rattle.pbm.proofs.raw_raster.word_at.Goals as goal

pub returns : goal.returns
returns c i within =
    bit_at-word c.args.bytes.now c.args.start c.from_le_bytes.result
    (λ k. omega (arith, c.type_inv.bytes k)) (omega arith) i within
