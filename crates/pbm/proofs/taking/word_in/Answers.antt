-- The bits of pixels stand with any bytes after them.
use Rattle.pbm.proofs.Prefixes.{Stands-bits, bits-within}
use Rattle.pbm.proofs.taking.word_in.Goals as goal

pub overflow_sub-result : goal.overflow_sub-result
overflow_sub-result c =
    bits-within c.args.count c.args.bytes.now _ _ c.in_ok-word.ensures

pub returns-clause-found : goal.returns-clause-found
returns-clause-found c =
    Stands-bits c.args.count c.args.bytes.now _ _ c.in_ok-word.ensures
