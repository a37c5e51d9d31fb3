-- The words read are those of the row.
use Rattle.libclearmap.proofs.Names.{◌∙◌, arith}
use Rattle.libclearmap.proofs.CopyLemmas.{with_row-same}
use Rattle.libclearmap.proofs.copy.copy_row.Goals as goal

pub returns-clause-written : goal.returns-clause-written
returns-clause-written g c =
    let across = c.across-index-end.ensures.across in
    c.set_row.ensures.written ∙ with_row-same _ _ _ _
    (λ k within. c.words.invariant.read k (omega (arith, c.requires.width)))
