-- The two directions between the fault table and the grammar.
use Rattle.pbm.proofs.Images.{image-reads, reads-image}
use Rattle.pbm.proofs.laws.reads_what_is_found.Goals as goal

pub returns-clause-found : goal.returns-clause-found
returns-clause-found c = image-reads

pub returns-clause-read : goal.returns-clause-read
returns-clause-read c = reads-image
