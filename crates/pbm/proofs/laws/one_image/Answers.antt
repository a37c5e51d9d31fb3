-- Two images at the front of the same bytes are both what the fault table finds.
use Rattle.pbm.proofs.Images.{one_image-reads}
use Rattle.pbm.proofs.laws.one_image.Goals as goal

pub returns : goal.returns
returns c = one_image-reads
