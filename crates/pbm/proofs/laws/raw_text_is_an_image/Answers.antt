-- What is written is a raw image.
use Rattle.pbm.proofs.RawTexts.{raw_text-is}
use Rattle.pbm.proofs.laws.raw_text_is_an_image.Goals as goal

pub returns : goal.returns
returns c = raw_text-is
