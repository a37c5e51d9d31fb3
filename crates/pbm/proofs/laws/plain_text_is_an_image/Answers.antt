-- What is written is a plain image, and LF.
use Rattle.pbm.proofs.PlainTexts.{plain_text-is}
use Rattle.pbm.proofs.laws.plain_text_is_an_image.Goals as goal

pub returns : goal.returns
returns c = plain_text-is
