-- Each lane is the digit of its bit.
use Rattle.pbm.proofs.Eights.{lane_digits-are}
use Rattle.pbm.proofs.digit_row.digits_of.Goals as goal

pub returns : goal.returns
returns c = lane_digits-are c.args.eight
