-- A text that was written and couldn't be passed on counts as a failed write.
use Rattle.lines.specs.Replies.{reply_line}
use Rattle.line_io.proofs.Wires.{put_last}
use Rattle.line_io.proofs.saying.say_now.Goals as goal

pub returns : goal.returns
returns g c = put_last c.pass_on.result _ _ _
    (reply_line c.args.answer.now) c.in_ok-say.ensures c.pass_on.ensures
