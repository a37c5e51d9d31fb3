-- A stamp ends the stream if it counts too many bytes or is cut short in them, and is answered
-- otherwise.
use Rattle.std.proofs.Common.{rules}
use Rattle.proto.proofs.Serving.{counted_cut, replied, too_much}
use Rattle.proto.proofs.serve.service.Service.serve_stamp.Goals as goal

pub returns-then-length-gt-MOST_COUNTED : goal.returns-then-length-gt-MOST_COUNTED
returns-then-length-gt-MOST_COUNTED g c before heard =
    too_much g.Id.StoreName.store _ before _ _ _ c.args.caller heard
    (search rules) c.say_last-end.ensures

pub returns-in-Ok : goal.returns-in-Ok
returns-in-Ok g c before heard =
    let counted = c.in-Ok.ensures.counted in
    rw c.reply.ensures.caller
    (replied g.Id.StoreName.store _ before _ _ _ _ counted.bytes _ c.args.caller _
    heard tt counted.as_many (search rules) counted.read
    (c.stamp-caller.ensures counted.bytes counted.kept_are) c.reply.ensures.said)

pub returns-in-Err : goal.returns-in-Err
returns-in-Err g c before heard =
    counted_cut g.Id.StoreName.store c.in-Err.end before _ _ _ c.args.caller heard
    (search rules) c.in-Err.ensures.cut
