-- QUIT ends the stream, DUMP is answered by the caller's dump, and any other line but a stamp is
-- answered by a reply line.
use Rattle.std.proofs.Common.{rules, refl}
use Rattle.proto.proofs.Dumping.{dumped}
use Rattle.proto.proofs.Serving.{answered_alone, quits}
use Rattle.proto.proofs.serve.service.Service.serve.Goals as goal

pub returns-in-Ok-Quit : goal.returns-in-Ok-Quit
returns-in-Ok-Quit g c before heard =
    let said = rw c.in-Ok-Quit.field-0-is at c.in-Ok-Quit.is in
    quits g.Id.StoreName.store _ before _ _ c.args.caller c.new-caller.result (search rules)
    (rw said at heard) c.say_last-end.ensures

pub returns-in-Ok-Dump : goal.returns-in-Ok-Dump
returns-in-Ok-Dump g c before heard =
    let said = rw c.in-Ok-Dump.field-0-is at c.in-Ok-Dump.is in
    rw c.dump.ensures.caller
    (dumped g.Id.StoreName.store c.dump.result _ before _ _ c.args.caller.seat c.args.caller.pin
    (rw said at heard) c.end_of-end.ensures c.dump.ensures.said)

pub returns-in-Ok-Command : goal.returns-in-Ok-Command
returns-in-Ok-Command g c before heard =
    let said = rw c.in-Ok-Command.field-0-is at c.in-Ok-Command.is in
    rw c.reply.ensures.caller
    (answered_alone g.Id.StoreName.store _ before _ _ _ _ c.args.caller _ (rw said at heard) tt refl
    (c.in-Ok-Command.command, refl, c.command-answer.ensures) c.reply.ensures.said)

pub returns-in-Ok-Query : goal.returns-in-Ok-Query
returns-in-Ok-Query g c before heard =
    let said = rw c.in-Ok-Query.field-0-is at c.in-Ok-Query.is in
    rw (c.reply-in-Ok-Query.ensures.caller, c.query-answer.ensures.caller)
    (answered_alone g.Id.StoreName.store _ before _ _ _ _ c.args.caller _
    (rw said at heard) tt refl c.query-answer.ensures.answer c.reply-in-Ok-Query.ensures.said)

pub returns-in-Ok-Pin : goal.returns-in-Ok-Pin
returns-in-Ok-Pin g c before heard =
    let said = rw c.in-Ok-Pin.field-0-is at c.in-Ok-Pin.is in
    rw c.reply-in-Ok-Pin.ensures.caller
    (answered_alone g.Id.StoreName.store _ before _ _ _ _ c.args.caller _
    (rw said at heard) tt refl c.pin-caller.ensures c.reply-in-Ok-Pin.ensures.said)

pub returns-in-Ok-Unpin : goal.returns-in-Ok-Unpin
returns-in-Ok-Unpin g c before heard =
    let said = rw c.in-Ok-Unpin.field-0-is at c.in-Ok-Unpin.is in
    rw c.reply-in-Ok-Unpin.ensures.caller
    (answered_alone g.Id.StoreName.store _ before _ _ _ _ c.args.caller _
    (rw said at heard) tt refl c.unpin-caller.ensures c.reply-in-Ok-Unpin.ensures.said)

pub returns-in-Err : goal.returns-in-Err
returns-in-Err g c before heard =
    rw c.reply-in-Err.ensures.caller
    (answered_alone g.Id.StoreName.store _ before _ _ _ _ c.args.caller _
    (rw c.in-Err.is at heard) tt refl record { answer_is = c.refuse-answer.ensures; same = refl }
    c.reply-in-Err.ensures.said)
