-- A line that is too long is refused and ends the stream, and a stream that stops within a line
-- ends there.
use Rattle.std.proofs.Common.{rules}
use Rattle.proto.proofs.Serving.{line_stopped, too_long}
use Rattle.proto.proofs.serve.service.Service.serve_line.Goals as goal

pub returns-in-Err-LineTooLong : goal.returns-in-Err-LineTooLong
returns-in-Err-LineTooLong g c =
    too_long g.Id.StoreName.store _ _ _ _ _ c.args.caller
    (rw c.in-Err-LineTooLong.field-0-is at c.in-Err-LineTooLong.ensures.stop)
    c.say_last-end.ensures

pub returns-in-Err : goal.returns-in-Err
returns-in-Err g c =
    line_stopped g.Id.StoreName.store c.in-Err.end _ _ _ c.args.caller
    (search rules) c.in-Err.ensures.stop
