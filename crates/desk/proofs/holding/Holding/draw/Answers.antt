-- A paint or a stamp is done.
use Rattle.desk.proofs.HoldDraw.{draw_done}
use Rattle.desk.proofs.holding.Holding.draw.Goals as goal

pub returns : goal.returns
returns c = λ command judged.
    draw_done c.args.self.now _ command _ _ judged.kind.0 judged.by judged.kind.1.accepted
    (c.draw-changed.ensures.done command judged.kind.1) c.draw-changed.ensures.home
    c.enter_draw.ensures.entered c.enter_draw.ensures.reply
