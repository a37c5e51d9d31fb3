-- Where fewer bytes than a row takes are there, the source has ended.
use Rattle.std.proofs.Common.{◌<◌, length, subst, ℕ, List}
use Rattle.pbm.proofs.Following.{Meets-read}
use Rattle.pbm.proofs.RowReads.{row-cut}
use Rattle.pbm.proofs.window.Window.next_row.Goals as goal

pub returns-then-unread-across-clause-fault : goal.returns-then-unread-across-clause-fault
returns-then-unread-across-clause-fault g c =
    Meets-read c.in_ok-hold.ensures.reads
    (row-cut _ _ c.args.across c.hold.new.self.ended c.hold.ensures.«open».ended
    c.in_ok-hold.ensures.more
    (subst (λ (l : List ℕ). length l < c.args.across) c.unread.ensures c.if-unread-across.true))
