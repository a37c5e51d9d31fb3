-- What was stamped is returned.
use Rattle.session.proofs.pinned.Pinned.stamp.Goals as goal

pub returns-clause-back : goal.returns-clause-back
returns-clause-back g c =
    c.stamp_answered.ensures.back c.args.x c.args.y c.args.bitmap c.apply.ensures.back
