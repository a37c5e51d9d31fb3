-- A fresh desk is dropped: all blocks come back.
use Rattle.desk.proofs.HoldOpen.{all_back}
use Rattle.desk.proofs.desk.fresh.FreshDesk.discard.Goals as goal

pub end-requires-clause-all : goal.end-requires-clause-all
end-requires-clause-all c = all_back _ _ _ c.self.invariant.0
