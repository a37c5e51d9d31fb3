-- A lease may go to another thread where its allocator may, since what it owns names no thread.
use denote.RattleType.{RattleType}
use denote.Param.Send.{IsSend, Frees}
use Rattle.core.specs.declared.alloc.Allocator.{Ghosts}
use Rattle.arena.proofs.Sends.{Lease-send}
use Rattle.arena.specs.contracts.region.Lease.{the_row}

-- what a lease owns holds no thread's token, where the right to free holds none
pub send : (A : RattleType) (g : Ghosts A.Denot) → IsSend A → Frees g g.dealloc_token
    → IsSend (the_row A g)
send = Lease-send
