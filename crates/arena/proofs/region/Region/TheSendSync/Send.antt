-- A region may go to another thread, since what it owns names no thread.
use denote.Param.Send.{IsSend}
use Rattle.arena.proofs.Sends.{Region-send}
use Rattle.arena.specs.contracts.region.Region.{the_row}

-- what a region owns holds no thread's token
pub send : IsSend the_row
send = Region-send
