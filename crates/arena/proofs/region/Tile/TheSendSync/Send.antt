-- A tile may go to another thread, since what it owns names no thread.
use denote.Param.Send.{IsSend}
use Rattle.arena.proofs.Sends.{Tile-send}
use Rattle.arena.specs.contracts.region.Tile.{the_row}

-- what a tile owns holds no thread's token
pub send : IsSend the_row
send = Tile-send
