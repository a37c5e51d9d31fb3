-- As many rows of the tile are stored as there were turns.
use Rattle.desk.proofs.Names.{◌≡◌, ◌+◌, ◌*◌, writing}
use Rattle.desk.proofs.carry.publish.write_tile.Given as goal

abbrev pub invariant-loop-row : goal.invariant-loop-row
invariant-loop-row g l = l.keeper ≡ writing l.fn.keeper l.by (64 * l.index + l.row)
