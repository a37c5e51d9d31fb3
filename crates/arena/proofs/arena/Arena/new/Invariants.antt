-- The blocks that were filled make a free list so far, and the others are still to be filled.
use Rattle.std.proofs.Common.{◌≡◌, ◌≤◌}
use Rattle.arena.specs.Chain.{Filled}
use Rattle.arena.proofs.arena.Arena.new.Given as goal

-- the blocks below hold the number of the next, and the others nothing yet
abbrev pub invariant-filling : goal.invariant-filling
invariant-filling l = (l.done ≤ l.count) × Filled l.region.blocks l.done l.count
    × (l.region.home ≡ l.lease.home) × (l.region.home.count ≡ l.count) × (l.lease ≡ l.initial.lease)
    × (l.count ≡ l.initial.count)
