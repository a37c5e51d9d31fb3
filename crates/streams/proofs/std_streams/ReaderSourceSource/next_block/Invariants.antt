-- The reads so far were interrupted, which doesn't count as a failed read.
use Rattle.std.proofs.Common.{◌≡◌}
use Rattle.streams.proofs.std_streams.ReaderSourceSource.next_block.Given as goal

-- no read has failed
abbrev pub invariant-reads : goal.invariant-reads
invariant-reads g l = l.self-inside.failed ≡ l.initial.self-inside.failed
