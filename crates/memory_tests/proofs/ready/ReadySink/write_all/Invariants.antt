-- No write has failed yet.
use Rattle.std.proofs.Common.{◌≡◌}
use Rattle.memory_tests.proofs.ready.ReadySink.write_all.Given as goal

abbrev pub invariant-loop-byte : goal.invariant-loop-byte
invariant-loop-byte l = l.self.failed ≡ l.fn.self.failed
