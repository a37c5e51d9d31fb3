-- The positions before this one have their blocks, and what stands before the directory is as it
-- was.
use Rattle.std.proofs.Common.{◌≡◌, ℕ, ◌+◌, ◌<◌, get_or}
use Rattle.events.proofs.opening.fill_directory.Given as goal

abbrev pub invariant-loop-position : goal.invariant-loop-position
invariant-loop-position l =
    ((p : ℕ) → p < l.position → get_or l.words (l.start + p) 0 ≡ p)
    × ((n : ℕ) → n < l.start → get_or l.words n 0 ≡ get_or l.fn.words n 0)
