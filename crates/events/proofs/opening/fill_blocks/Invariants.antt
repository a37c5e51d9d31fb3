-- The blocks before this one are written, and what stands before them is as it was.
use Rattle.events.proofs.Names.{◌≡◌, ℕ, ◌+◌, ◌*◌, ◌<◌, get_or, row_word}
use Rattle.events.proofs.opening.fill_blocks.Given as goal

abbrev pub invariant-loop-position : goal.invariant-loop-position
invariant-loop-position l =
    ((p i : ℕ) → p < l.position → i < 64
    → get_or l.words (l.start + (p * 64 + i)) 0 ≡ row_word l.map p i)
    × ((n : ℕ) → n < l.start → get_or l.words n 0 ≡ get_or l.fn.words n 0)
