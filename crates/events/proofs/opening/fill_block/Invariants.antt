-- The rows before this one are written, and what stands before the block is as it was.
use Rattle.events.proofs.Names.{◌≡◌, ℕ, ◌+◌, ◌<◌, get_or, row_word}
use Rattle.events.proofs.opening.fill_block.Given as goal

abbrev pub invariant-loop-row : goal.invariant-loop-row
invariant-loop-row l =
    ((i : ℕ) → i < l.row → get_or l.words (l.start + i) 0 ≡ row_word l.map l.position i)
    × ((n : ℕ) → n < l.start → get_or l.words n 0 ≡ get_or l.fn.words n 0)
