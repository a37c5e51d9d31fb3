-- No row before this one differs.
use Rattle.events.proofs.Names.{◌≡◌, ℕ, ◌<◌, row_word}
use Rattle.events.proofs.tiles.tile_differs.Given as goal

abbrev pub invariant-loop-row : goal.invariant-loop-row
invariant-loop-row l = (i : ℕ) → i < l.row
    → row_word l.old l.position i ≡ row_word l.new l.position i
