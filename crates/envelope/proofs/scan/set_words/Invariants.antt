-- The columns so far have their words.
use Rattle.std.proofs.Common.{◌≡◌, ℕ, ◌<◌, slice_index}
use Rattle.envelope.specs.Scans.{left_word, right_word}
use Rattle.envelope.proofs.scan.set_words.Given as goal

abbrev pub invariant-columns : goal.invariant-columns
invariant-columns l = record {
  left : (column : ℕ) → column < l.column
      → slice_index l.left column ≡ left_word l.entries l.y column;
  right : (column : ℕ) → column < l.column
      → slice_index l.right column ≡ right_word l.entries l.y column;
}
