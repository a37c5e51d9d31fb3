-- Commands that stand alone in their line.
use Rattle.std.proofs.Common.{◌≡◌, ℕ, true, List, Option, Some, None, refl}
use Rattle.std.specs.Prelude.{is_some}
use Rattle.std.specs.Borrow.{Bor}
use Rattle.lines.specs.Told.{alone}
use Rattle.words.specs.Words.{words_left}
use Rattle.words.proofs.Splitting.{words-some}

-- where something is left of a line, nothing stands alone in it
pub alone-left : {A : Type 0} (value : A) (rest : Option (Bor (List ℕ))) → is_some rest ≡ true
    → None ≡ alone value (words_left rest)
alone-left value None left = absurd (cc)
alone-left value (Some bytes) left = let word = words-some bytes.now in rw word.2 refl
