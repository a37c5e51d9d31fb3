-- Words without a blank, joined by blanks, are the words of the line that they make: it is a lemma
-- on words.
use Rattle.words.proofs.Splitting.{words-joined}
use Rattle.words.proofs.laws.line_of_words.Goals as goal

pub returns : goal.returns
returns c = words-joined
