-- The words of a line, joined by blanks, are the line, and none of them has a blank: both are
-- lemmas on words.
use Rattle.words.proofs.Splitting.{joined-words, plain-words}
use Rattle.words.proofs.laws.words_of_line.Goals as goal

pub returns-clause-joined : goal.returns-clause-joined
returns-clause-joined c = joined-words

pub returns-clause-plain : goal.returns-clause-plain
returns-clause-plain c = plain-words
