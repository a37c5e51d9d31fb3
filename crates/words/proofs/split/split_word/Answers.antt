-- A line with a blank has the word before its first blank and then those of the rest; one without a
-- blank is a word.
use Rattle.std.proofs.Common.{sym}
use Rattle.words.proofs.Splitting.{words-blank, words-one}
use Rattle.words.proofs.split.split_word.Goals as goal

pub returns-in-Some-clause-words : goal.returns-in-Some-clause-words
returns-in-Some-clause-words c = words-blank c.args.bytes.now c.in-Some.end (sym c.in-Some.ensures)

pub returns-in-None-clause-words : goal.returns-in-None-clause-words
returns-in-None-clause-words c = words-one c.args.bytes.now (sym c.in-None.ensures)
