-- The bitmap's row has the version's word.
use Rattle.std.proofs.Common.{arith}
use Rattle.copies.proofs.CopyingLemmas.{word_copied}
use Rattle.copies.proofs.copy.VersionCopy.word_read.Goals as goal

pub returns-clause-word : goal.returns-clause-word
returns-clause-word g c =
    word_copied g.Id.StoreName.store c.args.seat.now c.args.version c.args.slot
    c.ready.new.self.bitmap c.ready.new.self.unread c.args.y c.args.index c.row_words.result.now
    c.ready.ensures.copying c.ready.ensures.ready c.requires.row c.requires.index
    c.row_words.ensures (omega arith)
