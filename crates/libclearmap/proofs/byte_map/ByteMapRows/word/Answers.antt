-- The bytes of the word's cells stand one after another.
use Rattle.libclearmap.proofs.Names.{◌∙◌, refl}
use Rattle.libclearmap.proofs.LayoutLemmas.{word_in_bytes}
use Rattle.libclearmap.proofs.byte_map.ByteMapRows.word.Goals as goal

pub returns-clause-word : goal.returns-clause-word
returns-clause-word c =
    c.word_of.ensures ∙ word_in_bytes c.args.self.now.map c.args.self.now.bytes.now c.args.y
    c.args.index _ _ c.args.self.now.shape c.requires.index c.requires.row
    (rw c.from.ensures refl) c.min-count.ensures
