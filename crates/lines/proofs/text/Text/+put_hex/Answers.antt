-- The digits of a word are those of its sixteenth part and then its last one, and there are none
-- where none is asked for.
use Rattle.std.proofs.Common.{◌∷◌, ◌++◌, [], arith, ap, ◌∙◌}
use Rattle.lines.proofs.Writing.{hex_digits-none, hex_digits-more}
use Rattle.lines.proofs.text.Text.+put_hex.Goals as goal

pub returns-then-count-eq0-clause-text : goal.returns-then-count-eq0-clause-text
returns-then-count-eq0-clause-text t c =
    rw c.if-count-eq0.true (hex_digits-none c.args.self.now c.args.word)

pub returns-clause-text : goal.returns-clause-text
returns-clause-text t c =
    hex_digits-more _ _ _ c.args.count c.args.word (omega arith) c.put_hex.ensures.text
    (c.put.ensures ∙ ap (λ d. c.put_hex.new.self ++ d ∷ []) c.hex_digit.ensures)
