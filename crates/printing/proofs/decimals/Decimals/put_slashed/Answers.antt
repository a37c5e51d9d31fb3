-- The blank that is put in front of the number is written over by the slash.
use Rattle.std.proofs.Common.{arith, refl}
use Rattle.printing.proofs.PuttingLemmas.{Puts-over}
use Rattle.printing.proofs.decimals.Decimals.put_slashed.Goals as goal

pub returns : goal.returns
returns c =
    Puts-over c.args.text.now c.put_spaced-end.new.text _ c.args.at c.put_spaced-end.result 32 47 _
    (omega (arith, c.requires.room)) c.put_spaced-end.ensures refl
