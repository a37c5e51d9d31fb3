-- Where there is no memory for a byte, that byte alone was taken of the reader.
use Rattle.std.proofs.lemmas.Result.{err_from_is_err_and}
use Rattle.streams.proofs.CutLines.{TakesFew-byte}
use Rattle.streams.proofs.Gathering.{Takes-byte}
use Rattle.streams.proofs.gather.read_byte.Goals as goal

pub returns-in_err-map_err-in-Ok-Some-clause-part : goal.returns-in_err-map_err-in-Ok-Some-clause-part
returns-in_err-map_err-in-Ok-Some-clause-part g c =
    let p = err_from_is_err_and c.from_residual.result c.from_residual.ensures.1 in
    rw p.1 (TakesFew-byte _ _ c.in-Ok-Some.byte
    (Takes-byte _ _ _ (rw c.in-Ok-Some.field-0-is at c.in-Ok-Some.ensures.byte)))
