-- A text that was written, whole or in part, and the bytes that a source tells.
use Rattle.std.proofs.Common.{refl, ◌≡◌, ℕ, List, [], Option, Result, Ok, Err, OnOk, OnErr, arith}
use Rattle.std.proofs.Common.{Some, None}
use Rattle.metric.specs.Stream.{Appends, AppendsFront, Counts, AreAll}
use Rattle.metric.proofs.Appending.{AppendsFront-whole}

-- a source tells these bytes, and none where it tells nothing
pub told : Option (List ℕ) → List ℕ
told None = []
told (Some bytes) = bytes

-- the bytes that a source tells, none where it tells nothing, are all that it has left
pub AreAll-told : (rest : Option (List ℕ)) → AreAll rest (told rest)
unfolding told
AreAll-told None = tt
AreAll-told (Some bytes) = refl

-- a text was written whole where no write failed
pub written_whole : {T E : Type 0} (failed_before failed_after : ℕ) (before after : Option (List ℕ))
    (text : List ℕ) (result : Result T E) → Counts failed_before result failed_after
    → OnOk result (Appends before text after)
    → failed_after ≡ failed_before → Appends before text after
written_whole failed_before failed_after before after text (Ok value) counts whole same = whole
written_whole failed_before failed_after before after text (Err fault) counts whole same =
    absurd (omega (arith, counts, same))

-- a text that was written whole or in part was written in part
pub written_either : {T E : Type 0} (before after : Option (List ℕ)) (text : List ℕ)
    (result : Result T E) → OnOk result (Appends before text after)
    → OnErr result (AppendsFront before text after) → AppendsFront before text after
written_either before after text (Ok value) whole front = AppendsFront-whole before after text whole
written_either before after text (Err fault) whole front = front
