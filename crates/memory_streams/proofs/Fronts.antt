-- a prefix of some bytes is written after others.
use Rattle.std.proofs.Common.{◌≡◌, ℕ, Bool, true, false, cond, List, [], ◌++◌, Some, take, drop}
use Rattle.std.proofs.Common.{refl, sym, ap, ◌∙◌}
use Rattle.std.proofs.lemmas.List.{take-append-drop, append-nil}
use Rattle.metric.specs.Stream.{AppendsFront}

-- where a growth is tried with the first n bytes, a beginning is written whether it succeeds or not
pub AppendsFront-tried : (old bytes after : List ℕ) (n : ℕ) (ok : Bool)
    → after ≡ cond ok (old ++ take n bytes) old → AppendsFront (Some old) bytes (Some after)
AppendsFront-tried old bytes after n true e =
    record {
      front = take n bytes;
      back = drop n bytes;
      whole = sym (take-append-drop n bytes);
      appended = ap Some e;
    }
AppendsFront-tried old bytes after n false e =
    record { front = []; back = bytes; whole = refl; appended = ap Some (e ∙ sym (append-nil old)) }
