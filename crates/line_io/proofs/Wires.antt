-- Bytes that are read from a wire one after another, and texts that are written.
use Rattle.std.proofs.Common.{ℕ, List, [], ◌++◌, Result, Ok, Err, refl, ap, ◌∙◌, arith}
use Rattle.std.proofs.Common.{append_assoc, rules}
use Rattle.std.proofs.lemmas.List.{append-nil}
use Rattle.metric.proofs.Appending.{Appends-more, AppendsFront-more}
use Rattle.metric.proofs.Taking.{Takes-behind, Takes-nothing}
use Rattle.metric.specs.declared.stream.WriteFault.{WriteFault}
use Rattle.metric.specs.Wire.{Wire}
use Rattle.line_io.specs.Wire.{HasNotWritten, HasPut, HasRead, HasWritten}

-- where nothing was done, no byte was read
pub nothing_read : (w : Wire) → HasRead 0 w [] w
nothing_read w =
    record { taken = Takes-nothing w.rest; held = refl; reads = omega arith; writes = refl }

-- bytes that were read, and more after them, were read together, and as many reads failed as for
-- the last
pub read_on : (faults : ℕ) (old between new : Wire) (a b : List ℕ) → HasRead 0 old a between
    → HasRead faults between b new → HasRead faults old (a ++ b) new
read_on faults old between new a b first next =
    let taken = Takes-behind old.rest between.rest new.rest a b first.taken next.taken in
    search (rules, arith)

-- a text that was written, and one more after it, were written together
pub written_on : (old between new : Wire) (a b : List ℕ) → HasWritten old a between
    → HasWritten between b new → HasWritten old (a ++ b) new
written_on old between new a b first next =
    let appended = Appends-more _ _ _ a b first.appended next.appended in search (rules, arith)

-- a text that was written, and a next one whose write failed, are a text whose write failed
pub failed_on : (old between new : Wire) (a b : List ℕ) → HasWritten old a between
    → HasNotWritten between b new → HasNotWritten old (a ++ b) new
failed_on old between new a b first next =
    let front = AppendsFront-more _ _ _ a b [] first.appended next.front in
    let all = rw (append-nil b) at front in
    search (rules, arith)

-- where the write of a text failed, that of a longer text which starts with it failed too
pub failed_first : (old new : Wire) (a b : List ℕ) → HasNotWritten old a new
    → HasNotWritten old (a ++ b) new
failed_first old new a b next =
    let f = next.front in
    record {
      rest = next.rest;
      front = record {
        front = f.front;
        back = f.back ++ b;
        whole = ap (λ t. t ++ b) f.whole ∙ append_assoc f.front f.back b;
        appended = f.appended;
      };
      reads = next.reads;
      writes = next.writes;
    }

-- a text that was written, and one after it that was written or failed, are one text
pub put_on : (put : Result (Unit {0}) WriteFault) (old between new : Wire) (a b : List ℕ)
    → HasWritten old a between → HasPut put between b new → HasPut put old (a ++ b) new
put_on (Ok done) old between new a b first next = written_on old between new a b first next
put_on (Err fault) old between new a b first next = failed_on old between new a b first next

-- a text that was written, after which nothing is put, is put alone
pub put_last : (put : Result (Unit {0}) WriteFault) (old between new : Wire) (a : List ℕ)
    → HasWritten old a between → HasPut put between [] new → HasPut put old a new
put_last put old between new a first next =
    rw (← append-nil a) (put_on put old between new a [] first next)

-- a text is put with nothing after it
pub put_alone : (put : Result (Unit {0}) WriteFault) (old new : Wire) (a : List ℕ)
    → HasPut put old a new → HasPut put old (a ++ []) new
put_alone put old new a is = rw (append-nil a) is
