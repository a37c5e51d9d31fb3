-- Why nothing is served.
use Rattle.std.proofs.Common.{◌≡◌, ℕ, List, [], ◌∷◌, ◌++◌, Option, Some, None, Result, Ok, Err}
use Rattle.std.proofs.Common.{OnOk, OnErr, IfOk, inl, inr, refl, sym, ap, subst, ◌∙◌, arith}
use Rattle.std.specs.Prelude.{◌≢◌, IfErr, IfSome, MatchOption}
use Rattle.std.specs.Result.{result_unwrap_or}
use Rattle.metric.specs.Refusal.{refusal_text}
use Rattle.metric.specs.Stream.{Appends, AppendsFront, Counts}
use Rattle.metric.proofs.Appending.{Appends-more}
use Rattle.metric.specs.declared.refusal.Field.{Field}
use Rattle.metric.specs.declared.refusal.Refusal.{Refusal}
use Rattle.metric.specs.declared.refusal.Refusal.TheVariants.{BadSetting, Memory}
use Rattle.metric.specs.declared.stream.WriteFault.{WriteFault}
use Rattle.proto.specs.Server.{BeginsServed, IsUnserved, WritesOnly, WritesServed}
use Rattle.proto.specs.Server.{listening_text, served_text}
use Rattle.streams.proofs.Texts.{written_either, written_whole}
use Rattle.streams.proofs.RefusalLines.{front_first, front_second}

-- a setting that is out of its limits is told in this line
abbrev pub setting_line : Field → List ℕ
setting_line field = refusal_text (BadSetting field) ++ 10 ∷ []

-- the refusal comes with what is returned
abbrev refusal_back : {A B : Type 0} → Refusal → Result A (B × Refusal) → Refusal
refusal_back other (Ok value) = other
refusal_back other (Err back) = back.1

-- a line that was written whole, or in part where a write failed, was written alone
written_alone : (line : List ℕ) (failed_before failed_after : ℕ) (before after : Option (List ℕ))
    (written : Result ℕ WriteFault) → Counts failed_before written failed_after
    → OnOk written (Appends before line after) → OnErr written (AppendsFront before line after)
    → WritesOnly line failed_before failed_after before after
written_alone line failed_before failed_after before after written counts whole front =
    record {
      whole = written_whole failed_before failed_after before after line written counts
          whole;
      front = written_either before after line written whole front;
    }

-- a run that was refused, or whose write failed, has the status 1
refused_status : (written : Result ℕ WriteFault) → IfOk written (λ status. status ≡ 1)
    → result_unwrap_or written 1 ≡ 1
refused_status (Ok status) one = one
refused_status (Err fault) one = refl

-- where no write failed, what holds of what was written holds of the status
pub told_status : (Told : ℕ → Type 0) (written : Result ℕ WriteFault) (old new : ℕ)
    → IfOk written Told → Counts old written new → new ≡ old → Told (result_unwrap_or written 1)
told_status Told (Ok status) old new told counts same = told
told_status Told (Err fault) old new told counts same = absurd (omega (arith, counts, same))

-- where a write failed, what holds of a part holds, and the status is 1
pub begun_status : (Begun : Type 0) (written : Result ℕ WriteFault) (old new : ℕ)
    → OnErr written Begun → Counts old written new → new ≢ old
    → Begun × (result_unwrap_or written 1 ≡ 1)
begun_status Begun (Ok status) old new begun counts other = absurd (other counts)
begun_status Begun (Err fault) old new begun counts other = (begun, refl)

-- where a setting is bad, the line of its refusal was written alone
pub told_setting : {A B : Type 0} (found : Option Field) (map : B) (other : Type 0)
    (result : Result A (B × Refusal)) (back : B) (refusal : Refusal)
    (failed_before failed_after : ℕ) (before after : Option (List ℕ))
    (written : Result ℕ WriteFault)
    → MatchOption found other (λ field. result ≡ Err (map, BadSetting field))
    → result ≡ Err (back, refusal) → IfOk written (λ status. status ≡ 1)
    → Counts failed_before written failed_after
    → OnOk written (Appends before (refusal_text refusal ++ 10 ∷ []) after)
    → OnErr written (AppendsFront before (refusal_text refusal ++ 10 ∷ []) after)
    → IfSome found (λ field. WritesOnly (setting_line field) failed_before failed_after before after
    × (result_unwrap_or written 1 ≡ 1))
told_setting None map other result back refusal failed_before failed_after before after written
    limits is one counts whole front = tt
told_setting (Some field) map other result back refusal failed_before failed_after before after
    written limits is one counts whole front =
    let same : refusal ≡ BadSetting field = ap (refusal_back refusal) (sym is ∙ limits) in (
      subst (λ (r : Refusal). WritesOnly (refusal_text r ++ 10 ∷ []) failed_before failed_after
          before after) same (written_alone _ failed_before failed_after before after written counts
          whole front),
      refused_status written one,
    )

-- with a valid setting the refusal is out of memory
pub memory_alone : {A B : Type 0} (found : Option Field) (result : Result A (B × Refusal))
    (other : Field → Type 0) (back : B) (refusal : Refusal)
    → MatchOption found (IfErr result (λ back. back.1 ≡ Memory)) other
    → result ≡ Err (back, refusal) → found ≡ None → refusal ≡ Memory
memory_alone None (Ok value) other back refusal limits is none = absurd (cc)
memory_alone None (Err pair) other back refusal limits is none =
    ap (refusal_back refusal) (sym is) ∙ limits
memory_alone (Some field) result other back refusal limits is none = absurd (cc)

-- where it was written why nothing is served, all that a server tells was written
unserved_whole : (port connections : ℕ) (before after : Option (List ℕ)) (text : List ℕ)
    (written : Result ℕ WriteFault) → IsUnserved port text → IfOk written (λ status. status ≡ 1)
    → OnOk written (Appends before text after)
    → IfOk written (WritesServed port connections before after)
unserved_whole port connections before after text (Ok status) why one whole =
    record { text = text; text_is = inr (why, one); written = whole }
unserved_whole port connections before after text (Err fault) why one whole = tt

-- where a prefix of why nothing is served was written, a prefix of what a server tells was
unserved_front : (port connections : ℕ) (before after : Option (List ℕ)) (text : List ℕ)
    (written : Result ℕ WriteFault) → IsUnserved port text
    → OnErr written (AppendsFront before text after)
    → OnErr written (BeginsServed port connections before after)
unserved_front port connections before after text (Ok status) why front = tt
unserved_front port connections before after text (Err fault) why front =
    record { text = text; status = 1; text_is = inr (why, refl); written = front }

-- where the line for out of memory was written with nothing before it, all that a server tells was
-- written
pub lacking_whole : (port connections : ℕ) (before after : Option (List ℕ)) (refusal : Refusal)
    (written : Result ℕ WriteFault) → refusal ≡ Memory → IfOk written (λ status. status ≡ 1)
    → OnOk written (Appends before (refusal_text refusal ++ 10 ∷ []) after)
    → IfOk written (WritesServed port connections before after)
lacking_whole port connections before after refusal written is one whole =
    unserved_whole port connections before after (refusal_text refusal ++ 10 ∷ []) written
    (inl (ap (λ r. refusal_text r ++ 10 ∷ []) is)) one whole

-- where a prefix of the line for out of memory was written with nothing before it, a prefix of what
-- a server tells was
pub lacking_front : (port connections : ℕ) (before after : Option (List ℕ)) (refusal : Refusal)
    (written : Result ℕ WriteFault) → refusal ≡ Memory
    → OnErr written (AppendsFront before (refusal_text refusal ++ 10 ∷ []) after)
    → OnErr written (BeginsServed port connections before after)
lacking_front port connections before after refusal written is front =
    unserved_front port connections before after (refusal_text refusal ++ 10 ∷ []) written
    (inl (ap (λ r. refusal_text r ++ 10 ∷ []) is)) front

-- where the port and then the line for out of memory were written, all that a server tells was
-- written
pub stopped_whole : (port connections : ℕ) (before between after : Option (List ℕ))
    (refusal : Refusal) (written : Result ℕ WriteFault) → refusal ≡ Memory
    → Appends before (listening_text port) between → IfOk written (λ status. status ≡ 1)
    → OnOk written (Appends between (refusal_text refusal ++ 10 ∷ []) after)
    → IfOk written (WritesServed port connections before after)
stopped_whole port connections before between after refusal (Ok status) is first one whole =
    record {
      text = listening_text port ++ (refusal_text refusal ++ 10 ∷ []);
      text_is = inr (inr (ap (λ r. listening_text port ++ (refusal_text r ++ 10 ∷ [])) is), one);
      written = Appends-more before between after (listening_text port)
          (refusal_text refusal ++ 10 ∷ []) first whole;
    }
stopped_whole port connections before between after refusal (Err fault) is first one whole = tt

-- where the port and then a prefix of the line for out of memory were written, a prefix of what
-- a server tells was
pub stopped_front : (port connections : ℕ) (before between after : Option (List ℕ))
    (refusal : Refusal) (written : Result ℕ WriteFault) → refusal ≡ Memory
    → Appends before (listening_text port) between
    → OnErr written (AppendsFront between (refusal_text refusal ++ 10 ∷ []) after)
    → OnErr written (BeginsServed port connections before after)
stopped_front port connections before between after refusal (Ok status) is first front = tt
stopped_front port connections before between after refusal (Err fault) is first front = record {
  text = listening_text port ++ (refusal_text refusal ++ 10 ∷ []);
  status = 1;
  text_is = inr (inr (ap (λ r. listening_text port ++ (refusal_text r ++ 10 ∷ [])) is), refl);
  written = front_second before between after (listening_text port)
      (refusal_text refusal ++ 10 ∷ []) first front;
}

-- where it was written after the port how many connections were served, all that a server tells was
-- written
pub served_whole : (port connections log : ℕ) (before between after : Option (List ℕ))
    (written : Result ℕ WriteFault) → Appends before (listening_text port) between
    → IfOk written (λ status. status ≡ 0)
    → OnOk written (Appends between (served_text connections log) after)
    → IfOk written (WritesServed port connections before after)
served_whole port connections log before between after (Ok status) first done whole = record {
  text = listening_text port ++ served_text connections log;
  text_is = inl (log, refl, done);
  written = Appends-more before between after (listening_text port)
      (served_text connections log) first whole;
}
served_whole port connections log before between after (Err fault) first done whole = tt

-- where a prefix of how many were served was written after the port, a prefix of what a server tells
-- was
pub served_front : (port connections log : ℕ) (before between after : Option (List ℕ))
    (written : Result ℕ WriteFault) → Appends before (listening_text port) between
    → OnErr written (AppendsFront between (served_text connections log) after)
    → OnErr written (BeginsServed port connections before after)
served_front port connections log before between after (Ok status) first front = tt
served_front port connections log before between after (Err fault) first front = record {
  text = listening_text port ++ served_text connections log;
  status = 0;
  text_is = inl (log, refl, refl);
  written = front_second before between after (listening_text port)
      (served_text connections log) first front;
}

-- where a prefix of the port's line was written alone, a prefix of what a server tells was
pub port_front : (port connections : ℕ) (before after : Option (List ℕ))
    → AppendsFront before (listening_text port) after → BeginsServed port connections before after
port_front port connections before after front = record {
  text = listening_text port ++ served_text connections 0;
  status = 0;
  text_is = inl (0, refl, refl);
  written = front_first before after (listening_text port) (served_text connections 0) front;
}
