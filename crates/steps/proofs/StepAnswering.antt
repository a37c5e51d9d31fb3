-- An answer of steps that is one refusal, written whole or in part.
use Rattle.std.proofs.Common.{◌≡◌, ◌≢◌, ℕ, List, [], ◌∷◌, ◌++◌, Option, Result, Ok, Err, IfOk, OnOk}
use Rattle.std.proofs.Common.{OnErr, IsOk, inl, inr, refl, ap, ◌∙◌, arith}
use Rattle.std.specs.Result.{result_unwrap_or}
use Rattle.metric.specs.declared.refusal.Refusal.{Refusal}
use Rattle.metric.specs.declared.refusal.Refusal.TheVariants as refusals
use Rattle.metric.specs.declared.stream.WriteFault.{WriteFault}
use Rattle.metric.specs.Refusal.{refusal_text}
use Rattle.metric.specs.Stream.{Appends, AppendsFront, Counts}
use Rattle.steps.specs.Opening.{judged, later_lines, opened_by, opening_told}
use Rattle.steps.specs.Steps.{AnswersText, BeginsToAnswerText, IsBegun}
use Rattle.words.specs.TextLines.{lines_of}
use Rattle.streams.proofs.Texts.{told, AreAll-told}

-- a prefix of the line for out of memory begins an answer to bytes whose first line opens a world
memory_begun : (bytes : List ℕ) (before after : Option (List ℕ)) → IsOk (opened_by (lines_of bytes))
    → AppendsFront before (refusal_text refusals.Memory ++ 10 ∷ []) after
    → IsBegun bytes before after
memory_begun bytes before after opens front = record {
  heard = [];
  unheard = later_lines (lines_of bytes);
  text = refusal_text refusals.Memory ++ 10 ∷ [];
  status = 1;
  lines_are = refl;
  answer = inr (opens, record { text_is = refl; status_is = refl });
  written = front;
}

-- a prefix of the line of a refusal of the first line begins an answer
pub refusal_begun : (bytes : List ℕ) (refusal : Refusal) (before after : Option (List ℕ))
    → opened_by (lines_of bytes) ≡ Err refusal
    → AppendsFront before (refusal_text refusal ++ 10 ∷ []) after → IsBegun bytes before after
refusal_begun bytes refusal before after refused front = record {
  heard = [];
  unheard = later_lines (lines_of bytes);
  text = refusal_text refusal ++ 10 ∷ [];
  status = 1;
  lines_are = refl;
  answer = inl (rw refused (record { text_is = refl; status_is = refl }));
  written = front;
}

-- a prefix of the line that tells why no world was opened begins an answer, where only a line that
-- opens one can meet out of memory
pub stop_begun : (bytes first : List ℕ) (later : List (List ℕ)) (stop : Refusal)
    (before after : Option (List ℕ)) → lines_of bytes ≡ first ∷ later
    → (stop ≢ refusals.Memory → judged (opening_told first) ≡ Err stop)
    → (stop ≡ refusals.Memory → IsOk (judged (opening_told first)))
    → AppendsFront before (refusal_text stop ++ 10 ∷ []) after → IsBegun bytes before after
stop_begun bytes first later refusals.Memory before after lines refused opens front =
    memory_begun bytes before after (rw lines (opens refl)) front
stop_begun bytes first later stop before after lines refused opens front =
    refusal_begun bytes stop before after (ap opened_by lines ∙ refused (λ same. cc)) front

-- the line for out of memory, written whole, is an answer of `steps` to all bytes of any reader
pub memory_answered : (unread before after : Option (List ℕ)) (written : Result ℕ WriteFault)
    (old new : ℕ) → IfOk written (λ status. status ≡ 1)
    → OnOk written (Appends before (refusal_text refusals.Memory ++ 10 ∷ []) after)
    → Counts old written new → new ≡ old
    → AnswersText unread before after (result_unwrap_or written 1)
memory_answered unread before after (Ok status) old new one whole counts same = record {
  bytes = told unread;
  all = AreAll-told unread;
  whole = inr (whole, one);
}
memory_answered unread before after (Err fault) old new one whole counts same =
    absurd (omega (arith, counts))

-- the line for out of memory, written in part, begins an answer of `steps` to all bytes of any
-- reader
pub memory_told_in_part : (unread before after : Option (List ℕ)) (written : Result ℕ WriteFault)
    (old new : ℕ)
    → OnErr written (AppendsFront before (refusal_text refusals.Memory ++ 10 ∷ []) after)
    → Counts old written new → new ≢ old → BeginsToAnswerText unread before after
    × (result_unwrap_or written 1 ≡ 1)
memory_told_in_part unread before after (Ok status) old new front counts other =
    absurd (other counts)
memory_told_in_part unread before after (Err fault) old new front counts other =
    (record { bytes = told unread; all = AreAll-told unread; begun = inr front }, refl)
