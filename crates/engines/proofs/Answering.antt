-- An answer of `dist`, written whole or in part.
use Rattle.std.proofs.Common.{◌≡◌, ◌≢◌, ℕ, List, [], ◌∷◌, ◌++◌, Option, Some, None, Result, Ok, Err}
use Rattle.std.proofs.Common.{inl, inr, refl, sym, subst, arith, IfOk, OnOk, OnErr, IsOk}
use Rattle.std.specs.Borrow.{Bor}
use Rattle.std.specs.Result.{result_unwrap_or}
use Rattle.metric.specs.declared.fault.PbmFault.{PbmFault}
use Rattle.metric.specs.declared.fault.PbmFault.TheVariants as faults
use Rattle.metric.specs.declared.refusal.Refusal.{Refusal}
use Rattle.metric.specs.declared.refusal.Refusal.TheVariants as refusals
use Rattle.metric.specs.declared.stream.WriteFault.{WriteFault}
use Rattle.metric.specs.Refusal.{image_text, refusal_text}
use Rattle.metric.specs.Stream.{Appends, AppendsFront, Counts}
use Rattle.command_line.specs.declared.arguments.DistOptions.{DistOptions}
use Rattle.printing.specs.Table.{table_text}
use Rattle.printing.proofs.KeptLemmas.{table_text-told}
use Rattle.printing.specs.Tabled.{IsTableOf, TableView}
use Rattle.bits.specs.Cells.{Cells}
use Rattle.field.specs.Rows.{AreNears}
use Rattle.metric.specs.Kind.{distance_of}
use Rattle.pbm.specs.Faults.{◌>>=◌, header, image}
use Rattle.pbm.specs.Image.{Reads}
use Rattle.streams.proofs.Texts.{told, AreAll-told}
use Rattle.pbm.proofs.Images.{reads-image}
use Rattle.pbm.specs.Windows.{HasFault, HasImage}
use Rattle.engines.specs.declared.dist.reply.QueryReply.{QueryReply}
use Rattle.engines.specs.dist.Replied.{IsReplyOf}
use Rattle.engines.specs.dist.Dist.{IsImageAnswer, IsMapAnswer, IsBadImage, AnswersImage}
use Rattle.engines.specs.dist.Dist.{AnswersMap, BeginsToAnswerImage, BeginsToAnswerMap}

-- where no write failed, an answer to the image that a reader had is written whole
pub answered : (options : DistOptions) (unread before after : Option (List ℕ)) (cells : Cells)
    (written : Result ℕ WriteFault) (old new : ℕ)
    → HasImage unread cells
    → IfOk written (AnswersMap options cells before after)
    → Counts old written new → new ≡ old
    → AnswersImage options unread before after (result_unwrap_or written 1)
answered options unread before after cells (Ok status) old new has
    (text, answer, whole) counts same =
    record {
      bytes = has.bytes;
      text = text;
      all = has.all;
      answer = inl (answer has.bytes has.taken has.reads);
      written = whole;
    }
answered options unread before after cells (Err fault) old new has whole counts same =
    absurd (omega (arith, counts))

-- where a write failed, a prefix of the answer is written, and the status is 1
pub begun : (options : DistOptions) (unread before after : Option (List ℕ)) (cells : Cells)
    (written : Result ℕ WriteFault) (old new : ℕ)
    → HasImage unread cells
    → OnErr written (BeginsToAnswerMap options cells before after)
    → Counts old written new → new ≢ old → BeginsToAnswerImage options unread before after
    × (result_unwrap_or written 1 ≡ 1)
begun options unread before after cells (Ok status) old new has front counts other =
    absurd (other counts)
begun options unread before after cells (Err fault) old new has
    (text, status, answer, front) counts other = (
      record {
        bytes = has.bytes;
        text = text;
        status = status;
        all = has.all;
        answer = inl (answer has.bytes has.taken has.reads);
        written = front;
      },
      refl,
    )

-- the line of a fault that is true of the bytes is an answer to them
answer_of_fault : (options : DistOptions) (bytes : List ℕ) (fault : PbmFault) (status : ℕ)
    → (fault ≢ faults.Memory → IsBadImage bytes fault)
    → (fault ≡ faults.Memory → IsOk (header bytes)) → status ≡ 1
    → IsImageAnswer options bytes (image_text fault ++ 10 ∷ []) status
answer_of_fault options bytes fault status true_of memory one =
    inr (record {
      fault = fault;
      true_of = true_of;
      memory = memory;
      text_is = refl;
      status_is = one;
    })

-- the line of a fault that a reader's bytes have is an answer to them
fault_answered : (options : DistOptions) (unread : Option (List ℕ)) (fault : PbmFault) (status : ℕ)
    (has : HasFault unread fault) → status ≡ 1
    → IsImageAnswer options has.bytes (image_text fault ++ 10 ∷ []) status
fault_answered options unread fault status has one =
    answer_of_fault options has.bytes fault status
    (λ real. record { first = has.first real; none = has.none real }) has.memory one

-- the line of a fault that a reader's bytes have, written whole, is an answer of `dist`
pub fault_whole : (options : DistOptions) (unread before after : Option (List ℕ)) (fault : PbmFault)
    (written : Result ℕ WriteFault) (old new : ℕ) → HasFault unread fault
    → IfOk written (λ status. status ≡ 1)
    → OnOk written (Appends before (image_text fault ++ 10 ∷ []) after) → Counts old written new
    → new ≡ old → AnswersImage options unread before after (result_unwrap_or written 1)
fault_whole options unread before after fault (Ok status) old new has one whole counts same =
    record {
      bytes = has.bytes;
      text = image_text fault ++ 10 ∷ [];
      all = has.all;
      answer = inl (fault_answered options unread fault status has one);
      written = whole;
    }
fault_whole options unread before after fault (Err failed) old new has one whole counts same =
    absurd (omega (arith, counts))

-- the line of a fault that a reader's bytes have, written in part, begins an answer of `dist`
pub fault_in_part : (options : DistOptions) (unread before after : Option (List ℕ))
    (fault : PbmFault) (written : Result ℕ WriteFault) (old new : ℕ) → HasFault unread fault
    → OnErr written (AppendsFront before (image_text fault ++ 10 ∷ []) after)
    → Counts old written new → new ≢ old → BeginsToAnswerImage options unread before after
    × (result_unwrap_or written 1 ≡ 1)
fault_in_part options unread before after fault (Ok status) old new has front counts other =
    absurd (other counts)
fault_in_part options unread before after fault (Err failed) old new has front counts other = (
  record {
    bytes = has.bytes;
    text = image_text fault ++ 10 ∷ [];
    status = 1;
    all = has.all;
    answer = inl (fault_answered options unread fault 1 has refl);
    written = front;
  },
  refl,
)

-- the line for out of memory, written whole, is an answer of `dist` to all bytes of any reader
pub memory_whole : (options : DistOptions) (unread before after : Option (List ℕ))
    (written : Result ℕ WriteFault) (old new : ℕ) → IfOk written (λ status. status ≡ 1)
    → OnOk written (Appends before (image_text faults.Memory ++ 10 ∷ []) after)
    → Counts old written new → new ≡ old
    → AnswersImage options unread before after (result_unwrap_or written 1)
memory_whole options unread before after (Ok status) old new one whole counts same = record {
  bytes = told unread;
  text = image_text faults.Memory ++ 10 ∷ [];
  all = AreAll-told unread;
  answer = inr (refl, one);
  written = whole;
}
memory_whole options unread before after (Err fault) old new one whole counts same =
    absurd (omega (arith, counts))

-- the line for out of memory, written in part, begins an answer of `dist` to all bytes of any
-- reader
pub memory_in_part : (options : DistOptions) (unread before after : Option (List ℕ))
    (written : Result ℕ WriteFault) (old new : ℕ)
    → OnErr written (AppendsFront before (image_text faults.Memory ++ 10 ∷ []) after)
    → Counts old written new → new ≢ old → BeginsToAnswerImage options unread before after
    × (result_unwrap_or written 1 ≡ 1)
memory_in_part options unread before after (Ok status) old new front counts other =
    absurd (other counts)
memory_in_part options unread before after (Err fault) old new front counts other = (
  record {
    bytes = told unread;
    text = image_text faults.Memory ++ 10 ∷ [];
    status = 1;
    all = AreAll-told unread;
    answer = inr (refl, refl);
    written = front;
  },
  refl,
)

-- where a part and what comes after it give a value, the part has one
first_part : {A B : Type 0} (part : Result A PbmFault) (after : A → Result B PbmFault) (value : B)
    → (part >>= after) ≡ Ok value → IsOk part
first_part (Ok x) after value e = refl
first_part (Err fault) after value e = absurd (cc)

-- bytes that read as an image have a good header
reads-header : (bytes : List ℕ) (n : ℕ) (cells : Cells) → Reads bytes n cells → IsOk (header bytes)
unfolding image
reads-header bytes n cells found =
    let is : image bytes ≡ Ok (cells, found.rest) = reads-image bytes n cells found in
    first_part (header bytes) _ (cells, found.rest) is

-- the line that says that there is no memory is an answer to any bytes that read as an image
map_wants_memory : (options : DistOptions) (cells : Cells) (refusal : Refusal) (status : ℕ)
    → refusal ≡ refusals.Memory → status ≡ 1
    → IsMapAnswer options cells (refusal_text refusal ++ 10 ∷ []) status
map_wants_memory options cells refusal status none one = rw none (λ bytes taken reads.
    answer_of_fault options bytes faults.Memory status (λ real. absurd (real refl))
    (λ e. reads-header bytes taken cells reads) one)

-- where that line is written whole, an answer to any image of the map is
pub map_wanting_whole : (options : DistOptions) (cells : Cells) (refusal : Refusal)
    (before after : Option (List ℕ)) (written : Result ℕ WriteFault)
    → refusal ≡ refusals.Memory → IfOk written (λ status. status ≡ 1)
    → OnOk written (Appends before (refusal_text refusal ++ 10 ∷ []) after)
    → IfOk written (AnswersMap options cells before after)
map_wanting_whole options cells refusal before after (Ok status) none one whole =
    (refusal_text refusal ++ 10 ∷ [], map_wants_memory options cells refusal status none one, whole)
map_wanting_whole options cells refusal before after (Err failed) none one whole = tt

-- where that line is written in part, a prefix of an answer is
pub map_wanting_front : (options : DistOptions) (cells : Cells) (refusal : Refusal)
    (before after : Option (List ℕ)) (written : Result ℕ WriteFault)
    → refusal ≡ refusals.Memory
    → OnErr written (AppendsFront before (refusal_text refusal ++ 10 ∷ []) after)
    → OnErr written (BeginsToAnswerMap options cells before after)
map_wanting_front options cells refusal before after (Ok status) none front = tt
map_wanting_front options cells refusal before after (Err failed) none front =
    (refusal_text refusal ++ 10 ∷ [], 1, map_wants_memory options cells refusal 1 none refl, front)

-- where no query is asked, the lines of the map's table are an answer to an image of it
pub asked_of_table : (options : DistOptions) (cells : Cells) (distance : ℕ → ℕ → ℕ)
    (table : TableView) → options.query ≡ None → distance ≡ distance_of options.metric
    → table.nearest ≡ options.nearest → IsTableOf distance options.edge cells table
    → IsMapAnswer options cells (table_text options.nearest table.width table.height table.nears) 0
asked_of_table options cells distance table no_line by asked of =
    λ bytes taken reads. inl (rw no_line (record {
      taken = taken;
      cells = cells;
      nears = of.nears;
      reads = reads;
      rows = subst (λ (d : ℕ → ℕ → ℕ). AreNears d cells options.edge 0 cells.height of.nears)
          by of.rows;
      text_is = rw (of.width_is, of.height_is)
          (sym (table_text-told options.nearest cells.width cells.height of.nears table.nears
          (rw asked at of.told)));
      status_is = refl;
    }))

-- where a query is asked, its reply is an answer to an image of the map
pub asked_of_reply : (options : DistOptions) (cells : Cells) (line : Bor (List ℕ))
    (reply : QueryReply) → options.query ≡ Some line → IsReplyOf options.edge line.now cells reply
    → IsMapAnswer options cells reply.text reply.status
asked_of_reply options cells line reply given of =
    λ bytes taken reads.
    inl (rw given (record {
      taken = taken;
      cells = cells;
      answer = of.answer;
      reads = reads;
      replies = of.replies;
      text_is = of.text_is;
      status_is = of.status_is;
    }))
