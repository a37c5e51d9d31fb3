-- The answers of `dist` to an image: this project's own rule.
use Rattle.std.specs.Prelude.{◌≡◌, ◌≢◌, ℕ, List, [], ◌∷◌, ◌++◌, ◌⊎◌, Option, Err, IsOk, MatchOption}
use Rattle.metric.specs.declared.fault.PbmFault.{PbmFault}
use Rattle.metric.specs.declared.fault.PbmFault.TheVariants as faults
use Rattle.metric.specs.Kind.{distance_of}
use Rattle.metric.specs.declared.edge.Edge.{Edge}
use Rattle.metric.specs.declared.near.Near.{Near}
use Rattle.metric.specs.Refusal.{image_text}
use Rattle.metric.specs.Stream.{AreAll, Appends, AppendsFront}
use Rattle.bits.specs.Cells.{Cells}
use Rattle.pbm.specs.Faults.{header, image}
use Rattle.pbm.specs.Image.{Reads}
use Rattle.field.specs.Rows.{AreNears}
use Rattle.lines.specs.Replies.{reply_line}
use Rattle.lines.specs.declared.answer.Answer.{Answer}
use Rattle.engines.specs.dist.Query.{IsReplyTo, asked_in, status_of}
use Rattle.command_line.specs.declared.arguments.DistOptions.{DistOptions}
use Rattle.printing.specs.Table.{table_text}

-- the bytes read as an image, and the text is its table, by the metric and with the edge asked for
pub record IsTable (options : DistOptions) (bytes text : List ℕ) (status : ℕ) : Type 0 where
  pub taken : ℕ
  pub cells : Cells
  pub nears : List (Option Near)
  pub reads : Reads bytes taken cells
  pub rows : AreNears (distance_of options.metric) cells options.edge 0 cells.height nears
  pub text_is : text ≡ table_text options.nearest cells.width cells.height nears
  pub status_is : status ≡ 0

-- the bytes read as an image, and the text is the reply to the line
pub record IsReplyToLine (edge : Edge) (line bytes text : List ℕ) (status : ℕ) : Type 0 where
  pub taken : ℕ
  pub cells : Cells
  pub answer : Answer
  pub reads : Reads bytes taken cells
  pub replies : IsReplyTo cells edge (asked_in line) answer
  pub text_is : text ≡ reply_line answer
  pub status_is : status ≡ status_of answer

-- the bytes read as an image, and the text is what the options ask: the table, or a line's reply
abbrev pub IsAsked : DistOptions → List ℕ → List ℕ → ℕ → Type 0
IsAsked options bytes text status =
    MatchOption options.query (IsTable options bytes text status)
    (λ line. IsReplyToLine options.edge line.now bytes text status)

-- the bytes don't read as an image, and this is their first fault
pub record IsBadImage (bytes : List ℕ) (fault : PbmFault) : Type 0 where
  pub first : image bytes ≡ Err fault
  pub none : (n : ℕ) (cells : Cells) → Reads bytes n cells → ⊥

-- the text is the line of a fault of the bytes, or of out of memory, met only after a good header
pub record IsFault (bytes text : List ℕ) (status : ℕ) : Type 0 where
  pub fault : PbmFault
  pub true_of : fault ≢ faults.Memory → IsBadImage bytes fault
  pub memory : fault ≡ faults.Memory → IsOk (header bytes)
  pub text_is : text ≡ image_text fault ++ 10 ∷ []
  pub status_is : status ≡ 1

-- this text is an answer to these bytes under these options, with its status
abbrev pub IsImageAnswer : DistOptions → List ℕ → List ℕ → ℕ → Type 0
IsImageAnswer options bytes text status =
    IsAsked options bytes text status ⊎ IsFault bytes text status

-- this is an answer under these options to any bytes that read as an image of this map
abbrev pub IsMapAnswer : DistOptions → Cells → List ℕ → ℕ → Type 0
IsMapAnswer options cells text status =
    (bytes : List ℕ) (taken : ℕ) → Reads bytes taken cells → IsImageAnswer options bytes text status

-- such an answer was wholly written, with its status
abbrev pub AnswersMap : DistOptions → Cells → Option (List ℕ) → Option (List ℕ) → ℕ → Type 0
AnswersMap options cells held_before held_after status =
    (text : List ℕ) × IsMapAnswer options cells text status × Appends held_before text held_after

-- a prefix of such an answer was written
abbrev pub BeginsToAnswerMap : DistOptions → Cells → Option (List ℕ) → Option (List ℕ) → Type 0
BeginsToAnswerMap options cells held_before held_after =
    (text : List ℕ) × (status : ℕ) × IsMapAnswer options cells text status
    × AppendsFront held_before text held_after

-- this text is the line for out of memory, with its status
abbrev pub IsMemoryLine : List ℕ → ℕ → Type 0
IsMemoryLine text status = (text ≡ image_text faults.Memory ++ 10 ∷ []) × (status ≡ 1)

-- this text is an answer to these bytes under these options, or that memory ran out reading them
abbrev pub IsDistAnswer : DistOptions → List ℕ → List ℕ → ℕ → Type 0
IsDistAnswer options bytes text status =
    IsImageAnswer options bytes text status ⊎ IsMemoryLine text status

-- an answer to all bytes that the reader had was wholly written
pub record AnswersImage (options : DistOptions) (unread held_before held_after : Option (List ℕ))
    (status : ℕ) : Type 0 where
  pub bytes : List ℕ
  pub text : List ℕ
  pub all : AreAll unread bytes
  pub answer : IsDistAnswer options bytes text status
  pub written : Appends held_before text held_after

-- a prefix of an answer to all bytes that the reader had was written
pub record BeginsToAnswerImage (options : DistOptions)
    (unread held_before held_after : Option (List ℕ)) : Type 0 where
  pub bytes : List ℕ
  pub text : List ℕ
  pub status : ℕ
  pub all : AreAll unread bytes
  pub answer : IsDistAnswer options bytes text status
  pub written : AppendsFront held_before text held_after
