-- The answers to a line with the bytes that it counts: this project's own rule.
use Rattle.std.specs.Prelude.{◌≡◌, ℕ, ◌≤◌, ◌⊎◌, List, [], length, Bool, false, is_some, Some, None}
use Rattle.std.specs.Prelude.{Result, Ok, Err}
use Rattle.std.specs.Str.Lines.{strip_carriage_return}
use Rattle.metric.specs.Kind.{distance_of}
use Rattle.metric.specs.declared.fault.PbmFault.{PbmFault}
use Rattle.metric.specs.declared.refusal.Refusal.{Refusal}
use Rattle.metric.specs.declared.refusal.Refusal.TheVariants.{Memory, NotPinned, BadPath, BadImage}
use Rattle.bits.specs.Cells.{Cells}
use Rattle.pbm.specs.Image.{Reads}
use Rattle.pbm.specs.Faults.{image}
use Rattle.pbm.specs.Writing.{plain_text}
use Rattle.events.specs.declared.command.Command.{Command}
use Rattle.events.specs.declared.command.Command.TheVariants as commands
use Rattle.shelf.specs.Store.{StoreId}
use Rattle.lines.specs.declared.answer.Answer.{Answer}
use Rattle.lines.specs.declared.answer.Answer.TheVariants as answers
use Rattle.lines.specs.Asked.{QueryView, HasPoints, metric_asked}
use Rattle.lines.specs.Told.{told_by}
use Rattle.lines.specs.declared.line.Line.{Line}
use Rattle.lines.specs.Said.{LineView, said, said_by}
use Rattle.lines.specs.Said as saids
use Rattle.answering.specs.Queries.{IsAnswerBy}
use Rattle.line_io.specs.Lines.{IsLine}
use Rattle.line_io.specs.Saying.{IsDump}
use Rattle.proto.specs.Callers.{CallerValue, bitmap_held, IsCommanded, IsPinAnswer, IsRefusedAs}
use Rattle.proto.specs.Callers.{IsUnpinAnswer}

-- what a line of a stream says, without the CR at its end
abbrev pub line_said : List ℕ → Result LineView Refusal
line_said line = said (strip_carriage_return line)

-- how many bytes a line counts after its LF: those of a stamp's image
abbrev pub counts : Result LineView Refusal → ℕ
counts (Ok (saids.stamp x y n)) = n
counts other = 0

-- without a pin, `NotPinned` comes before a fault in a line's points, or out of memory for them
abbrev pub with_pin : Bool → Refusal → Refusal
with_pin false BadPath = NotPinned
with_pin false Memory = NotPinned
with_pin pinned refusal = refusal

-- what a line of the program says, or why it was refused
abbrev pub line_seen_in : Result Line Refusal → Result LineView Refusal
line_seen_in (Ok line) = Ok (said_by line)
line_seen_in (Err refusal) = Err refusal

-- a line that needs a pin has this answer for the caller's pinned version, or is refused
abbrev pub WithPin : (ℕ → Type 0) → CallerValue → Answer → CallerValue → Type 0
WithPin answered old answer new =
    elim old.pin as (λ _. Type 0) [
      | None ↦ IsRefusedAs NotPinned old answer new
      | Some version ↦ answered version
    ]

-- a stamp is answered as the command if an image is in front, else by the first fault, or no memory
abbrev pub IsStampAnswer : StoreId → ℕ → ℕ → List ℕ → CallerValue → Answer → CallerValue → Type 0
IsStampAnswer store x y bytes old answer new =
    ((n : ℕ) × (cells : Cells) × Reads bytes n cells
    × IsCommanded store (commands.Stamp x y cells) old answer new)
    ⊎ ((fault : PbmFault) × (image bytes ≡ Err fault) × IsRefusedAs (BadImage fault) old answer new)
    ⊎ IsRefusedAs Memory old answer new

-- a query is answered for the pinned bitmap with the store's edge, or lacks memory for its points
pub record IsQueryAnswer (store : StoreId) (query : QueryView) (old : CallerValue) (answer : Answer)
    (new : CallerValue) : Type 0 where
  pub answered : IsAnswerBy (distance_of (metric_asked query))
      (bitmap_held store old) store.base.setting.edge query answer
      ⊎ (HasPoints query × (answer ≡ answers.Refused Memory))
  pub same : new ≡ old

-- the plain image of the pinned version's bitmap follows a reply line that counts its bytes
abbrev pub body_of : StoreId → CallerValue → Answer → List ℕ
body_of store old (answers.Dumped n) = plain_text (bitmap_held store old)
body_of store old answer = []

-- DUMP with a pin is answered with the dump of the pinned version's bitmap; the caller stays
pub record IsDumpAnswer (store : StoreId) (old : CallerValue) (answer : Answer)
    (new : CallerValue) : Type 0 where
  pub answered : IsDump (bitmap_held store old) answer (body_of store old answer)
  pub same : new ≡ old

-- a line, with the bytes that it counts, has this answer; QUIT, which ends the stream, has none
abbrev pub IsLineAnswer : StoreId → Result LineView Refusal → List ℕ → CallerValue → Answer
    → CallerValue → Type 0
IsLineAnswer store (Err refusal) bytes old answer new =
    IsRefusedAs (with_pin (is_some old.pin) refusal) old answer new
IsLineAnswer store (Ok (saids.told t)) bytes old answer new =
    (c : Command) × (told_by c ≡ t) × IsCommanded store c old answer new
IsLineAnswer store (Ok (saids.stamp x y n)) bytes old answer new =
    IsStampAnswer store x y bytes old answer new
IsLineAnswer store (Ok saids.pin) bytes old answer new = IsPinAnswer store old answer new
IsLineAnswer store (Ok saids.unpin) bytes old answer new = IsUnpinAnswer old answer new
IsLineAnswer store (Ok (saids.asked query)) bytes old answer new =
    WithPin (λ _. IsQueryAnswer store query old answer new) old answer new
IsLineAnswer store (Ok saids.dump) bytes old answer new =
    WithPin (λ _. IsDumpAnswer store old answer new) old answer new
IsLineAnswer store (Ok saids.quit) bytes old answer new = ⊥

-- an exchange is a line with the bytes that it counts, its answer, and what followed the reply line
pub record Exchange : Type 0 where
  pub line : List ℕ
  pub counted : List ℕ
  pub answer : Answer
  pub body : List ℕ

-- a line, its counted bytes and its answer are an exchange of this caller
pub record IsExchange (store : StoreId) (x : Exchange) (old new : CallerValue) : Type 0 where
  pub line : IsLine x.line
  pub counted : length x.counted ≡ counts (line_said x.line)
  pub few : counts (line_said x.line) ≤ 17100000
  pub answer : IsLineAnswer store (line_said x.line) x.counted old x.answer new
  pub body : x.body ≡ body_of store old x.answer
