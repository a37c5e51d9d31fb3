-- What a stream is answered from its first byte to its end: this project's own rule.
use Rattle.std.specs.Prelude.{◌≡◌, ℕ, ◌+◌, ◌<◌, ◌≤◌, ◌⊎◌, List, [], ◌∷◌, ◌++◌, length, Option, Some}
use Rattle.std.specs.Prelude.{None, Result, Ok, Err, IsOkAnd}
use Rattle.std.specs.List.{flat_map}
use Rattle.metric.specs.Stream.{Appends, AppendsFront, Takes}
use Rattle.metric.specs.declared.refusal.Refusal.{Refusal}
use Rattle.metric.specs.declared.stream.WriteFault.{WriteFault}
use Rattle.metric.specs.declared.refusal.Refusal.TheVariants as refusals
use Rattle.shelf.specs.Store.{StoreId}
use Rattle.line_io.specs.declared.end.End.{End}
use Rattle.line_io.specs.declared.end.End.TheVariants as ends
use Rattle.lines.specs.declared.answer.Answer.{Answer}
use Rattle.lines.specs.declared.answer.Answer.TheVariants as answers
use Rattle.lines.specs.Replies.{reply_line}
use Rattle.lines.specs.Said.{LineView, SaysPoints}
use Rattle.lines.specs.Said as saids
use Rattle.proto.specs.Callers.{CallerValue, bitmap_held}
use Rattle.proto.specs.Exchanges.{Exchange, IsExchange, line_said, counts}
use Rattle.line_io.specs.Lines.{IsLine, IsTooLong}
use Rattle.line_io.specs.Saying.{IsDumped}
use Rattle.metric.specs.Wire.{Wire}
use Rattle.line_io.specs.Wire.{HasNotWritten, HasPut, HasRead, HasWritten, IsReadOut}

-- the bytes of an exchange: its line, LF, and the bytes that it counts
abbrev pub bytes_of : Exchange → List ℕ
bytes_of x = x.line ++ (10 ∷ x.counted)

-- the text of an exchange: its reply line, and what follows it
abbrev pub text_of : Exchange → List ℕ
text_of x = reply_line x.answer ++ x.body

-- the caller has had these exchanges, in order
abbrev pub AreExchanges : StoreId → List Exchange → CallerValue → CallerValue → Type 0
AreExchanges store [] old new = new ≡ old
AreExchanges store (x ∷ xs) old new =
    (between : CallerValue) × IsExchange store x old between × AreExchanges store xs between new

-- these bytes are a line with its LF, and fewer bytes than it counts, no more than a stamp may have
pub record IsShort (bytes : List ℕ) : Type 0 where
  pub line : List ℕ
  pub line_is : IsLine line
  pub most : counts (line_said line) ≤ 17100000
  pub counted : List ℕ
  pub few : length counted < counts (line_said line)
  pub bytes_are : bytes ≡ line ++ (10 ∷ counted)

-- part of an exchange: a prefix of a line, or a line with fewer bytes than it counts
abbrev pub IsPartOfExchange : List ℕ → Type 0
IsPartOfExchange bytes = IsLine bytes ⊎ IsShort bytes

-- these bytes are a line with its LF that says QUIT
pub record IsQuit (bytes : List ℕ) : Type 0 where
  pub line : List ℕ
  pub line_is : IsLine line
  pub bytes_are : bytes ≡ line ++ (10 ∷ [])
  pub quits : line_said line ≡ Ok saids.quit

-- these bytes are a line with its LF that counts more bytes than a stamp may have
pub record IsTooMuch (bytes : List ℕ) : Type 0 where
  pub line : List ℕ
  pub line_is : IsLine line
  pub bytes_are : bytes ≡ line ++ (10 ∷ [])
  pub many : 17100000 < counts (line_said line)

-- the bytes after the exchanges get a last text: for QUIT, a line too long, or too many bytes
abbrev pub IsFarewell : List ℕ → List ℕ → Type 0
IsFarewell tail last =
    (IsQuit tail × (last ≡ reply_line answers.Bye))
    ⊎ (IsTooLong tail × (last ≡ reply_line (answers.Refused refusals.LineTooLong)))
    ⊎ (IsTooMuch tail × (last ≡ reply_line (answers.Refused refusals.TooMuchData)))

-- after the exchanges a stream with this end, or none, has read these bytes and has this last text
abbrev pub IsTail : Option End → List ℕ → List ℕ → Type 0
IsTail None tail last = (tail ≡ []) × (last ≡ [])
IsTail (Some ends.Quit) tail last = IsQuit tail × (last ≡ reply_line answers.Bye)
IsTail (Some ends.EndOfInput) tail last = IsPartOfExchange tail × (last ≡ [])
IsTail (Some ends.LineTooLong) tail last =
    IsTooLong tail × (last ≡ reply_line (answers.Refused refusals.LineTooLong))
IsTail (Some ends.TooMuchData) tail last =
    IsTooMuch tail × (last ≡ reply_line (answers.Refused refusals.TooMuchData))
IsTail (Some ends.ReadFailed) tail last = IsPartOfExchange tail × (last ≡ [])
IsTail (Some ends.WriteFailed) tail last = ((tail ≡ []) × (last ≡ [])) ⊎ IsFarewell tail last
IsTail (Some ends.Memory) tail last = ⊥

-- after the last exchange the caller is as it was, and unpinned at an end
abbrev pub IsLeft : Option End → CallerValue → CallerValue → Type 0
IsLeft None last new = new ≡ last
IsLeft (Some end) last new = new.seat ≡ last.seat

-- the write of this text failed: the last exchange's, or a last text; at other ends none failed
abbrev pub IsUnsaid : Option End → List Exchange → List ℕ → List ℕ → List ℕ → Type 0
IsUnsaid (Some ends.WriteFailed) exchanges tail last unsaid =
    ((before : List Exchange) × (x : Exchange) × (exchanges ≡ before ++ x ∷ []) × (last ≡ [])
    × (unsaid ≡ text_of x)) ⊎ (IsFarewell tail last × (unsaid ≡ last))
IsUnsaid end exchanges tail last unsaid = unsaid ≡ []

-- a stream with this end, or none, has read exchanges and a tail, and written up to a failed text
pub record Served (store : StoreId) (end : Option End) (bytes : List ℕ) (old new : CallerValue)
    (said unsaid : List ℕ) : Type 0 where
  pub exchanges : List Exchange
  pub tail : List ℕ
  pub last : List ℕ
  pub behind : CallerValue
  pub run : AreExchanges store exchanges old behind
  pub left : IsLeft end behind new
  pub ends : IsTail end tail last
  pub bytes_are : bytes ≡ flat_map bytes_of exchanges ++ tail
  pub texts_are : said ++ unsaid ≡ flat_map text_of exchanges ++ last
  pub unsaid_is : IsUnsaid end exchanges tail last unsaid

-- at the end of the input nothing is left to read
abbrev pub IsEndReached : Option End → Option (List ℕ) → Type 0
IsEndReached (Some ends.EndOfInput) rest = IsReadOut rest
IsEndReached end rest = Unit {0}

-- what was said follows what was written, then a prefix of the text whose write failed, if any
abbrev pub IsWritten : Option End → Option (List ℕ) → List ℕ → List ℕ → Option (List ℕ) → Type 0
IsWritten (Some ends.WriteFailed) before said unsaid after =
    (between : Option (List ℕ)) × Appends before said between × AppendsFront between unsaid after
IsWritten end before said unsaid after = Appends before said after

-- how many reads fail before this end
abbrev pub read_faults : Option End → ℕ
read_faults (Some ends.ReadFailed) = 1
read_faults end = 0

-- how many writes fail before this end
abbrev pub write_faults : Option End → ℕ
write_faults (Some ends.WriteFailed) = 1
write_faults end = 0

-- these bytes were read and this was said, up to this end
pub record HasMoved (end : Option End) (old : Wire) (bytes said unsaid : List ℕ) (new : Wire) :
    Type 0 where
  pub taken : Takes old.rest bytes new.rest
  pub reached : IsEndReached end new.rest
  pub written : IsWritten end old.held said unsaid new.held
  pub reads : new.failed_reads ≡ old.failed_reads + read_faults end
  pub writes : new.failed_writes ≡ old.failed_writes + write_faults end

-- a line was parsed as what it says, or there was no memory for its points
abbrev pub IsHeard : Result LineView Refusal → Result LineView Refusal → Type 0
IsHeard said heard = (heard ≡ said) ⊎ ((heard ≡ Err refusals.Memory) × IsOkAnd said SaysPoints)

-- a line was read to its LF, and parsed with this result
pub record HasHeard (old : Wire) (heard : Result LineView Refusal) (new : Wire) : Type 0 where
  pub line : List ℕ
  pub line_is : IsLine line
  pub read : HasRead 0 old (line ++ 10 ∷ []) new
  pub heard_is : IsHeard (line_said line) heard

-- what was said is wholly written, and the stream goes on; or a write failed
abbrev pub IsSaid : Option End → Wire → List ℕ → Wire → Type 0
IsSaid None old text new = HasWritten old text new
IsSaid (Some end) old text new = (end ≡ ends.WriteFailed) × HasNotWritten old text new

-- the end of a stream after a write with this outcome, if it ends
abbrev pub end_after : Result (Unit {0}) WriteFault → Option End
end_after (Ok done) = None
end_after (Err fault) = Some ends.WriteFailed

-- the answer to DUMP was written: the dump of the caller's pinned version, or that it has none
abbrev pub IsDumpSaid : StoreId → Result (Unit {0}) WriteFault → Wire → CallerValue → Wire → Type 0
IsDumpSaid store written wire old wire_after =
    elim old.pin as (λ _. Type 0) [
      | None ↦ HasPut written wire (reply_line (answers.Refused refusals.NotPinned)) wire_after
      | Some version ↦ IsDumped (bitmap_held store old) written wire wire_after
    ]

-- a caller was served over a wire up to this end: bytes were read, and texts said unless one failed
pub record IsServed (store : StoreId) (end : Option End) (wire : Wire) (old : CallerValue)
    (wire_after : Wire) (new : CallerValue) : Type 0 where
  pub bytes : List ℕ
  pub said : List ℕ
  pub unsaid : List ℕ
  pub served : Served store end bytes old new said unsaid
  pub moved : HasMoved end wire bytes said unsaid wire_after
