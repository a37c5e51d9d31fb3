-- A conversation of `ask`: each request is sent after the reply to the one before it was received
-- and printed. This project's own rule.
use Rattle.std.specs.Prelude.{◌≡◌, ◌≢◌, ◌+◌, ◌^◌, ℕ, ◌⊎◌, All, Bool, false, true, List, [], ◌∷◌}
use Rattle.std.specs.Prelude.{Option, Some, bytes_eq, codes, length, map, unwrap_or}
use Rattle.std.specs.Prelude.{if◌then◌else◌}
use Rattle.std.specs.List.{concat}
use Rattle.metric.specs.Stream.{Appends, AppendsFront, Takes}
use Rattle.words.specs.Numbers.{numbers, only_number}
use Rattle.lines.specs.Said.{verb_in}
use Rattle.words.specs.Words.{words}
use Rattle.lines.specs.declared.verb.Verb.{Verb}
use Rattle.lines.specs.declared.verb.Verb.TheVariants as verbs
use Rattle.streams.specs.Counted.{IsAtMostCounted, IsCounted}
use Rattle.ask.specs.Asking.{IsRequest, counted_by}
use Rattle.ask.specs.Passing.{EndsCut, EndsWithin, bye}
use Rattle.words.specs.TextLines.{lines_of}
use Rattle.streams.specs.Refusals.{memory_text, net_text}

-- the command is a dump
abbrev pub is_dump : Option Verb → Bool
is_dump (Some verbs.Dump) = true
is_dump other = false

-- the first of a request's lines asks for bytes after its reply
abbrev pub asks_for_bytes : List (List ℕ) → Bool
asks_for_bytes [] = false
asks_for_bytes (line ∷ others) = is_dump (verb_in line)

-- how many bytes `OK` and one number count; other words count none
abbrev pub count_told : List (List ℕ) → ℕ
count_told [] = 0
count_told (word ∷ others) =
    if bytes_eq word (codes "OK") then unwrap_or (only_number (numbers others)) 0 else 0

-- how many bytes follow a line of a reply, whether bytes were asked for or not
abbrev pub bytes_promised : Bool → List ℕ → ℕ
bytes_promised false line = 0
bytes_promised true line = count_told (words line)

-- how many bytes follow a line of the reply to a request
abbrev pub counted_for : List ℕ → List ℕ → ℕ
counted_for request = bytes_promised (asks_for_bytes (lines_of request))

-- a whole reply to a request: a line with its LF, and the bytes that it counts if asked for bytes
abbrev pub IsReplyTo : List ℕ → List ℕ → Type 0
IsReplyTo request = IsCounted (counted_for request)

-- a request and its reply
pub record Exchange : Type 0 where
  pub request : List ℕ
  pub reply : List ℕ

-- an exchange is a whole request with a whole reply to it
pub record IsExchange (e : Exchange) : Type 0 where
  pub request_is : IsRequest e.request
  pub reply_is : IsReplyTo e.request e.reply

-- the bytes of some exchanges' requests
abbrev pub requests_of : List Exchange → List ℕ
requests_of exchanges = concat (map (λ e. e.request) exchanges)

-- the bytes of some exchanges' replies
abbrev pub replies_of : List Exchange → List ℕ
replies_of exchanges = concat (map (λ e. e.reply) exchanges)

-- the requests left to read, those sent, the replies left to receive, and those printed
pub record Talk : Type 0 where
  pub unread : Option (List ℕ)
  pub sent : Option (List ℕ)
  pub unheard : Option (List ℕ)
  pub printed : Option (List ℕ)

-- the state of a conversation at its four ends
abbrev pub talk_at : Option (List ℕ) → Option (List ℕ) → Option (List ℕ) → Option (List ℕ) → Talk
talk_at unread sent unheard printed =
    record { unread = unread; sent = sent; unheard = unheard; printed = printed }

-- requests were read and sent, and their replies received and printed, all of them whole; none of
-- the replies ends the stream
pub record Exchanges (before after : Talk) : Type 0 where
  pub exchanges : List Exchange
  pub are : All IsExchange exchanges
  pub going : All (λ e. e.reply ≢ bye) exchanges
  pub read : Takes before.unread (requests_of exchanges) after.unread
  pub sent : Appends before.sent (requests_of exchanges) after.sent
  pub heard : Takes before.unheard (replies_of exchanges) after.unheard
  pub printed : Appends before.printed (replies_of exchanges) after.printed

-- exchanges, this many
pub record Rounds (count : ℕ) (before after : Talk) : Type 0 where
  pub all : Exchanges before after
  pub many : length all.exchanges ≡ count

-- a request or less was read, and none was sent
pub record IsCutReading (before after : Talk) : Type 0 where
  pub part : List ℕ
  pub most : IsAtMostCounted counted_by part
  pub read : Takes before.unread part after.unread
  pub sent : after.sent ≡ before.sent
  pub heard : after.unheard ≡ before.unheard
  pub printed : after.printed ≡ before.printed

-- a request was read, and at most a prefix of it was sent
pub record IsCutSending (before after : Talk) : Type 0 where
  pub request : List ℕ
  pub request_is : IsRequest request
  pub read : Takes before.unread request after.unread
  pub sent : AppendsFront before.sent request after.sent
  pub heard : after.unheard ≡ before.unheard
  pub printed : after.printed ≡ before.printed

-- a request was read and sent, and then a reply or less was received, but none was printed
pub record IsCutHearing (before after : Talk) : Type 0 where
  pub request : List ℕ
  pub part : List ℕ
  pub most : IsAtMostCounted (counted_for request) part
  pub request_is : IsRequest request
  pub read : Takes before.unread request after.unread
  pub sent : Appends before.sent request after.sent
  pub heard : Takes before.unheard part after.unheard
  pub printed : after.printed ≡ before.printed

-- a request was read and sent, its reply received, and at most a prefix of the reply printed
pub record IsCutPrinting (before after : Talk) : Type 0 where
  pub exchange : Exchange
  pub whole : IsExchange exchange
  pub read : Takes before.unread exchange.request after.unread
  pub sent : Appends before.sent exchange.request after.sent
  pub heard : Takes before.unheard exchange.reply after.unheard
  pub printed : AppendsFront before.printed exchange.reply after.printed

-- an exchange was cut off at one of its four steps, and the later ones weren't started
abbrev pub IsCutOff : Talk → Talk → Type 0
IsCutOff before after =
    IsCutReading before after
    ⊎ (IsCutSending before after ⊎ (IsCutHearing before after ⊎ IsCutPrinting before after))

-- one last exchange, whose reply ends the stream
pub record SaysBye (before after : Talk) : Type 0 where
  pub exchange : Exchange
  pub whole : IsExchange exchange
  pub reply_is : exchange.reply ≡ bye
  pub read : Takes before.unread exchange.request after.unread
  pub sent : Appends before.sent exchange.request after.sent
  pub heard : Takes before.unheard exchange.reply after.unheard
  pub printed : Appends before.printed exchange.reply after.printed

-- the reader ends with less than a request, of which nothing was sent
pub record RunsOut (before after : Talk) : Type 0 where
  pub ended : EndsCut before.unread after.unread
  pub sent : after.sent ≡ before.sent
  pub heard : after.unheard ≡ before.unheard
  pub printed : after.printed ≡ before.printed

-- exchanges, up to one whose reply ends the stream or to the end of the reader
pub record Completes (before after : Talk) : Type 0 where
  pub between : Talk
  pub exchanges : Exchanges before between
  pub over : SaysBye between after ⊎ RunsOut between after

-- exchanges, and then one that was cut off or whose reply ends the stream
pub record Breaks (before after : Talk) : Type 0 where
  pub between : Talk
  pub exchanges : Exchanges before between
  pub cut : IsCutOff between after

-- a request was read and sent, and the bytes to receive ended within the reply to it
pub record GoesUnanswered (before after : Talk) : Type 0 where
  pub request : List ℕ
  pub request_is : IsRequest request
  pub read : Takes before.unread request after.unread
  pub sent : Appends before.sent request after.sent
  pub heard : EndsWithin (counted_for request) before.unheard after.unheard

-- exchanges, and then a request that goes unanswered
pub record LacksReply (before after : Talk) : Type 0 where
  pub between : Talk
  pub exchanges : Exchanges before between
  pub unanswered : GoesUnanswered between after

-- as many exchanges as a run has at most, 2^64 - 1, and then nothing is read, sent or received
pub record HasAllRounds (before after : Talk) : Type 0 where
  pub between : Talk
  pub count : ℕ
  pub rounds : Rounds count before between
  pub most : count + 1 ≡ 2 ^ 64
  pub read : after.unread ≡ between.unread
  pub sent : after.sent ≡ between.sent
  pub heard : after.unheard ≡ between.unheard

-- one more call on a connection has failed: a read, or a write
abbrev pub CallFails : (reads reads_after writes writes_after : ℕ) → Type 0
CallFails reads reads_after writes writes_after =
    (reads_after ≡ reads + 1) ⊎ (writes_after ≡ writes + 1)

-- why a run says that the network is at fault: a call failed, the server ended within a reply that
-- was due, or no more exchanges are had
abbrev pub IsNetFault : Type 0 → Talk → Talk → Type 0
IsNetFault failed before after = failed ⊎ (LacksReply before after ⊎ HasAllRounds before after)

-- a run of `ask` prints nothing at its end, or why it ended
abbrev pub IsLastLine : List ℕ → Type 0
IsLastLine line = (line ≡ []) ⊎ ((line ≡ net_text) ⊎ (line ≡ memory_text))

-- exchanges, then one that was cut off, and then at most a prefix of the line that says why
pub record Converses (before after : Talk) : Type 0 where
  pub cut : Talk
  pub line : List ℕ
  pub breaks : Breaks before cut
  pub line_is : IsLastLine line
  pub told : AppendsFront cut.printed line after.printed
  pub unread : after.unread ≡ cut.unread
  pub sent : after.sent ≡ cut.sent
  pub unheard : after.unheard ≡ cut.unheard
