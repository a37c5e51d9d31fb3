-- A stream that is served: how its exchanges and its end come about.
use Rattle.std.proofs.Common.{◌≡◌, ◌≢◌, ℕ, ◌+◌, ◌≤◌, List, [], ◌∷◌, ◌++◌, Option, Some, None}
use Rattle.std.proofs.Common.{Result, Ok, is_some, refl, sym, ap, ◌∙◌, arith, append_assoc, inl}
use Rattle.std.proofs.Common.{inr}
use Rattle.std.specs.Prelude.{◌<◌, IsOkAnd, length}
use Rattle.std.specs.List.{flat_map}
use Rattle.std.proofs.lemmas.List.{append-nil}
use Rattle.std.proofs.lemmas.Grind.{flat_map-append}
use Rattle.metric.specs.Stream.{Appends, Takes}
use Rattle.metric.proofs.Appending.{Appends-nothing, Appends-more}
use Rattle.metric.proofs.Taking.{Takes-behind, Takes-nothing}
use Rattle.metric.specs.declared.refusal.Refusal.{Refusal}
use Rattle.metric.specs.declared.refusal.Refusal.TheVariants.{Memory, NotPinned}
use Rattle.metric.specs.declared.refusal.Refusal.TheVariants as refusals
use Rattle.shelf.specs.Store.{StoreId}
use Rattle.lines.specs.declared.answer.Answer.{Answer}
use Rattle.lines.specs.declared.answer.Answer.TheVariants as answers
use Rattle.line_io.specs.declared.end.End.{End}
use Rattle.line_io.specs.declared.end.End.TheVariants as ends
use Rattle.lines.specs.Asked.{QueryView, HasPoints}
use Rattle.lines.specs.Said.{LineView, SaysPoints}
use Rattle.lines.specs.Said as saids
use Rattle.lines.specs.Replies.{reply_line}
use Rattle.proto.specs.Callers.{CallerValue, IsRefusedAs}
use Rattle.proto.specs.Exchanges.{Exchange, IsExchange, IsLineAnswer, IsQueryAnswer, line_said}
use Rattle.proto.specs.Exchanges.{body_of, counts, with_pin}
use Rattle.proto.specs.Served.{AreExchanges, HasHeard, HasMoved, IsHeard, IsPartOfExchange, IsQuit}
use Rattle.proto.specs.Served.{IsSaid, IsServed, IsShort, IsFarewell, IsLeft, IsTail, IsTooMuch}
use Rattle.proto.specs.Served.{IsUnsaid, IsWritten, bytes_of, text_of}
use Rattle.line_io.specs.Saying.{HasSaid}
use Rattle.line_io.specs.Lines.{IsCutOff, IsLineStop}
use Rattle.line_io.specs.Counted.{IsCutShort}
use Rattle.metric.specs.Wire.{Wire}
use Rattle.line_io.specs.Wire.{HasNotWritten, HasRead, HasWritten}
use Rattle.proto.proofs.Speaking.{IsNoDump, plain_body}
use Rattle.line_io.proofs.Wires.{nothing_read, read_on}

-- exchanges, and more after them, are exchanges one after another
exchanges_on : (store : StoreId) (xs ys : List Exchange) (a b c : CallerValue)
    → AreExchanges store xs a b → AreExchanges store ys b c → AreExchanges store (xs ++ ys) a c
exchanges_on store [] ys a b c same rest = rw same at rest
exchanges_on store (x ∷ xs) ys a b c (between, first, others) rest =
    (between, first, exchanges_on store xs ys between b c others rest)

-- texts of two lists of exchanges, with a rest after the second, make the texts of both lists with
-- that rest
joined : (f : Exchange → List ℕ) (xs ys : List Exchange) (rest whole more : List ℕ)
    → whole ≡ flat_map f xs ++ [] → more ≡ flat_map f ys ++ rest
    → whole ++ more ≡ flat_map f (xs ++ ys) ++ rest
joined f xs ys rest whole more e d =
    simp (e, d, append-nil, flat_map-append, append_assoc)

-- what was written in two parts, one after the other, is written as one
written_behind : (end : Option End) (before between after : Option (List ℕ)) (a b unsaid : List ℕ)
    → Appends before a between → IsWritten end between b unsaid after
    → IsWritten end before (a ++ b) unsaid after
written_behind (Some ends.WriteFailed) before between after a b unsaid one (middle, two, front) =
    (middle, Appends-more before between middle a b one two, front)
written_behind end before between after a b unsaid one two =
    Appends-more before between after a b one two

-- an unsaid text stays one where more exchanges come before it
unsaid_behind : (end : Option End) (xs ys : List Exchange) (tail last unsaid : List ℕ)
    → IsUnsaid end ys tail last unsaid → IsUnsaid end (xs ++ ys) tail last unsaid
unsaid_behind (Some ends.WriteFailed) xs ys tail last unsaid (inl (before, x, all, none, is)) =
    inl (xs ++ before, x, rw (all, append_assoc) refl, none, is)
unsaid_behind (Some ends.WriteFailed) xs ys tail last unsaid (inr farewell) = inr farewell
unsaid_behind end xs ys tail last unsaid none = none

-- what a stream read and wrote, and then read and wrote more, it read and wrote together
moved_on : (end : Option End) (old between new : Wire) (b1 t1 u1 b2 t2 u2 : List ℕ)
    → HasMoved None old b1 t1 u1 between → HasMoved end between b2 t2 u2 new
    → HasMoved end old (b1 ++ b2) (t1 ++ t2) u2 new
moved_on end old between new b1 t1 u1 b2 t2 u2 first next = record {
  taken = Takes-behind _ _ _ _ _ first.taken next.taken;
  reached = next.reached;
  written = written_behind end _ _ _ t1 t2 u2 first.written next.written;
  reads = omega arith;
  writes = omega arith;
}

-- a stream was served where it has read these exchanges and a tail, and said what belongs to them
served_by : (store : StoreId) (end : Option End) (w1 w2 : Wire) (xs : List Exchange)
    (tail last bytes said unsaid : List ℕ) (a b c : CallerValue) → AreExchanges store xs a b
    → IsLeft end b c → IsTail end tail last → bytes ≡ flat_map bytes_of xs ++ tail
    → said ++ unsaid ≡ flat_map text_of xs ++ last → IsUnsaid end xs tail last unsaid
    → HasMoved end w1 bytes said unsaid w2 → IsServed store end w1 a w2 c
served_by store end w1 w2 xs tail last bytes said unsaid a b c run left ends is texts none moved =
    record {
      bytes = bytes;
      said = said;
      unsaid = unsaid;
      served = record {
        exchanges = xs;
        tail = tail;
        last = last;
        behind = b;
        run = run;
        left = left;
        ends = ends;
        bytes_are = is;
        texts_are = texts;
        unsaid_is = none;
      };
      moved = moved;
    }

-- a stream on which nothing was done was served so far
pub serves_nothing : (store : StoreId) (w : Wire) (a : CallerValue) → IsServed store None w a w a
serves_nothing store w a =
    served_by store None w w [] [] [] [] [] [] a a a refl refl (refl, refl) refl refl refl record {
      taken = Takes-nothing w.rest;
      reached = tt;
      written = Appends-nothing w.held;
      reads = omega arith;
      writes = omega arith;
    }

-- a stream that was served up to a place, and then from there on, was served in all
pub serves_on : (store : StoreId) (end : Option End) (w1 w2 w3 : Wire) (a b c : CallerValue)
    → IsServed store None w1 a w2 b → IsServed store end w2 b w3 c → IsServed store end w1 a w3 c
serves_on store end w1 w2 w3 a b c first next =
    let s = first.served in
    let r = next.served in
    let whole = rw (s.unsaid_is, append-nil first.said) at s.texts_are in
    served_by store end w1 w3 (s.exchanges ++ r.exchanges) r.tail r.last (first.bytes ++ next.bytes)
    (first.said ++ next.said) next.unsaid a r.behind c
    (exchanges_on store s.exchanges r.exchanges a b r.behind (rw (← s.left) at s.run) r.run)
    r.left r.ends
    (joined bytes_of s.exchanges r.exchanges r.tail _ _ (rw s.ends.0 at s.bytes_are) r.bytes_are)
    (rw append_assoc (joined text_of s.exchanges r.exchanges r.last _ (next.said ++ next.unsaid)
    (rw s.ends.1 at whole) r.texts_are))
    (unsaid_behind end s.exchanges r.exchanges r.tail r.last next.unsaid r.unsaid_is)
    (moved_on end w1 w2 w3 _ _ _ _ _ _ first.moved next.moved)

-- where bytes were read, and then a text's write failed, nothing is said, and the text is left
-- unsaid
unsaid_moved : (w1 w2 w3 : Wire) (bytes text : List ℕ) → HasRead 0 w1 bytes w2
    → HasNotWritten w2 text w3 → HasMoved (Some ends.WriteFailed) w1 bytes [] text w3
unsaid_moved w1 w2 w3 bytes text read written = record {
  taken = rw written.rest read.taken;
  reached = tt;
  written = (w1.held, Appends-nothing w1.held, rw read.held at written.front);
  reads = written.reads ∙ read.reads;
  writes = omega arith;
}

-- nothing is written where this many reads failed after the last bytes
silent : (end : End) (faults : ℕ) (w1 w2 : Wire) (bytes : List ℕ) → HasRead faults w1 bytes w2
    → Appends w1.held [] w2.held × (w2.failed_writes ≡ w1.failed_writes + 0)
silent end faults w1 w2 bytes read = (rw read.held (Appends-nothing w1.held), omega arith)

-- where the input is cut off in an exchange, the stream ends, and the part of it that was read is
-- the tail
cut_ended : (store : StoreId) (end : End) (w1 w2 : Wire) (bytes : List ℕ) (a : CallerValue)
    → IsPartOfExchange bytes → IsCutOff end w1 bytes w2 → IsServed store (Some end) w1 a w2 a
cut_ended store end w1 w2 bytes a part (inl (is, read, out)) =
    let m = silent ends.EndOfInput 0 w1 w2 bytes read in
    rw is (served_by store (Some ends.EndOfInput) w1 w2 [] bytes [] bytes [] [] a a a refl refl
    (part, refl) refl refl refl
    record { taken = read.taken; reached = out; written = m.0; reads = read.reads; writes = m.1 })
cut_ended store end w1 w2 bytes a part (inr (is, read)) =
    let m = silent ends.ReadFailed 1 w1 w2 bytes read in
    rw is (served_by store (Some ends.ReadFailed) w1 w2 [] bytes [] bytes [] [] a a a refl refl
    (part, refl) refl refl refl
    record { taken = read.taken; reached = tt; written = m.0; reads = read.reads; writes = m.1 })

-- where the input is cut off after more bytes, it is cut off after all of them
cut_on : (end : End) (w1 w2 w3 : Wire) (a b : List ℕ) → HasRead 0 w1 a w2 → IsCutOff end w2 b w3
    → IsCutOff end w1 (a ++ b) w3
cut_on end w1 w2 w3 a b first (inl (is, read, out)) =
    inl (is, read_on 0 w1 w2 w3 a b first read, out)
cut_on end w1 w2 w3 a b first (inr (is, read)) = inr (is, read_on 1 w1 w2 w3 a b first read)

-- a line that wasn't read to its LF, and isn't too long, ends the stream
pub line_stopped : (store : StoreId) (end : End) (w1 w2 : Wire) (bytes : List ℕ) (a : CallerValue)
    → end ≢ ends.LineTooLong → IsLineStop end w1 bytes w2 → IsServed store (Some end) w1 a w2 a
line_stopped store end w1 w2 bytes a other (inl (is, long, read)) = absurd (other is)
line_stopped store end w1 w2 bytes a other (inr (line, cut)) =
    cut_ended store end w1 w2 bytes a (inl line) cut

-- where bytes were read and then a text was written, these alone were taken and written, and no
-- call failed
said_moved : (w1 w2 w3 : Wire) (bytes text : List ℕ) → HasRead 0 w1 bytes w2 → HasWritten w2 text w3
    → Takes w1.rest bytes w3.rest × Appends w1.held text w3.held
    × (w3.failed_reads ≡ w1.failed_reads + 0) × (w3.failed_writes ≡ w1.failed_writes + 0)
said_moved w1 w2 w3 bytes text read written = (
  rw written.rest read.taken,
  rw read.held at written.appended,
  written.reads ∙ read.reads,
  omega arith,
)

-- a last text ends the stream as planned, or by its failed write
farewell : (store : StoreId) (planned end : End) (w1 w2 w3 : Wire) (tail last : List ℕ)
    (a b : CallerValue) → b.seat ≡ a.seat → IsTail (Some planned) tail last
    → IsUnsaid (Some planned) [] tail last []
    → (Takes w1.rest tail w3.rest × Appends w1.held last w3.held
    × (w3.failed_reads ≡ w1.failed_reads + 0) × (w3.failed_writes ≡ w1.failed_writes + 0)
    → HasMoved (Some planned) w1 tail last [] w3)
    → IsFarewell tail last → HasRead 0 w1 tail w2 → HasSaid planned end w2 last w3
    → IsServed store (Some end) w1 a w3 b
farewell store planned end w1 w2 w3 tail last a b same is none moved text read (inl (e, written)) =
    rw e (served_by store (Some planned) w1 w3 [] tail last tail last [] a a b refl same is refl
    (append-nil last) none (moved (said_moved w1 w2 w3 tail last read written)))
farewell store planned end w1 w2 w3 tail last a b same is none moved text read (inr (e, written)) =
    rw e (served_by store (Some ends.WriteFailed) w1 w3 [] tail last tail [] last a a b refl same
    (inr text) refl refl (inr (text, refl)) (unsaid_moved w1 w2 w3 tail last read written))

-- a line that is too long ends the stream with its refusal
pub too_long : (store : StoreId) (end : End) (w1 w2 w3 : Wire) (bytes : List ℕ) (a : CallerValue)
    → IsLineStop ends.LineTooLong w1 bytes w2
    → HasSaid ends.LineTooLong end w2 (reply_line (answers.Refused refusals.LineTooLong)) w3
    → IsServed store (Some end) w1 a w3 a
too_long store end w1 w2 w3 bytes a (inl (is, long, read)) said =
    farewell store ends.LineTooLong end w1 w2 w3 bytes _ a a refl (long, refl) refl
    (λ m. record { taken = m.0; reached = tt; written = m.1; reads = m.2; writes = m.3 })
    (inr (inl (long, refl))) read said
too_long store end w1 w2 w3 bytes a (inr (line, inl cut)) said =
    let never : ends.LineTooLong ≡ ends.EndOfInput = cut.0 in absurd (cc)
too_long store end w1 w2 w3 bytes a (inr (line, inr cut)) said =
    let never : ends.LineTooLong ≡ ends.ReadFailed = cut.0 in absurd (cc)

-- a line that has a query with points is one
asks_points : (said : Result LineView Refusal) → IsOkAnd said SaysPoints → (query : QueryView)
    × (said ≡ Ok (saids.asked query)) × HasPoints query
asks_points (Ok (saids.asked query)) points = (query, refl, points)
asks_points _ points = absurd points

-- what was heard counts as many bytes as the line
heard_counts : (said heard : Result LineView Refusal) → IsHeard said heard
    → counts heard ≡ counts said
heard_counts said heard (inl e) = ap counts e
heard_counts said heard (inr (e, points)) =
    let (query, is, has) = asks_points said points in rw (e, is) refl

-- a line that counts too many bytes ends the stream with its refusal
pub too_much : (store : StoreId) (end : End) (w1 w2 w3 : Wire) (heard : Result LineView Refusal)
    (a : CallerValue) → HasHeard w1 heard w2 → 17100000 < counts heard
    → HasSaid ends.TooMuchData end w2 (reply_line (answers.Refused refusals.TooMuchData)) w3
    → IsServed store (Some end) w1 a w3 a
too_much store end w1 w2 w3 heard a hears many said =
    let much : IsTooMuch (hears.line ++ 10 ∷ []) = record {
      line = hears.line;
      line_is = hears.line_is;
      bytes_are = refl;
      many = rw (heard_counts (line_said hears.line) heard hears.heard_is) at many;
    } in
    farewell store ends.TooMuchData end w1 w2 w3 _ _ a a refl (much, refl) refl
    (λ m. record { taken = m.0; reached = tt; written = m.1; reads = m.2; writes = m.3 })
    (inr (inr (much, refl))) hears.read said

-- where QUIT was heard, the line says QUIT
heard_quit : (said heard : Result LineView Refusal) → IsHeard said heard → heard ≡ Ok saids.quit
    → said ≡ Ok saids.quit
heard_quit said heard (inl e) quit = cc
heard_quit said heard (inr (e, points)) quit = absurd (cc)

-- QUIT ends the stream with its reply, where the pin was left before
pub quits : (store : StoreId) (end : End) (w1 w2 w3 : Wire) (a b : CallerValue) → b.seat ≡ a.seat
    → HasHeard w1 (Ok saids.quit) w2
    → HasSaid ends.Quit end w2 (reply_line answers.Bye) w3 → IsServed store (Some end) w1 a w3 b
quits store end w1 w2 w3 a b same hears said =
    let quit : IsQuit (hears.line ++ 10 ∷ []) =
    record {
      line = hears.line;
      line_is = hears.line_is;
      bytes_are = refl;
      quits = heard_quit (line_said hears.line) (Ok saids.quit) hears.heard_is refl;
    } in
    farewell store ends.Quit end w1 w2 w3 _ _ a b same (quit, refl) refl
    (λ m. record { taken = m.0; reached = tt; written = m.1; reads = m.2; writes = m.3 })
    (inl (quit, refl)) hears.read said

-- where the bytes that a line counts are cut off, the stream ends
pub counted_cut : (store : StoreId) (end : End) (w1 w2 w3 : Wire) (heard : Result LineView Refusal)
    (a : CallerValue) → HasHeard w1 heard w2
    → counts heard ≤ 17100000 → IsCutShort (counts heard) end w2 w3
    → IsServed store (Some end) w1 a w3 a
counted_cut store end w1 w2 w3 heard a hears most short =
    let all = heard_counts (line_said hears.line) heard hears.heard_is in
    let part : IsShort (hears.line ++ (10 ∷ short.bytes)) = record {
      line = hears.line;
      line_is = hears.line_is;
      most = rw all at most;
      counted = short.bytes;
      few = rw all at short.few;
      bytes_are = refl;
    } in
    cut_ended store end w1 w3 _ a (inr part) (rw append_assoc at
    (cut_on end w1 w2 w3 (hears.line ++ 10 ∷ []) short.bytes hears.read short.cut))

-- out of memory for the points of a query is answered as the query may be
points_refused : (store : StoreId) (query : QueryView) (pin : Option ℕ) (old : CallerValue)
    (answer : Answer) (new : CallerValue) → old.pin ≡ pin → SaysPoints (saids.asked query)
    → IsRefusedAs (with_pin (is_some pin) Memory) old answer new
    → (elim pin as (λ _. Type 0) [
      | None ↦ IsRefusedAs NotPinned old answer new
      | Some version ↦ IsQueryAnswer store query old answer new
    ])
points_refused store query None old answer new is points refused = refused
points_refused store query (Some v) old answer new is points refused =
    record { answered = inr (points, refused.answer_is); same = refused.same }

-- an answer to what was heard is an answer to what the line says
heard_answer : (store : StoreId) (said heard : Result LineView Refusal) (bytes : List ℕ)
    (old : CallerValue) (answer : Answer) (new : CallerValue) → IsHeard said heard
    → IsLineAnswer store heard bytes old answer new → IsLineAnswer store said bytes old answer new
heard_answer store said heard bytes old answer new (inl e) answered = rw e at answered
heard_answer store said heard bytes old answer new (inr (e, points)) answered =
    let (query, is, has) = asks_points said points in
    rw is (points_refused store query old.pin old answer new refl has (rw e at answered))

-- a text is itself with nothing after it, twice
one : (t : List ℕ) → t ≡ (t ++ []) ++ []
one t = sym (append-nil (t ++ []) ∙ append-nil t)

-- an exchange whose bytes were read, and whose text was written or not, is served
exchanged_by : (store : StoreId) (end : Option End) (w1 w2 w3 : Wire) (x : Exchange)
    (a b : CallerValue) → IsExchange store x a b → HasRead 0 w1 (bytes_of x) w2
    → IsSaid end w2 (text_of x) w3 → IsServed store end w1 a w3 b
exchanged_by store None w1 w2 w3 x a b is read written =
    let m = said_moved w1 w2 w3 (bytes_of x) (text_of x) read written in
    served_by store None w1 w3 (x ∷ []) [] [] (bytes_of x) (text_of x) [] a b b (b, is, refl) refl
    (refl, refl) (one (bytes_of x)) (sym (append-nil (text_of x ++ []))) refl
    record { taken = m.0; reached = tt; written = m.1; reads = m.2; writes = m.3 }
exchanged_by store (Some end) w1 w2 w3 x a b is read (failed, written) =
    rw failed (served_by store (Some ends.WriteFailed) w1 w3 (x ∷ []) [] [] (bytes_of x) []
    (text_of x) a b b (b, is, refl) refl (inl (refl, refl)) (one (bytes_of x)) (one (text_of x))
    (inl ([], x, refl, refl, refl)) (unsaid_moved w1 w2 w3 (bytes_of x) (text_of x) read written))

-- a line that was heard is served where its counted bytes were read, it was answered, and its
-- answer was said
pub exchanged : (store : StoreId) (end : Option End) (w1 w2 w3 w4 : Wire)
    (heard : Result LineView Refusal) (counted : List ℕ) (answer : Answer) (body : List ℕ)
    (a b : CallerValue)
    → HasHeard w1 heard w2 → length counted ≡ counts heard → counts heard ≤ 17100000
    → HasRead 0 w2 counted w3 → IsLineAnswer store heard counted a answer b
    → body ≡ body_of store a answer
    → IsSaid end w3 (reply_line answer ++ body) w4 → IsServed store end w1 a w4 b
exchanged store end w1 w2 w3 w4 heard counted answer body a b hears as_many few read answered
    body_is said =
    let all = heard_counts (line_said hears.line) heard hears.heard_is in
    exchanged_by store end w1 w3 w4
    record { line = hears.line; counted = counted; answer = answer; body = body } a b
    record {
      line = hears.line_is;
      counted = as_many ∙ all;
      few = rw all at few;
      answer = heard_answer store (line_said hears.line) heard counted a answer b hears.heard_is
          answered;
      body = body_is;
    }
    (rw append_assoc at (read_on 0 w1 w2 w3 (hears.line ++ 10 ∷ []) counted hears.read read))
    said

-- nothing follows the reply line of a line that was heard and isn't DUMP
pub replied : (store : StoreId) (end : Option End) (w1 w2 w3 w4 : Wire)
    (heard : Result LineView Refusal) (counted : List ℕ) (answer : Answer) (a b : CallerValue)
    → HasHeard w1 heard w2 → IsNoDump heard → length counted ≡ counts heard
    → counts heard ≤ 17100000 → HasRead 0 w2 counted w3
    → IsLineAnswer store heard counted a answer b
    → IsSaid end w3 (reply_line answer) w4 → IsServed store end w1 a w4 b
replied store end w1 w2 w3 w4 heard counted answer a b hears other as_many few read answered said =
    exchanged store end w1 w2 w3 w4 heard counted answer [] a b hears as_many few read answered
    (plain_body store heard counted a b answer other answered)
    (rw (append-nil (reply_line answer)) said)

-- a line that was heard, isn't DUMP and counts no bytes is served where it was answered, and its
-- answer was said
pub answered_alone : (store : StoreId) (end : Option End) (w1 w2 w3 : Wire)
    (heard : Result LineView Refusal) (answer : Answer) (a b : CallerValue)
    → HasHeard w1 heard w2 → IsNoDump heard → counts heard ≡ 0
    → IsLineAnswer store heard [] a answer b → IsSaid end w2 (reply_line answer) w3
    → IsServed store end w1 a w3 b
answered_alone store end w1 w2 w3 heard answer a b hears other none answered said =
    replied store end w1 w2 w2 w3 heard [] answer a b hears other (sym none) (omega (arith, none))
    (nothing_read w2) answered said

-- a stream that has ended was served so whatever pin its caller then has
pub serves_left : (store : StoreId) (end : End) (w1 w2 : Wire) (a b c : CallerValue)
    → c.seat ≡ b.seat → IsServed store (Some end) w1 a w2 b → IsServed store (Some end) w1 a w2 c
serves_left store end w1 w2 a b c same served =
    let s = served.served in
    served_by store (Some end) w1 w2 s.exchanges s.tail s.last _ _ _ a s.behind c s.run
    (same ∙ s.left) s.ends s.bytes_are s.texts_are s.unsaid_is served.moved
