-- A dump that is written in pieces.
use Rattle.std.proofs.Common.{◌≡◌, ℕ, ◌-◌, List, [], Option, Some, None, Result, Ok, Err, refl}
use Rattle.std.proofs.Common.{arith}
use Rattle.metric.specs.declared.refusal.Refusal.TheVariants.{NotPinned}
use Rattle.lines.specs.Said as saids
use Rattle.metric.specs.declared.stream.WriteFault.{WriteFault}
use Rattle.shelf.specs.Store.{StoreId}
use Rattle.shelf.specs.Roles.{ReaderView}
use Rattle.lines.specs.declared.answer.Answer.{Answer}
use Rattle.lines.specs.declared.answer.Answer.TheVariants as answers
use Rattle.line_io.specs.declared.end.End.{End}
use Rattle.lines.specs.Replies.{reply_line}
use Rattle.proto.specs.Callers.{CallerValue, bitmap_held}
use Rattle.proto.specs.Exchanges.{body_of}
use Rattle.line_io.specs.Saying.{IsDump}
use Rattle.proto.specs.Served.{HasHeard, IsDumpSaid, IsSaid, IsServed, end_after}
use Rattle.metric.specs.Wire.{Wire}
use Rattle.line_io.specs.Wire.{HasPut}
use Rattle.proto.proofs.Serving.{exchanged}
use Rattle.line_io.proofs.Wires.{nothing_read, put_alone}

-- a text that was written, or whose write failed, is said with the end that its write comes to
said_after : (written : Result (Unit {0}) WriteFault) (end : Option End) (old new : Wire)
    (text : List ℕ) → end ≡ end_after written → HasPut written old text new
    → IsSaid end old text new
said_after (Ok done) end old new text is put = rw is put
said_after (Err fault) end old new text is put = rw is (refl, put)

-- what follows the reply line of a dump is the image of the version that is pinned
dump_body : (store : StoreId) (old : CallerValue) (answer : Answer) (body : List ℕ)
    → IsDump (bitmap_held store old) answer body → body ≡ body_of store old answer
dump_body store old (answers.Dumped n) body is = is.0
dump_body store old answer body is = is.1

-- what DUMP is answered and said, with a pin or without one, is an answer to its line
pub dumped : (store : StoreId) (written : Result (Unit {0}) WriteFault) (end : Option End)
    (before wire wire_after : Wire) (seat : ReaderView) (pin : Option ℕ)
    → HasHeard before (Ok saids.dump) wire → end ≡ end_after written
    → IsDumpSaid store written wire (record { seat = seat; pin = pin }) wire_after
    → IsServed store end before (record { seat = seat; pin = pin }) wire_after
    (record { seat = seat; pin = pin })
dumped store written end before wire wire_after seat None heard is put =
    exchanged store end before wire wire wire_after (Ok saids.dump) []
    (answers.Refused NotPinned) [] _ _ heard refl (omega arith)
    (nothing_read wire) record { answer_is = refl; same = refl } refl
    (said_after written end wire wire_after _ is
    (put_alone written wire wire_after (reply_line (answers.Refused NotPinned)) put))
dumped store written end before wire wire_after seat (Some version) heard is said =
    let old : CallerValue = record { seat = seat; pin = Some version } in
    let body = dump_body store old said.answer said.body said.is_dump in
    exchanged store end before wire wire wire_after
    (Ok saids.dump) [] said.answer said.body old old heard refl (omega arith) (nothing_read wire)
    record { answered = rw body at said.is_dump; same = refl } body
    (said_after written end wire wire_after _ is said.put)
