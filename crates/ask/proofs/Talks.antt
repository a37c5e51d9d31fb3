-- Exchanges of `ask`, one after another, and one that is cut off.
use Rattle.std.proofs.Common.{◌≡◌, ◌≢◌, ℕ, Bool, true, false, List, [], ◌∷◌, ◌++◌, inl, inr, refl}
use Rattle.std.proofs.Common.{◌+◌, arith, length-append, sym, ap, subst, ◌∙◌}
use Rattle.std.specs.Prelude.{◌⊎◌, bytes_eq, map}
use Rattle.std.specs.List.{concat}
use Rattle.std.proofs.lemmas.List.{append-nil, map-append}
use Rattle.std.proofs.lemmas.List.Elements.{All-append, All-cons, All-nil}
use Rattle.std.proofs.lemmas.List.Folds.{concat-append}
use Rattle.std.proofs.lemmas.Slice.Eq.{bytes_eq-Decides}
use Rattle.metric.specs.Stream.{Appends, AppendsFront, Takes}
use Rattle.metric.proofs.Appending.{Appends-more, Appends-nothing, AppendsFront-whole}
use Rattle.metric.proofs.Taking.{Takes-nothing, Takes-behind}
use Rattle.ask.specs.Asking.{IsRequest, counted_by}
use Rattle.ask.specs.Talking.{Breaks, Completes, Converses, Exchange, Exchanges, IsCutOff}
use Rattle.ask.specs.Talking.{IsExchange, IsLastLine, IsReplyTo, Rounds, RunsOut, SaysBye, Talk}
use Rattle.ask.specs.Talking.{counted_for}
use Rattle.streams.specs.Gathered.{TakesAtMost}
use Rattle.ask.specs.Passing.{bye, stop_text}
use Rattle.ask.specs.declared.ask.Stop.{Stop}
use Rattle.ask.specs.declared.ask.Stop.TheVariants as stops

-- where nothing was done, no exchange was
pub Exchanges-nothing : (talk : Talk) → Exchanges talk talk
Exchanges-nothing talk = record {
  exchanges = [];
  are = All-nil IsExchange;
  going = All-nil (λ (e : Exchange). e.reply ≢ bye);
  read = Takes-nothing talk.unread;
  sent = Appends-nothing talk.sent;
  heard = Takes-nothing talk.unheard;
  printed = Appends-nothing talk.printed;
}

-- a request that was read and sent, and its reply, which was received and printed, are one exchange
pub Rounds-one : (before after : Talk) (request reply : List ℕ) → IsRequest request
    → IsReplyTo request reply → reply ≢ bye → Takes before.unread request after.unread
    → Appends before.sent request after.sent
    → Takes before.unheard reply after.unheard → Appends before.printed reply after.printed
    → Rounds 1 before after
Rounds-one before after request reply request_is reply_is other read sent heard printed = record {
  all = record {
    exchanges = record { request = request; reply = reply } ∷ [];
    are = All-cons IsExchange record { request = request; reply = reply } []
        record { request_is = request_is; reply_is = reply_is } (All-nil IsExchange);
    going = All-cons (λ (e : Exchange). e.reply ≢ bye) record { request = request; reply = reply }
        [] other (All-nil (λ (e : Exchange). e.reply ≢ bye));
    read = rw (append-nil request) read;
    sent = rw (append-nil request) sent;
    heard = rw (append-nil reply) heard;
    printed = rw (append-nil reply) printed;
  };
  many = refl;
}

-- the bytes of two lists of exchanges are those of both lists, one after the other
bytes-append : (part : Exchange → List ℕ) (one two : List Exchange)
    → concat (map part (one ++ two)) ≡ concat (map part one) ++ concat (map part two)
bytes-append part one two =
    ap concat (map-append part one two) ∙ concat-append (map part one) (map part two)

-- exchanges, and then more of them, are exchanges
pub Exchanges-both : (before between after : Talk) → Exchanges before between
    → Exchanges between after → Exchanges before after
Exchanges-both before between after one two =
    let requests = sym (bytes-append (λ e. e.request) one.exchanges two.exchanges) in
    let replies = sym (bytes-append (λ e. e.reply) one.exchanges two.exchanges) in
    record {
      exchanges = one.exchanges ++ two.exchanges;
      are = All-append IsExchange one.exchanges two.exchanges one.are two.are;
      going = All-append (λ (e : Exchange). e.reply ≢ bye) one.exchanges two.exchanges one.going
          two.going;
      read = subst (λ (t : List ℕ). Takes before.unread t after.unread) requests
          (Takes-behind before.unread between.unread after.unread _ _ one.read two.read);
      sent = subst (λ (t : List ℕ). Appends before.sent t after.sent) requests
          (Appends-more before.sent between.sent after.sent _ _ one.sent two.sent);
      heard = subst (λ (t : List ℕ). Takes before.unheard t after.unheard) replies
          (Takes-behind before.unheard between.unheard after.unheard _ _ one.heard two.heard);
      printed = subst (λ (t : List ℕ). Appends before.printed t after.printed) replies
          (Appends-more before.printed between.printed after.printed _ _ one.printed two.printed);
    }

-- no exchanges are none
pub Rounds-none : (talk : Talk) → Rounds 0 talk talk
unfolding Exchanges-nothing
Rounds-none talk = record { all = Exchanges-nothing talk; many = refl }

-- a list of exchanges, and then one, are one more
pub Rounds-more : (count : ℕ) (before between after : Talk) → Rounds count before between
    → Rounds 1 between after → Rounds (count + 1) before after
unfolding Exchanges-both
Rounds-more count before between after one two =
    let size = length-append one.all.exchanges two.all.exchanges in
    let first = one.many in
    let second = two.many in
    record {
      all = Exchanges-both before between after one.all two.all;
      many = omega (arith, size, first, second);
    }

-- exchanges, and then some that end with one that is cut off, are exchanges that end so
pub Breaks-behind : (before between after : Talk) → Exchanges before between → Breaks between after
    → Breaks before after
Breaks-behind before between after one two = record {
  between = two.between;
  exchanges = Exchanges-both before between two.between one two.exchanges;
  cut = two.cut;
}

-- where one exchange was begun and cut off, no other was
pub Breaks-first : (before after : Talk) → IsCutOff before after → Breaks before after
Breaks-first before after cut =
    record { between = before; exchanges = Exchanges-nothing before; cut = cut }

-- after whole exchanges, the next one was cut off before anything of it was read
pub Breaks-none : (before after : Talk) → Exchanges before after → Breaks before after
Breaks-none before after all = record {
  between = after;
  exchanges = all;
  cut = inl record {
    part = [];
    most = inr (inl (All-nil (λ (b : ℕ). b ≢ 10)));
    read = Takes-nothing after.unread;
    sent = refl;
    heard = refl;
    printed = refl;
  };
}

-- an exchange whose request wasn't sent whole, or whose reply wasn't received whole, was cut off so
pub cut_off_wire : (before after : Talk) (request : List ℕ) → IsRequest request
    → Takes before.unread request after.unread → AppendsFront before.sent request after.sent
    → TakesAtMost (counted_for request) before.unheard after.unheard
    → (after.unheard ≡ before.unheard)
    ⊎ Appends before.sent request after.sent → after.printed ≡ before.printed
    → IsCutOff before after
cut_off_wire before after request is read front some (inl none) printed =
    inr (inl record {
      request = request;
      request_is = is;
      read = read;
      sent = front;
      heard = none;
      printed = printed;
    })
cut_off_wire before after request is read front some (inr sent) printed =
    inr (inr (inl record {
      request = request;
      part = some.bytes;
      most = some.most;
      request_is = is;
      read = read;
      sent = sent;
      heard = some.taken;
      printed = printed;
    }))

-- an exchange whose reply wasn't printed whole was cut off so
pub cut_off_printing : (before after : Talk) (request reply : List ℕ) → IsRequest request
    → IsReplyTo request reply → Takes before.unread request after.unread
    → Appends before.sent request after.sent
    → Takes before.unheard reply after.unheard → AppendsFront before.printed reply after.printed
    → IsCutOff before after
cut_off_printing before after request reply request_is reply_is read sent heard printed =
    inr (inr (inr record {
      exchange = record { request = request; reply = reply };
      whole = record { request_is = request_is; reply_is = reply_is };
      read = read;
      sent = sent;
      heard = heard;
      printed = printed;
    }))

-- an exchange whose request wasn't read whole, or not sent, was cut off so
pub cut_off_reading : (before after : Talk) → TakesAtMost counted_by before.unread after.unread
    → after.sent ≡ before.sent → after.unheard ≡ before.unheard → after.printed ≡ before.printed
    → IsCutOff before after
cut_off_reading before after part sent heard printed = inl record {
  part = part.bytes;
  most = part.most;
  read = part.taken;
  sent = sent;
  heard = heard;
  printed = printed;
}

-- a reply that was compared with BYE is another one if the comparison says so
pub no_bye : (reply : List ℕ) (said : Bool) → said ≡ false → said ≡ bytes_eq reply bye
    → reply ≢ bye
no_bye reply said other is =
    λ same. (let told = (bytes_eq-Decides reply bye).1 same in absurd cc)

-- an exchange whose reply is BYE completes a run
pub Completes-bye : (before after : Talk) (request reply : List ℕ) (said : Bool) → said ≡ true
    → said ≡ bytes_eq reply bye → IsRequest request → IsReplyTo request reply
    → Takes before.unread request after.unread → Appends before.sent request after.sent
    → Takes before.unheard reply after.unheard → Appends before.printed reply after.printed
    → Completes before after
Completes-bye before after request reply said so is request_is reply_is read sent heard printed =
    record {
      between = before;
      exchanges = Exchanges-nothing before;
      over = inl record {
        exchange = record { request = request; reply = reply };
        whole = record { request_is = request_is; reply_is = reply_is };
        reply_is = (bytes_eq-Decides reply bye).0 (sym is ∙ so);
        read = read;
        sent = sent;
        heard = heard;
        printed = printed;
      };
    }

-- the reader's end completes a run
pub Completes-ended : (before after : Talk) → RunsOut before after → Completes before after
Completes-ended before after ended =
    record { between = before; exchanges = Exchanges-nothing before; over = inr ended }

-- a run is complete by exchanges, and then some that complete it
pub Completes-behind : (before between after : Talk) → Exchanges before between
    → Completes between after → Completes before after
Completes-behind before between after one two = record {
  between = two.between;
  exchanges = Exchanges-both before between two.between one two.exchanges;
  over = two.over;
}

-- the last exchange of a run that is complete was printed whole, or cut off as it was read
last_cut : (before after : Talk) → SaysBye before after ⊎ RunsOut before after
    → IsCutOff before after
last_cut before after (inl last) = cut_off_printing before after last.exchange.request
    last.exchange.reply last.whole.request_is last.whole.reply_is last.read last.sent last.heard
    (AppendsFront-whole before.printed after.printed last.exchange.reply last.printed)
last_cut before after (inr last) = inl record {
  part = last.ended.tail;
  most = inr last.ended.cut;
  read = last.ended.taken;
  sent = last.sent;
  heard = last.heard;
  printed = last.printed;
}

-- a run that is complete sends no request before the reply to the last one was printed
pub Breaks-complete : (before after : Talk) → Completes before after → Breaks before after
Breaks-complete before after all = record {
  between = all.between;
  exchanges = all.exchanges;
  cut = last_cut all.between after all.over;
}

-- what a run of `ask` tells at its end is one of its lines, or nothing
last_line : (stop : Stop) → IsLastLine (stop_text stop)
last_line stops.Standard = inl refl
last_line stops.Net = inr (inl refl)
last_line (stops.Memory refused) = inr (inr refl)

-- a run that stops tells no more than why
pub Converses-stop : (before cut after : Talk) (stop : Stop) → Breaks before cut
    → AppendsFront cut.printed (stop_text stop) after.printed → after.unread ≡ cut.unread
    → after.sent ≡ cut.sent → after.unheard ≡ cut.unheard
    → Converses before after
Converses-stop before cut after stop breaks told unread sent unheard =
    record {
      cut = cut;
      line = stop_text stop;
      breaks = breaks;
      line_is = last_line stop;
      told = told;
      unread = unread;
      sent = sent;
      unheard = unheard;
    }

-- a run that is done tells nothing more
pub Converses-done : (before after : Talk) → Breaks before after → Converses before after
Converses-done before after breaks = record {
  cut = after;
  line = [];
  breaks = breaks;
  line_is = inl refl;
  told = record { front = []; back = []; whole = refl; appended = Appends-nothing after.printed };
  unread = refl;
  sent = refl;
  unheard = refl;
}
