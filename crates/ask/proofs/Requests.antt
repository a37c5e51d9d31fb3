-- Requests that are read and sent.
use Rattle.std.proofs.Common.{◌≡◌, ◌<◌, ℕ, Bool, true, List, [], ◌∷◌, ◌++◌, Option, Result, Ok}
use Rattle.std.proofs.Common.{Err, OnOk, inl, inr, refl, sym, ap, subst, length, ◌∙◌, append_assoc}
use Rattle.std.specs.Prelude.{◌⊎◌, bytes_eq}
use Rattle.std.specs.List.{concat}
use Rattle.std.specs.Str.Lines.{strip_carriage_return}
use Rattle.std.proofs.lemmas.List.{append-nil}
use Rattle.std.proofs.lemmas.List.Elements.{All-append, All-cons, All-nil}
use Rattle.std.proofs.lemmas.List.Folds.{concat-append}
use Rattle.std.proofs.lemmas.Slice.Eq.{bytes_eq-Decides}
use Rattle.metric.specs.Stream.{Appends, Takes}
use Rattle.metric.proofs.Appending.{Appends-more, Appends-nothing}
use Rattle.metric.proofs.Taking.{Takes-nothing, Takes-behind}
use Rattle.streams.specs.Counted.{IsCounted, IsUnended}
use Rattle.ask.specs.Asking.{IsRequest}
use Rattle.ask.specs.Passing.{Asks, AsksAll, EndsByBye, EndsCut, EndsWithin, PassesOn, bye}
use Rattle.streams.specs.Gathered.{Gathers, GathersAll, PutsCount, PutsFewer, PutsLine, PutsUnended}
use Rattle.streams.proofs.Gathering.{Gathers-both, Gathers-taken}

-- where a part was gathered, and then another, both were gathered
pub gathered_both : {T E : Type 0} (unread between left : Option (List ℕ))
    (before middle after : List ℕ) (result : Result T E) → Gathers unread before middle between
    → OnOk result (Gathers between middle after left)
    → OnOk result (Gathers unread before after left)
gathered_both unread between left before middle after (Ok value) one two =
    Gathers-both _ _ _ _ _ _ one two
gathered_both unread between left before middle after (Err fault) one two = tt

-- a line with its LF, and then the bytes after it, are what a buffer holds that was empty
line_and_bytes : (before middle after line part : List ℕ) → before ≡ []
    → middle ≡ before ++ (line ++ 10 ∷ []) → after ≡ middle ++ part → after ≡ line ++ (10 ∷ part)
line_and_bytes before middle after line part empty first second =
    second
    ∙ (ap (λ t. t ++ part) (first ∙ ap (λ t. t ++ (line ++ 10 ∷ [])) empty)
    ∙ append_assoc line (10 ∷ []) part)

-- the count of a line, taken from the line without its end, is the line's
pub counts_so : (counts : List ℕ → ℕ) (before middle line stripped : List ℕ) (count : ℕ) → before ≡ []
    → middle ≡ before ++ (line ++ 10 ∷ [])
    → ((front : List ℕ) → middle ≡ front ++ 10 ∷ [] → stripped ≡ strip_carriage_return front)
    → count ≡ counts stripped → count ≡ counts (strip_carriage_return line)
counts_so counts before middle line stripped count empty first strips is =
    is ∙ ap counts (strips line (first ∙ ap (λ t. t ++ (line ++ 10 ∷ [])) empty))

-- a line and the bytes that it counts were read
pub counted_read : {T E : Type 0} (counts : List ℕ → ℕ) (before middle after stripped : List ℕ)
    (count : ℕ) (result : Result T E) → before ≡ [] → PutsLine before middle
    → ((front : List ℕ) → middle ≡ front ++ 10 ∷ [] → stripped ≡ strip_carriage_return front)
    → count ≡ counts stripped → OnOk result (PutsCount count middle after)
    → OnOk result (IsCounted counts after)
counted_read counts before middle after stripped count (Ok value) empty first strips is second =
    record {
      line = first.line;
      counted = second.part;
      unended = first.unended;
      count = second.many
          ∙ counts_so counts before middle first.line stripped count empty first.after_is strips is;
      bytes_are = line_and_bytes before middle after first.line second.part empty first.after_is
          second.after_is;
    }
counted_read counts before middle after stripped count (Err fault) empty first strips is second = tt

-- where a stream ends in a line, it ends within that line
pub cut_line : (counts : List ℕ → ℕ) (unread left : Option (List ℕ)) (before after : List ℕ)
    → before ≡ [] → PutsUnended before after × GathersAll unread before after left
    → EndsWithin counts unread left
cut_line counts unread left before after empty (part, all) = record {
  tail = after;
  cut = inl (subst IsUnended (sym (part.after_is ∙ ap (λ t. t ++ part.part) empty)) part.unended);
  taken = Gathers-taken unread left before after empty all.gathered;
  ended = all.ended;
}

-- where a stream ends in the bytes that a line counts, it ends within these
pub cut_bytes : (counts : List ℕ → ℕ) (unread between left : Option (List ℕ))
    (before middle after stripped : List ℕ) (count : ℕ) → before ≡ [] → PutsLine before middle
    → Gathers unread before middle between
    → ((front : List ℕ) → middle ≡ front ++ 10 ∷ [] → stripped ≡ strip_carriage_return front)
    → count ≡ counts stripped → PutsFewer count middle after × GathersAll between middle after left
    → EndsWithin counts unread left
cut_bytes counts unread between left before middle after stripped count empty first one strips is
    (second, all) = record {
      tail = after;
      cut = inr (record {
        line = first.line;
        counted = second.part;
        unended = first.unended;
        few = subst (λ (n : ℕ). length second.part < n)
            (counts_so counts before middle first.line stripped count empty first.after_is
            strips is)
            second.few;
        bytes_are = line_and_bytes before middle after first.line second.part empty first.after_is
            second.after_is;
      });
      taken = Gathers-taken unread left before after empty
          (Gathers-both _ _ _ _ _ _ one all.gathered);
      ended = all.ended;
    }

-- where nothing is read and nothing is sent, no request is
pub Asks-nothing : (unread held : Option (List ℕ)) → Asks unread unread held held
Asks-nothing unread held =
    record {
      requests = [];
      are = All-nil IsRequest;
      taken = Takes-nothing unread;
      sent = Appends-nothing held;
    }

-- where one request is read and sent, a list of requests is, with that one alone
pub Asks-one : (unread left before after : Option (List ℕ)) (request : List ℕ) → IsRequest request
    → Takes unread request left → Appends before request after → Asks unread left before after
Asks-one unread left before after request is taken sent = record {
  requests = request ∷ [];
  are = All-cons IsRequest request [] is (All-nil IsRequest);
  taken = rw (append-nil request) taken;
  sent = rw (append-nil request) sent;
}

-- where requests are read and sent, and then more of them, all of these are
pub Asks-both : (unread between left before middle after : Option (List ℕ))
    → Asks unread between before middle → Asks between left middle after
    → Asks unread left before after
Asks-both unread between left before middle after one two = record {
  requests = one.requests ++ two.requests;
  are = All-append IsRequest one.requests two.requests one.are two.are;
  taken = rw (concat-append one.requests two.requests)
      (Takes-behind unread between left (concat one.requests)
      (concat two.requests) one.taken two.taken);
  sent = rw (concat-append one.requests two.requests)
      (Appends-more before middle after (concat one.requests)
      (concat two.requests) one.sent two.sent);
}

-- where requests are read and sent, all that is read is written
pub Asks-passes : (unread left before after : Option (List ℕ)) → Asks unread left before after
    → PassesOn unread left before after
Asks-passes unread left before after asked =
    record { bytes = concat asked.requests; taken = asked.taken; written = asked.sent }

-- where the reader ended in less than a request, requests were read and sent up to its end
pub AsksAll-ended : (unread left held before after : Option (List ℕ)) → EndsCut unread left
    → AsksAll unread left held held before after
AsksAll-ended unread left held before after cut =
    record { between = unread; asked = Asks-nothing unread held; over = inr cut }

-- where a reply is BYE, requests were read and sent up to that reply
pub AsksAll-bye : (unread left before after printed_before printed_after : Option (List ℕ))
    (reply : List ℕ) (said : Bool) → said ≡ true → said ≡ bytes_eq reply bye
    → Asks unread left before after
    → Appends printed_before reply printed_after
    → AsksAll unread left before after printed_before printed_after
AsksAll-bye unread left before after printed_before printed_after reply said so is asked printed =
    let same : reply ≡ bye = (bytes_eq-Decides reply bye).0 (sym is ∙ so) in
    record {
      between = left;
      asked = asked;
      over = inl (
        refl,
        record {
          front = [];
          written = subst (λ (t : List ℕ). Appends printed_before t printed_after) same printed;
        },
      );
    }

-- where requests were read and sent, and then all others up to the end, all of them were
pub AsksAll-both : (unread between left before middle after printed_before printed_middle
    printed_after : Option (List ℕ)) (printed : List ℕ) → Asks unread between before middle
    → Appends printed_before printed printed_middle
    → AsksAll between left middle after printed_middle printed_after
    → AsksAll unread left before after printed_before printed_after
AsksAll-both unread between left before middle after printed_before printed_middle printed_after
    printed one first all = record {
      between = all.between;
      asked = Asks-both unread between all.between before middle after one all.asked;
      over = over_both all.over;
    }
  where
    over_both : ((left ≡ all.between) × EndsByBye printed_middle printed_after)
        ⊎ EndsCut all.between left → ((left ≡ all.between) × EndsByBye printed_before printed_after)
        ⊎ EndsCut all.between left
    over_both (inl (same, last)) = inl (
      same,
      record {
        front = printed ++ last.front;
        written = rw (append_assoc printed last.front bye)
            (Appends-more printed_before printed_middle printed_after printed (last.front ++ bye)
            first last.written);
      },
    )
    over_both (inr cut) = inr cut
