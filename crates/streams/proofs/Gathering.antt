-- Bytes that are taken from a stream and put into a buffer.
use Rattle.std.proofs.Common.{◌≡◌, ◌≢◌, ◌+◌, ◌<◌, ℕ, List, [], ◌∷◌, ◌++◌, Option, Some, sym, ap}
use Rattle.std.proofs.Common.{subst, length, ◌∙◌, append_assoc}
use Rattle.std.proofs.lemmas.List.{length-append}
use Rattle.std.proofs.lemmas.List.Elements.{All-append, All-cons, All-nil}
use Rattle.metric.specs.Stream.{Takes, TakesByte}
use Rattle.metric.proofs.Taking.{Takes-nothing, Takes-more, Takes-behind}
use Rattle.streams.specs.Gathered.{Gathers, GathersAll, PutsCount, PutsFewer, PutsLine, PutsUnended}

-- a byte that was met is one that was taken
pub Takes-byte : (old new : Option (List ℕ)) (byte : ℕ) → TakesByte old (Some byte) new
    → Takes old (byte ∷ []) new
Takes-byte old new byte next = Takes-more old old new [] byte (Takes-nothing old) next

-- what is gathered in two parts, one after the other, is gathered as one
pub Gathers-both : (old between new : Option (List ℕ)) (before middle after : List ℕ)
    → Gathers old before middle between → Gathers between middle after new
    → Gathers old before after new
Gathers-both old between new before middle after one two = record {
  bytes = one.bytes ++ two.bytes;
  taken = Takes-behind old between new one.bytes two.bytes one.taken two.taken;
  after_is = two.after_is
      ∙ (ap (λ t. t ++ two.bytes) one.after_is ∙ append_assoc before one.bytes two.bytes);
}

-- where bytes were gathered, and then more were taken, all of them were taken
pub taken_behind : (old between new : Option (List ℕ)) (before after : List ℕ)
    → Gathers old before after between → ((bytes : List ℕ) × Takes between bytes new)
    → (bytes : List ℕ) × Takes old bytes new
taken_behind old between new before after one (bytes, two) =
    (one.bytes ++ bytes, Takes-behind old between new one.bytes bytes one.taken two)

-- what is gathered in an empty buffer is what was taken
pub Gathers-taken : (unread left : Option (List ℕ)) (before after : List ℕ) → before ≡ []
    → Gathers unread before after left → Takes unread after left
Gathers-taken unread left before after empty all =
    let same : after ≡ all.bytes = all.after_is ∙ ap (λ t. t ++ all.bytes) empty in
    rw same all.taken

-- where a part was gathered, and then all that was left, all was gathered
GathersAll-both : (unread between left : Option (List ℕ)) (before middle after : List ℕ)
    → Gathers unread before middle between → GathersAll between middle after left
    → GathersAll unread before after left
GathersAll-both unread between left before middle after one two =
    record { gathered = Gathers-both _ _ _ _ _ _ one two.gathered; ended = two.ended }

-- bytes in which no line ends stay so with one more byte that is no LF
pub PutsUnended-more : (before middle after : List ℕ) (byte : ℕ) → PutsUnended before middle
    → after ≡ middle ++ byte ∷ [] → byte ≢ 10 → PutsUnended before after
PutsUnended-more before middle after byte part is other = record {
  part = part.part ++ byte ∷ [];
  unended = All-append (λ (b : ℕ). b ≢ 10) part.part (byte ∷ []) part.unended
      (All-cons (λ (b : ℕ). b ≢ 10) byte [] other (All-nil (λ (b : ℕ). b ≢ 10)));
  after_is = is
      ∙ (ap (λ t. t ++ byte ∷ []) part.after_is ∙ append_assoc before part.part (byte ∷ []));
}

-- bytes in which no line ends are a line once an LF is put after them
pub PutsLine-end : (before middle after : List ℕ) (byte : ℕ) → PutsUnended before middle
    → after ≡ middle ++ byte ∷ [] → byte ≡ 10 → PutsLine before after
PutsLine-end before middle after byte part is end = record {
  line = part.part;
  unended = part.unended;
  after_is = is
      ∙ (ap (λ b. middle ++ b ∷ []) end
      ∙ (ap (λ t. t ++ 10 ∷ []) part.after_is ∙ append_assoc before part.part (10 ∷ [])));
}

-- where a stream ends before a line's LF, its bytes are in the buffer, no line ends in them, and
-- none is left
pub ended_unended : (unread between left : Option (List ℕ)) (before middle after : List ℕ)
    → Gathers unread before middle between → PutsUnended before middle → (after ≡ middle)
    × GathersAll between middle after left
    → PutsUnended before after × GathersAll unread before after left
ended_unended unread between left before middle after one part (same, all) = (
  subst (λ (t : List ℕ). PutsUnended before t) (sym same) part,
  GathersAll-both unread between left before middle after one all,
)

-- where bytes are put after others, as many are put as both are
pub PutsCount-both : (count more : ℕ) (before middle after : List ℕ)
    → PutsCount count before middle → PutsCount more middle after
    → PutsCount (count + more) before after
PutsCount-both count more before middle after one two = record {
  part = one.part ++ two.part;
  many = length-append one.part two.part
      ∙ (ap (λ n. n + length two.part) one.many ∙ ap (λ n. count + n) two.many);
  after_is = two.after_is
      ∙ (ap (λ t. t ++ two.part) one.after_is ∙ append_assoc before one.part two.part);
}

-- where a stream ends before this many bytes, the buffer has fewer, and none is left
pub ended_fewer : (count so_far : ℕ) (unread between left : Option (List ℕ))
    (before middle after : List ℕ) → so_far < count → Gathers unread before middle between
    → PutsCount so_far before middle
    → (after ≡ middle) × GathersAll between middle after left → PutsFewer count before after
    × GathersAll unread before after left
ended_fewer count so_far unread between left before middle after few one part (same, all) = (
  record {
    part = part.part;
    few = subst (λ (n : ℕ). n < count) (sym part.many) few;
    after_is = same ∙ part.after_is;
  },
  GathersAll-both unread between left before middle after one all,
)
