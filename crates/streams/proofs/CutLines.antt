-- A line, or a number of bytes, of which a reader gave a part.
use Rattle.std.proofs.Common.{◌≡◌, ◌≢◌, ◌≤◌, ◌+◌, ℕ, List, [], ◌∷◌, ◌++◌, Option, inl, inr, refl}
use Rattle.std.proofs.Common.{sym, ap, subst, length, arith, ◌∙◌}
use Rattle.std.specs.Prelude.{◌⊎◌}
use Rattle.std.proofs.lemmas.Bool.{cases_eq}
use Rattle.std.proofs.lemmas.List.{append-nil, append_cancel_left, length-append}
use Rattle.std.proofs.lemmas.List.Elements.{All-append, All-cons, All-nil}
use Rattle.metric.specs.Stream.{Takes}
use Rattle.metric.proofs.Taking.{Takes-behind}
use Rattle.streams.specs.Counted.{IsAtMostCounted, IsUnended}
use Rattle.streams.specs.Gathered.{Gathers, PutsCount, PutsUnended, TakesAtMost, TakesFew}

-- where one byte was taken, few were
pub TakesFew-byte : (unread left : Option (List ℕ)) (byte : ℕ) → Takes unread (byte ∷ []) left
    → TakesFew 1 unread left
TakesFew-byte unread left byte taken =
    record { bytes = byte ∷ []; few = omega (arith); taken = taken }

-- two parts that make the same bytes of the same front are the same
pub same_part : (before after one two : List ℕ) → after ≡ before ++ one → after ≡ before ++ two
    → one ≡ two
same_part before after one two first second =
    append_cancel_left before one two (sym first ∙ second)

-- where some bytes were gathered, and then few more were taken, all of them are few
pub few_behind : (so_far more count : ℕ) (unread between left : Option (List ℕ))
    (before middle : List ℕ) → so_far + more ≤ count → Gathers unread before middle between
    → PutsCount so_far before middle → TakesFew more between left → TakesFew count unread left
few_behind so_far more count unread between left before middle within one part next =
    let same = same_part before middle one.bytes part.part one.after_is part.after_is in
    let many : length one.bytes ≡ so_far = ap length same ∙ part.many in
    let few = next.few in
    let all : length one.bytes + length next.bytes ≤ count = omega (arith, within, many, few) in
    record {
      bytes = one.bytes ++ next.bytes;
      few = subst (λ (n : ℕ). n ≤ count) (sym (length-append one.bytes next.bytes)) all;
      taken = Takes-behind unread between left one.bytes next.bytes one.taken next.taken;
    }

-- one byte more makes a line with its LF, or none ends
one_more : (bytes : List ℕ) (byte : ℕ) → IsUnended bytes → (byte ≡ 10) ⊎ (byte ≢ 10)
    → IsAtMostCounted (λ line. 0) (bytes ++ byte ∷ [])
one_more bytes byte unended (inl is) = inl record {
  line = bytes;
  counted = [];
  unended = unended;
  count = refl;
  bytes_are = ap (λ b. bytes ++ b ∷ []) is;
}
one_more bytes byte unended (inr other) =
    inr (inl (All-append (λ (b : ℕ). b ≢ 10) bytes (byte ∷ []) unended
    (All-cons (λ (b : ℕ). b ≢ 10) byte [] other (All-nil (λ (b : ℕ). b ≢ 10)))))

-- bytes in which no line ends, and at most one more, are at most a line with its LF
at_most_line : (bytes more : List ℕ) → IsUnended bytes → length more ≤ 1
    → IsAtMostCounted (λ line. 0) (bytes ++ more)
at_most_line bytes [] unended few =
    inr (inl (subst IsUnended (sym (append-nil bytes)) unended))
at_most_line bytes (byte ∷ []) unended few = one_more bytes byte unended (cases_eq byte 10)
at_most_line bytes (byte ∷ (next ∷ more)) unended few = absurd (omega (arith, few))

-- where bytes in which no line ends were gathered, and then at most one more was taken, at most a
-- line was
pub line_behind : (unread between left : Option (List ℕ)) (before middle : List ℕ)
    → Gathers unread before middle between → PutsUnended before middle → TakesFew 1 between left
    → TakesAtMost (λ line. 0) unread left
line_behind unread between left before middle one part next =
    let same = same_part before middle one.bytes part.part one.after_is part.after_is in
    record {
      bytes = one.bytes ++ next.bytes;
      most = at_most_line one.bytes next.bytes (subst IsUnended (sym same) part.unended) next.few;
      taken = Takes-behind unread between left one.bytes next.bytes one.taken next.taken;
    }
