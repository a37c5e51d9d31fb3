-- A line and the bytes that it counts, of which a reader gave a part.
use Rattle.std.proofs.Common.{◌≡◌, ◌≢◌, ◌≤◌, ◌<◌, ℕ, List, [], ◌∷◌, ◌++◌, Option, inl, inr, sym, ap}
use Rattle.std.proofs.Common.{subst, length, arith, ◌∙◌, append_assoc, Result, Ok, Err, OnErr}
use Rattle.std.specs.Prelude.{◌⊎◌}
use Rattle.std.specs.Str.Lines.{strip_carriage_return}
use Rattle.std.proofs.Math.Nat.{eq-or-lt_of_le}
use Rattle.std.proofs.lemmas.List.Elements.{All-nil}
use Rattle.metric.specs.Stream.{Takes}
use Rattle.metric.proofs.Taking.{Takes-nothing, Takes-behind}
use Rattle.streams.specs.Counted.{IsAtMostCounted, IsUnended}
use Rattle.streams.specs.Gathered.{Gathers, PutsLine, TakesAtMost, TakesFew}
use Rattle.ask.proofs.Requests.{counts_so}
use Rattle.streams.proofs.CutLines.{same_part}

-- where nothing was taken, at most a line was
pub TakesAtMost-nothing : (counts : List ℕ → ℕ) (unread left : Option (List ℕ)) → left ≡ unread
    → TakesAtMost counts unread left
TakesAtMost-nothing counts unread left same =
    record {
      bytes = [];
      most = inr (inl (All-nil (λ (b : ℕ). b ≢ 10)));
      taken = subst (λ (rest : Option (List ℕ)). Takes unread [] rest) (sym same)
          (Takes-nothing unread);
    }

-- a line with its LF, and no more bytes than it counts
at_most : (counts : List ℕ → ℕ) (bytes line counted : List ℕ) → IsUnended line
    → (length counted ≡ counts (strip_carriage_return line))
    ⊎ (length counted < counts (strip_carriage_return line))
    → bytes ≡ line ++ (10 ∷ counted) → IsAtMostCounted counts bytes
at_most counts bytes line counted unended (inl same) is =
    inl record { line = line; counted = counted; unended = unended; count = same; bytes_are = is }
at_most counts bytes line counted unended (inr less) is = inr (inr record {
  line = line;
  counted = counted;
  unended = unended;
  few = less;
  bytes_are = is;
})

-- where at most a line was taken, at most a line and the bytes that it counts were
pub TakesAtMost-line : (counts : List ℕ → ℕ) (unread left : Option (List ℕ))
    → TakesAtMost (λ line. 0) unread left → TakesAtMost counts unread left
TakesAtMost-line counts unread left part =
    record { bytes = part.bytes; most = most_of part.most; taken = part.taken }
  where
    none_or_more : (n : ℕ) → 0 ≤ n
    none_or_more n = omega (arith)

    most_of : IsAtMostCounted (λ line. 0) part.bytes → IsAtMostCounted counts part.bytes
    most_of (inl whole) =
        let few = subst (λ (n : ℕ). n ≤ counts (strip_carriage_return whole.line)) (sym whole.count)
        (none_or_more (counts (strip_carriage_return whole.line))) in
        at_most counts part.bytes whole.line whole.counted whole.unended (eq-or-lt_of_le few)
        whole.bytes_are
    most_of (inr (inl unended)) = inr (inl unended)
    most_of (inr (inr lacking)) = absurd (let few = lacking.few in omega (arith, few))

-- where a line was gathered, and then no more bytes were taken than it counts, at most a line and
-- the bytes that it counts were
counted_behind : (counts : List ℕ → ℕ) (unread between left : Option (List ℕ))
    (before middle stripped : List ℕ) (count : ℕ) → before ≡ [] → PutsLine before middle
    → Gathers unread before middle between
    → ((front : List ℕ) → middle ≡ front ++ 10 ∷ [] → stripped ≡ strip_carriage_return front)
    → count ≡ counts stripped → TakesFew count between left → TakesAtMost counts unread left
counted_behind counts unread between left before middle stripped count empty first one strips is
    next =
    let same = same_part before middle one.bytes (first.line ++ 10 ∷ []) one.after_is
    first.after_is in
    let fits = subst (λ (n : ℕ). length next.bytes ≤ n)
    (counts_so counts before middle first.line stripped count empty first.after_is strips is)
    next.few in
    record {
      bytes = one.bytes ++ next.bytes;
      most = at_most counts (one.bytes ++ next.bytes) first.line next.bytes first.unended
          (eq-or-lt_of_le fits)
          (ap (λ t. t ++ next.bytes) same ∙ append_assoc first.line (10 ∷ []) next.bytes);
      taken = Takes-behind unread between left one.bytes next.bytes one.taken next.taken;
    }

-- where the bytes after a line end early, at most as many as it counts were taken
pub counted_cut : {T E : Type 0} (counts : List ℕ → ℕ) (unread between left : Option (List ℕ))
    (before middle stripped : List ℕ) (count : ℕ) (result : Result T E) → before ≡ []
    → PutsLine before middle → Gathers unread before middle between
    → ((front : List ℕ) → middle ≡ front ++ 10 ∷ [] → stripped ≡ strip_carriage_return front)
    → count ≡ counts stripped → OnErr result (TakesFew count between left)
    → OnErr result (TakesAtMost counts unread left)
counted_cut counts unread between left before middle stripped count (Ok value) empty first one
    strips is next = tt
counted_cut counts unread between left before middle stripped count (Err fault) empty first one
    strips is next =
    counted_behind counts unread between left before middle stripped count empty first one strips is
    next
