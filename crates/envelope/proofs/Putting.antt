-- One more column put on the stack, after the spans that it hides were taken off.
use Rattle.std.proofs.Common.{◌≡◌, ℕ, ◌+◌, ◌-◌, ◌<◌, ◌≤◌, ◌⊎◌, inl, inr, zero, suc, List, refl}
use Rattle.std.proofs.Common.{add-one, arith}
use Rattle.std.proofs.lemmas.Bool.{cases_lt}
use Rattle.envelope.specs.declared.cover.Span.{Span}
use Rattle.envelope.specs.Columns.{IsBest, IsCrossing, distance_from}
use Rattle.envelope.specs.Envelope.{IsCovered, IsCutAt, IsEnvelope, AreSpansKept, IsStart, span_at}
use Rattle.envelope.proofs.Envelopes.{IsMore, best_new, envelope_same, envelope_stays}

-- a further column, the column of the last span, and the cell from which on the one is strictly
-- nearer than the other
record IsMeeting (d : ℕ → ℕ → ℕ) (gaps : ℕ → ℕ) (P : ℕ → Type 0) (u : ℕ) (spans : List Span)
    (width count start : ℕ) : Type 0 where
  pub few : width ≤ 4098
  pub cut : IsCutAt d gaps P spans (suc count) width u
  pub kept : distance_from d gaps (span_at spans count).column (span_at spans count).start
      ≤ distance_from d gaps u (span_at spans count).start
  pub crossing : IsCrossing d (span_at spans count).column (gaps (span_at spans count).column) u
      (gaps u) start

-- the last span begins before that cell
starts_before : (d : ℕ → ℕ → ℕ) (gaps : ℕ → ℕ) (P : ℕ → Type 0) (u : ℕ) (spans : List Span)
    (width count start : ℕ)
    → IsMeeting d gaps P u spans width count start → (span_at spans count).start < start
starts_before d gaps P u spans width count start meeting =
    elim (cases_lt (span_at spans count).start start) [
      | inl before ↦ before
      | inr after ↦
          let some = meeting.cut.covered.0.some in
          let within = meeting.cut.within in
          let few = meeting.few in
          let less = meeting.crossing.after (span_at spans count).start after
          (omega (arith, some, within, few)) in
          let kept = meeting.kept in
          absurd (omega (arith, less, kept))
    ]

-- that cell doesn't lie beyond the spans, unless these are the whole row
starts_within : (d : ℕ → ℕ → ℕ) (gaps : ℕ → ℕ) (P : ℕ → Type 0) (u : ℕ) (spans : List Span)
    (width count start : ℕ)
    → (meeting : IsMeeting d gaps P u spans width count start) → (start ≤ meeting.cut.end)
    ⊎ (meeting.cut.end ≡ width)
starts_within d gaps P u spans width count start meeting =
    let cut = meeting.cut in
    let top = cut.covered.0 in
    let some = top.some in
    let own = (top.best (span_at spans count).start (omega arith) some).among in
    elim (cases_lt cut.end start) [
      | inl before ↦ elim (cases_lt cut.end width) [
        | inl inside ↦
            let less = cut.beyond cut.end (omega arith) inside (span_at spans count).column own in
            let not_less = meeting.crossing.before cut.end before in
            absurd (omega (arith, less, not_less))
        | inr whole ↦ let within = cut.within in inr (omega (arith, whole, within))
      ]
      | inr after ↦ inl after
    ]

-- before that cell the spans stay right
stays_before : (d : ℕ → ℕ → ℕ) (gaps : ℕ → ℕ) (P Q : ℕ → Type 0) (u : ℕ) (spans : List Span)
    (width count start end : ℕ) → IsMore gaps P Q u
    → (meeting : IsMeeting d gaps P u spans width count start) → (span_at spans count).start < end
    → end ≤ start → end ≤ meeting.cut.end
    → IsEnvelope d gaps Q spans (suc count) end
stays_before d gaps P Q u spans width count start end more meeting some before inside =
    let top = meeting.cut.covered.0 in
    let top_some = top.some in
    let own = (top.best (span_at spans count).start (omega arith) top_some).among in
    envelope_stays d gaps P Q u spans more (suc count) end
    (λ x column below best.
    let least = best.least (span_at spans count).column own in
    let not_less = meeting.crossing.before x (omega (arith, below, before)) in
    omega (arith, least, not_less)) (
      record {
        some = some;
        best = λ x from below. top.best x from (omega (arith, below, inside));
        gap_is = top.gap_is;
      },
      meeting.cut.covered.1,
    )

-- from that cell on the column is the best
best_from : (d : ℕ → ℕ → ℕ) (gaps : ℕ → ℕ) (P Q : ℕ → Type 0) (u : ℕ) (spans : List Span)
    (width count start x : ℕ) → IsMore gaps P Q u
    → IsMeeting d gaps P u spans width count start → start ≤ x → x < width → IsBest d gaps Q x u
best_from d gaps P Q u spans width count start x more meeting from below =
    let first = starts_before d gaps P u spans width count start meeting in
    let few = meeting.few in
    best_new d gaps P Q u x more (λ other p. elim (cases_lt x meeting.cut.end) [
      | inl inside ↦
          let least = (meeting.cut.covered.0.best x (omega (arith, first, from)) inside).least other
          p in
          let less = meeting.crossing.after x from (omega (arith, below, few)) in
          omega (arith, least, less)
      | inr past ↦ meeting.cut.beyond x past below other p
    ])

-- the spans once a column has been put on whose first cell lies in the row
covered_next : (d : ℕ → ℕ → ℕ) (gaps : ℕ → ℕ) (P Q : ℕ → Type 0) (u : ℕ) (spans others : List Span)
    (width count start : ℕ) → IsMore gaps P Q u
    → IsMeeting d gaps P u spans width count start → start < width
    → span_at others (suc count) ≡ record { start = start; column = u; gap = gaps u }
    → ((place : ℕ) → place < suc count → span_at others place ≡ span_at spans place)
    → IsEnvelope d gaps Q others (suc (suc count)) width
covered_next d gaps P Q u spans others width count start more meeting inside here same =
    let first = starts_before d gaps P u spans width count start meeting in
    let within : start ≤ meeting.cut.end =
    elim (starts_within d gaps P u spans width count start meeting)
    [ inl in_spans ↦ in_spans | inr whole ↦ omega (arith, whole, inside) ] in
    let below : IsEnvelope d gaps Q others (suc count) start =
    envelope_same d gaps Q spans others (suc count) start same
    (stays_before d gaps P Q u spans width count start start more meeting first
    (omega arith) within) in
    rw here (
      record {
        some = inside;
        best = λ x from end. best_from d gaps P Q u spans width count start x more meeting from end;
        gap_is = refl;
      },
      below,
    )

-- the first column has the whole row as its one span
covered_first : (d : ℕ → ℕ → ℕ) (gaps : ℕ → ℕ) (P Q : ℕ → Type 0) (u : ℕ) (spans others : List Span)
    (width : ℕ) → IsMore gaps P Q u
    → IsCutAt d gaps P spans zero width u → 0 < width
    → span_at others zero ≡ record { start = 0; column = u; gap = gaps u }
    → IsEnvelope d gaps Q others (suc zero) width
covered_first d gaps P Q u spans others width more cut some here =
    let none = cut.covered in
    rw here (
      record {
        some = some;
        best = λ x from below. best_new d gaps P Q u x more
            (λ other p. cut.beyond x (omega (arith, none)) below other p);
        gap_is = refl;
      },
      refl,
    )

-- what is known where spans were kept
meeting_of : (d : ℕ → ℕ → ℕ) (gaps : ℕ → ℕ) (P : ℕ → Type 0) (u : ℕ) (spans : List Span)
    (width total count start : ℕ) → width ≤ 4098
    → AreSpansKept d gaps P spans total (suc count) width u
    → IsStart d gaps spans (suc count) u start → IsMeeting d gaps P u spans width count start
meeting_of d gaps P u spans width total count start few kept meets =
    let before : suc count - 1 ≡ count = omega arith in
    let gap = kept.cut.covered.0.gap_is in
    let crossing = rw before at (meets.some (omega arith)) in
    record {
      few = few;
      cut = kept.cut;
      kept = rw before at (kept.top (omega arith));
      crossing = rw gap at crossing;
    }

-- the spans of the whole row once a column has been put on whose first cell lies in the row
pub covered_with : (d : ℕ → ℕ → ℕ) (gaps : ℕ → ℕ) (P Q : ℕ → Type 0) (u : ℕ)
    (spans others : List Span) (width total count start : ℕ) → width ≤ 4098 → IsMore gaps P Q u
    → AreSpansKept d gaps P spans total count width u → IsStart d gaps spans count u start
    → start < width
    → span_at others count ≡ record { start = start; column = u; gap = gaps u }
    → ((place : ℕ) → place < count → span_at others place ≡ span_at spans place)
    → IsCovered d gaps Q others (count + 1) width
covered_with d gaps P Q u spans others width total zero start few more kept meets inside here same =
    let first : start ≡ 0 = meets.none refl in
    record {
      none = λ none. absurd (omega arith);
      some = λ some. covered_first d gaps P Q u spans others width more kept.cut (omega arith)
          (rw first at here);
    }
covered_with d gaps P Q u spans others width total
    (suc count) start few more kept meets inside here same = record {
      none = λ none. absurd (omega arith);
      some = λ some. rw add-one (covered_next d gaps P Q u spans others width count start more
          (meeting_of d gaps P u spans width total count start few kept meets) inside here same);
    }

-- the spans of the whole row stay where the column's first cell doesn't lie in it
pub covered_without : (d : ℕ → ℕ → ℕ) (gaps : ℕ → ℕ) (P Q : ℕ → Type 0) (u : ℕ) (spans : List Span)
    (width total count start : ℕ) → 0 < width → width ≤ 4098 → IsMore gaps P Q u
    → AreSpansKept d gaps P spans total count width u → IsStart d gaps spans count u start
    → width ≤ start
    → IsCovered d gaps Q spans count width
covered_without d gaps P Q u spans width total zero start wide few more kept meets outside =
    let first = meets.none refl in absurd (omega (arith, first))
covered_without d gaps P Q u spans width total (suc count) start wide few more kept meets outside =
    let meeting = meeting_of d gaps P u spans width total count start few kept meets in
    let some = meeting.cut.covered.0.some in
    let within = meeting.cut.within in
    let whole : meeting.cut.end ≡ width =
    elim (starts_within d gaps P u spans width count start meeting)
    [ inl in_spans ↦ omega (arith, in_spans, within, outside) | inr whole ↦ whole ] in
    record {
      none = λ none. absurd (omega arith);
      some = λ one. stays_before d gaps P Q u spans width count start width more meeting
          (omega (arith, some, within)) outside (omega (arith, whole));
    }
