-- The spans of a row as columns are put on: from a set of columns to that set and one more, right
-- of all.
use Rattle.std.proofs.Common.{◌≡◌, ℕ, ◌-◌, ◌<◌, ◌≤◌, ◌⊎◌, inl, inr, zero, suc, List, refl, arith}
use Rattle.std.proofs.lemmas.Bool.{cases_lt}
use Rattle.metric.specs.Crossing.{AreColumns, IsRightNearer, StaysNearer}
use Rattle.envelope.specs.declared.cover.Span.{Span}
use Rattle.envelope.specs.Columns.{IsBest, distance_from}
use Rattle.envelope.specs.Envelope.{IsCovered, IsCutAt, IsEnvelope, span_at}

-- a set of columns and one more, right of all
pub record IsMore (gaps : ℕ → ℕ) (P Q : ℕ → Type 0) (u : ℕ) : Type 0 where
  pub there : (column : ℕ) → P column → Q column
  pub here : Q u
  pub back : (column : ℕ) → Q column → P column ⊎ (column ≡ u)
  pub pairs : (column : ℕ) → P column → AreColumns column (gaps column) u (gaps u)

-- the best column stays the best where one more isn't strictly nearer
best_stays : (d : ℕ → ℕ → ℕ) (gaps : ℕ → ℕ) (P Q : ℕ → Type 0) (u x column : ℕ) → IsMore gaps P Q u
    → distance_from d gaps column x ≤ distance_from d gaps u x → IsBest d gaps P x column
    → IsBest d gaps Q x column
best_stays d gaps P Q u x column more stays best = record {
  among = more.there column best.among;
  least = λ other q. elim (more.back other q)
      [ inl p ↦ best.least other p | inr same ↦ rw same stays ];
  first = λ other q left. elim (more.back other q) [
    | inl p ↦ best.first other p left
    | inr same ↦ let order = (more.pairs column best.among).order in absurd (omega arith)
  ];
}

-- a column that is added is the best where it is strictly nearer than all others
pub best_new : (d : ℕ → ℕ → ℕ) (gaps : ℕ → ℕ) (P Q : ℕ → Type 0) (u x : ℕ) → IsMore gaps P Q u
    → ((other : ℕ) → P other → distance_from d gaps u x < distance_from d gaps other x)
    → IsBest d gaps Q x u
best_new d gaps P Q u x more nearer = record {
  among = more.here;
  least = λ other q. elim (more.back other q) [
    | inl p ↦ let less = nearer other p in
        omega (arith, less)
    | inr same ↦ rw same (omega arith)
  ];
  first = λ other q left. elim (more.back other q)
      [ inl p ↦ nearer other p | inr same ↦ absurd (omega arith) ];
}

-- spans stay right where one more column isn't strictly nearer than the best
pub envelope_stays : (d : ℕ → ℕ → ℕ) (gaps : ℕ → ℕ) (P Q : ℕ → Type 0) (u : ℕ) (spans : List Span)
    → IsMore gaps P Q u → (count end : ℕ)
    → ((x column : ℕ) → x < end → IsBest d gaps P x column
    → distance_from d gaps column x ≤ distance_from d gaps u x)
    → IsEnvelope d gaps P spans count end → IsEnvelope d gaps Q spans count end
envelope_stays d gaps P Q u spans more zero end stays envelope = envelope
envelope_stays d gaps P Q u spans more (suc count) end stays envelope =
    let top = envelope.0 in
    let some = top.some in (
      record {
        some = top.some;
        best = λ x from below. best_stays d gaps P Q u x (span_at spans count).column more
            (stays x (span_at spans count).column below (top.best x from below))
            (top.best x from below);
        gap_is = top.gap_is;
      },
      envelope_stays d gaps P Q u spans more count (span_at spans count).start
          (λ x column below best. stays x column (omega (arith, some, below)) best) envelope.1,
    )

-- what is written above the first spans doesn't change them
pub envelope_same : (d : ℕ → ℕ → ℕ) (gaps : ℕ → ℕ) (P : ℕ → Type 0) (spans others : List Span)
    (count end : ℕ)
    → ((place : ℕ) → place < count → span_at others place ≡ span_at spans place)
    → IsEnvelope d gaps P spans count end → IsEnvelope d gaps P others count end
envelope_same d gaps P spans others zero end same envelope = envelope
envelope_same d gaps P spans others (suc count) end same envelope =
    let here : span_at others count ≡ span_at spans count = same count (omega arith) in (
      rw here envelope.0,
      rw here (envelope_same d gaps P spans others count (span_at spans count).start
          (λ place below. same place (omega arith)) envelope.1),
    )

-- what is known of the last of some spans
pub record IsTop (d : ℕ → ℕ → ℕ) (gaps : ℕ → ℕ) (P : ℕ → Type 0) (spans : List Span)
    (count width : ℕ) : Type 0 where
  pub start : (span_at spans (count - 1)).start < width
  pub best : IsBest d gaps P (span_at spans (count - 1)).start (span_at spans (count - 1)).column
  pub gap_is : (span_at spans (count - 1)).gap ≡ gaps (span_at spans (count - 1)).column

-- the last span's column is the best at its first cell, which lies in the row
pub cut_top : (d : ℕ → ℕ → ℕ) (gaps : ℕ → ℕ) (P : ℕ → Type 0) (u : ℕ) (spans : List Span)
    (width count : ℕ) → 0 < count
    → IsCutAt d gaps P spans count width u → IsTop d gaps P spans count width
cut_top d gaps P u spans width zero some cut = absurd (omega arith)
cut_top d gaps P u spans width (suc count) some cut =
    let before : suc count - 1 ≡ count = omega arith in
    let top = cut.covered.0 in
    let inside = top.some in
    let within = cut.within in
    record {
      start = rw before (omega (arith, inside, within));
      best = rw before (top.best (span_at spans count).start (omega arith) inside);
      gap_is = rw before top.gap_is;
    }

-- a span at whose first cell one more column is strictly nearer is taken off
cut_drop_last : (d : ℕ → ℕ → ℕ) (gaps : ℕ → ℕ) (P : ℕ → Type 0) (u : ℕ) (spans : List Span)
    (width count : ℕ) → StaysNearer d → width ≤ 4098
    → ((column : ℕ) → P column → AreColumns column (gaps column) u (gaps u))
    → IsCutAt d gaps P spans (suc count) width u
    → distance_from d gaps u (span_at spans count).start
    < distance_from d gaps (span_at spans count).column (span_at spans count).start
    → IsCutAt d gaps P spans count width u
cut_drop_last d gaps P u spans width count stays few pairs cut beaten =
    let span = span_at spans count in
    let top = cut.covered.0 in
    let some = top.some in
    let within = cut.within in
    let own = top.best span.start (omega arith) some in
    record {
      end = span.start;
      within = omega (arith, some, within);
      covered = cut.covered.1;
      beyond = λ x from below other p. elim (cases_lt x cut.end) [
        | inl inside ↦
            let nearer : IsRightNearer d span.column (gaps span.column) u (gaps u) x =
            stays span.column (gaps span.column) u (gaps u) span.start x
            (pairs span.column own.among) from (omega (arith, few, below))
            (record { less = beaten }) in
            let less = nearer.less in
            let least = (top.best x from inside).least other p in
            omega (arith, less, least)
        | inr past ↦ cut.beyond x past below other p
      ];
    }

-- a span at whose first cell one more column is strictly nearer is taken off, for any count
pub cut_drop : (d : ℕ → ℕ → ℕ) (gaps : ℕ → ℕ) (P : ℕ → Type 0) (u : ℕ) (spans : List Span)
    (width count : ℕ) → 0 < count → StaysNearer d → width ≤ 4098
    → ((column : ℕ) → P column → AreColumns column (gaps column) u (gaps u))
    → IsCutAt d gaps P spans count width u
    → (let span = span_at spans (count - 1) in
    distance_from d gaps u span.start < distance_from d gaps span.column span.start)
    → IsCutAt d gaps P spans (count - 1) width u
cut_drop d gaps P u spans width zero some stays few pairs cut beaten = absurd (omega arith)
cut_drop d gaps P u spans width (suc count) some stays few pairs cut beaten =
    let before : suc count - 1 ≡ count = omega arith in
    rw before (cut_drop_last d gaps P u spans width count stays few pairs cut (rw before at beaten))

-- before any span is taken off, all cells of the row have one, or there is no column
pub cut_begin : (d : ℕ → ℕ → ℕ) (gaps : ℕ → ℕ) (P : ℕ → Type 0) (u : ℕ) (spans : List Span)
    (width count : ℕ)
    → IsCovered d gaps P spans count width → IsCutAt d gaps P spans count width u
cut_begin d gaps P u spans width zero covered = record {
  end = 0;
  within = omega arith;
  covered = refl;
  beyond = λ x from below other p. absurd (covered.none refl other p);
}
cut_begin d gaps P u spans width (suc count) covered = record {
  end = width;
  within = omega arith;
  covered = covered.some (omega arith);
  beyond = λ x from below other p. absurd (omega arith);
}

-- spans are right for the same set of columns, restated
envelope_equal : (d : ℕ → ℕ → ℕ) (gaps : ℕ → ℕ) (P Q : ℕ → Type 0) (spans : List Span)
    → ((column : ℕ) → P column → Q column) → ((column : ℕ) → Q column → P column)
    → (count end : ℕ) → IsEnvelope d gaps P spans count end → IsEnvelope d gaps Q spans count end
envelope_equal d gaps P Q spans there back zero end envelope = envelope
envelope_equal d gaps P Q spans there back (suc count) end envelope = (
  record {
    some = envelope.0.some;
    best = λ x from below. let best = envelope.0.best x from below in record {
      among = there (span_at spans count).column best.among;
      least = λ other q. best.least other (back other q);
      first = λ other q left. best.first other (back other q) left;
    };
    gap_is = envelope.0.gap_is;
  },
  envelope_equal d gaps P Q spans there back count (span_at spans count).start envelope.1,
)

-- the spans of the row are those for the same set of columns, restated
pub covered_equal : (d : ℕ → ℕ → ℕ) (gaps : ℕ → ℕ) (P Q : ℕ → Type 0) (spans : List Span)
    (count width : ℕ) → ((column : ℕ) → P column → Q column) → ((column : ℕ) → Q column → P column)
    → IsCovered d gaps P spans count width → IsCovered d gaps Q spans count width
covered_equal d gaps P Q spans count width there back covered = record {
  none = λ none column q. covered.none none column (back column q);
  some = λ some. envelope_equal d gaps P Q spans there back count width (covered.some some);
}
