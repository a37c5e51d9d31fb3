-- The columns of a row of the table, and the columns of a metric's laws.
use Rattle.std.proofs.Common.{◌≡◌, ℕ, ◌+◌, ◌-◌, ◌<◌, ◌≤◌, inl, inr, List, length, slice_index}
use Rattle.std.proofs.Common.{arith}
use Rattle.std.proofs.lemmas.Bool.{cases_lt}
use Rattle.metric.specs.Crossing.{AreColumns}
use Rattle.envelope.specs.Columns.{AreEntries, IsAmong, IsColumnFrom, gap_of}
use Rattle.envelope.specs.declared.cover.Span.{Span}
use Rattle.envelope.specs.Envelope.{IsCutAt, span_at}
use Rattle.envelope.proofs.Envelopes.{IsMore, cut_top}

-- a column with an obstacle has a gap of fewer rows than the largest map
pub gap_small : (entries : List ℕ) (y column : ℕ) → AreEntries entries y
    → IsAmong entries (length entries) column → gap_of entries y column ≤ 4097
gap_small entries y column row among = let entry = row.each column among.left among.some in
    let seen = row.seen_from in omega (arith, entry, seen)

-- each column before another one is left of it
pub pairs_left : (entries : List ℕ) (y u : ℕ) → AreEntries entries y
    → IsAmong entries (length entries) u
    → (column : ℕ) → IsAmong entries u column
    → AreColumns column (gap_of entries y column) u (gap_of entries y u)
pairs_left entries y u row right column left =
    let before = left.left in
    let inside = right.left in
    let few = row.few in
    record {
      order = left.left;
      within = omega (arith, inside, few);
      left = gap_small entries y column row
          (record { left = omega (arith, before, inside); some = left.some });
      right = gap_small entries y u row right;
    }

-- each column of a piece before another one is left of it
pub pairs_from : (entries : List ℕ) (y first u : ℕ) → AreEntries entries y
    → IsAmong entries (length entries) u
    → (column : ℕ) → IsColumnFrom entries first u column
    → AreColumns column (gap_of entries y column) u (gap_of entries y u)
pairs_from entries y first u row right column left =
    pairs_left entries y u row right column left.among

-- the numbers of a span are those of a map, and its gap is its column's
pub record IsKnown (entries : List ℕ) (y u : ℕ) (span : Span) : Type 0 where
  pub start : span.start ≤ 4097
  pub among : IsAmong entries u span.column
  pub column : span.column ≤ 4097
  pub gap_is : span.gap ≡ gap_of entries y span.column
  pub gap : span.gap ≤ 4097
  pub pair : AreColumns span.column span.gap u (gap_of entries y u)

-- what is known of the last span that is kept for one more column
pub top_known : (d : ℕ → ℕ → ℕ) (entries : List ℕ) (y first width u : ℕ) (spans : List Span)
    (count : ℕ) → AreEntries entries y → IsAmong entries (length entries) u → 0 < count
    → width ≤ length entries
    → IsCutAt d (gap_of entries y) (IsColumnFrom entries first u) spans count width u
    → IsKnown entries y u (span_at spans (count - 1))
top_known d entries y first width u spans count row right some within cut =
    let top = cut_top d (gap_of entries y) (IsColumnFrom entries first u) u spans width count some
    cut in
    let span = span_at spans (count - 1) in
    let few = row.few in
    let start = top.start in
    let among = top.best.among.among in
    let left = among.left in
    let inside = right.left in
    let known : IsAmong entries (length entries) span.column =
    record { left = omega (arith, left, inside); some = among.some } in
    let small = gap_small entries y span.column row known in
    let gap_is = top.gap_is in
    record {
      start = omega (arith, start, few, within);
      among = among;
      column = omega (arith, left, inside, few);
      gap_is = gap_is;
      gap = omega (arith, small, gap_is);
      pair = rw gap_is (pairs_left entries y u row right span.column among);
    }

-- a column with an obstacle joins those of a piece before it
pub more_with : (entries : List ℕ) (y first u : ℕ) → AreEntries entries y
    → IsColumnFrom entries first (length entries) u
    → IsMore (gap_of entries y) (IsColumnFrom entries first u)
    (IsColumnFrom entries first (u + 1)) u
more_with entries y first u row right = record {
  there = λ column from. let left = from.among.left in
      record {
        low = from.low;
        among = record { left = omega (arith, left); some = from.among.some };
      };
  here = record { low = right.low; among = record { left = omega arith; some = right.among.some } };
  back = λ column from. elim (cases_lt column u) [
    | inl before ↦
        inl (record { low = from.low; among = record { left = before; some = from.among.some } })
    | inr after ↦ let left = from.among.left in inr (omega (arith, left))
  ];
  pairs = pairs_from entries y first u row right.among;
}

-- a column without an obstacle adds nothing to those before it
pub same_without : (entries : List ℕ) (first u : ℕ) → slice_index entries u ≡ 65535 → (column : ℕ)
    → IsColumnFrom entries first (u + 1) column → IsColumnFrom entries first u column
same_without entries first u none column from = elim (cases_lt column u) [
  | inl before ↦ record { low = from.low; among = record { left = before; some = from.among.some } }
  | inr after ↦
      let left = from.among.left in
      let same : column ≡ u = omega (arith, after, left) in
      absurd (from.among.some (rw same none))
]

-- what stands among the first columns stands among one more
pub more_left : (entries : List ℕ) (first u column : ℕ) → IsColumnFrom entries first u column
    → IsColumnFrom entries first (u + 1) column
more_left entries first u column from = let left = from.among.left in
    record { low = from.low; among = record { left = omega (arith, left); some = from.among.some } }
