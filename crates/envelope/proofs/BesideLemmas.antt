-- The best place so far, one more place, and the nearest column.
use Rattle.std.proofs.Common.{◌≡◌, ℕ, ◌+◌, ◌-◌, ◌<◌, ◌≤◌, ◌==◌, ◌⊎◌, min, inl, inr, List, length}
use Rattle.std.proofs.Common.{slice_index, refl, sym, ◌∙◌, arith, if◌then◌else◌, true, false}
use Rattle.std.specs.Int.{abs_diff}
use Rattle.std.proofs.lemmas.Bool.{cases_lt, ne_eqb}
use Rattle.std.proofs.lemmas.Bool.Decides.{nat_tests}
use Rattle.metric.specs.declared.edge.Edge.{Edge}
use Rattle.metric.specs.Distance.{Grows}
use Rattle.metric.specs.Crossing.{StaysNearer}
use Rattle.metric.specs.Lanes.{IsSmall}
use Rattle.metric.proofs.Growing.{of_grows}
use Rattle.envelope.specs.Beside.{AreDecided, AreColumnParts, AreTold, IsBestIn, IsToldByLanes}
use Rattle.envelope.specs.Beside.{small_distance}
use Rattle.envelope.specs.Columns.{AreEntries, IsAmong, gap_of}
use Rattle.envelope.proofs.Entries.{gap_small}

-- a number is equal to itself
same_is_equal : (n : ℕ) → (n == n) ≡ true
same_is_equal n = grind (arith, nat_tests)

-- the number of two which is the less, and whether it is the second
less_first : (a b : ℕ) → a < b → (min a b ≡ a) × ((min a b == b) ≡ false)
less_first a b less =
    let e : min a b ≡ a = omega arith in
    (e, rw e (ne_eqb a b (λ same. absurd (omega (arith, same, less)))))

-- a further place on the left: it wins where it isn't worse
best_left : (far : ℕ → ℕ) (place from to best away value left : ℕ) → value ≡ far from
    → left + place ≡ from + 128
    → IsBestIn far place (from + 1) to best away → from < to
    → IsBestIn far place from to (min best value) (if min best value == value then left else away)
best_left far place from to best away value left value_is left_is known some =
    elim (cases_lt best value) [
      | inl less ↦
          let kept = less_first best value less in
          let low = known.low in
          rw (kept.1, kept.0) (record {
            other = known.other;
            where_is = known.where_is;
            low = omega (arith, low);
            high = known.high;
            best_is = known.best_is;
            least = λ p at_least before. elim (cases_lt from p) [
              | inl behind ↦ known.least p (omega arith) before
              | inr here ↦ let same : p ≡ from = omega arith in
                  rw same (omega (arith, value_is, less))
            ];
            first = λ p at_least before. elim (cases_lt from p) [
              | inl behind ↦ known.first p (omega arith) before
              | inr here ↦ let same : p ≡ from = omega arith in
                  rw same (omega (arith, value_is, less))
            ];
          })
      | inr more ↦
          let e : min best value ≡ value = omega arith in
          let test : (value == value) ≡ true = same_is_equal value in
          rw (e, test) (record {
            other = from;
            where_is = omega (arith, left_is);
            low = omega arith;
            high = some;
            best_is = sym value_is;
            least = λ p at_least before. elim (cases_lt from p) [
              | inl behind ↦ let least = known.least p (omega arith) before in
                  omega (arith, least, more)
              | inr here ↦ let same : p ≡ from = omega arith in rw same (omega (arith, value_is))
            ];
            first = λ p at_least before. absurd (omega (arith, at_least, before));
          })
    ]

-- a further place on the right: it wins where it is strictly better
best_right : (far : ℕ → ℕ) (place from to best away value right : ℕ) → value ≡ far to
    → right + place ≡ to + 128
    → IsBestIn far place from to best away
    → IsBestIn far place from (to + 1) (min best value)
    (if min best value == best then away else right)
best_right far place from to best away value right value_is right_is known =
    elim (cases_lt value best) [
      | inl less ↦
          let e : min best value ≡ value = omega arith in
          let test : (value == best) ≡ false = ne_eqb value best
          (λ same. absurd (omega (arith, same, less))) in
          let low = known.low in
          let high = known.high in
          rw (e, test) (record {
            other = to;
            where_is = omega (arith, right_is);
            low = omega (arith, low, high);
            high = omega arith;
            best_is = sym value_is;
            least = λ p at_least before. elim (cases_lt p to) [
              | inl inside ↦ let least = known.least p at_least inside in omega (arith, least, less)
              | inr here ↦ let same : p ≡ to = omega arith in rw same (omega (arith, value_is))
            ];
            first = λ p at_least before. let least = known.least p at_least before in
                omega (arith, least, less);
          })
      | inr more ↦
          let e : min best value ≡ best = omega arith in
          let test : (best == best) ≡ true = same_is_equal best in
          let high = known.high in
          rw (e, test) (record {
            other = known.other;
            where_is = known.where_is;
            low = known.low;
            high = omega (arith, high);
            best_is = known.best_is;
            least = λ p at_least before. elim (cases_lt p to) [
              | inl inside ↦ known.least p at_least inside
              | inr here ↦ let same : p ≡ to = omega arith in
                  rw same (omega (arith, value_is, more))
            ];
            first = known.first;
          })
    ]

-- with one more column on both sides the best of the columns is chosen among all of them
pub best_wider : (d joined : ℕ → ℕ → ℕ) (parts : List ℕ) (place k b a l r b1 a1 b2 a2 : ℕ) → 1 ≤ k
    → k ≤ 97 → 128 ≤ place
    → l ≡ joined (slice_index parts (place - k)) (d k 0)
    → r ≡ joined (slice_index parts (place + k)) (d k 0)
    → b1 ≡ min b l → a1 ≡ (if b1 == l then 128 - k else a) → b2 ≡ min b1 r
    → a2 ≡ (if b2 == b1 then a1 else 128 + k)
    → IsBestIn (small_distance d joined parts place) place (place + 1 - k) (place + k) b a
    → IsBestIn (small_distance d joined parts place) place (place + 1 - (k + 1))
    (place + (k + 1)) b2 a2
best_wider d joined parts place k b a l r b1 a1 b2 a2 some few inside l_is r_is b1_is a1_is b2_is
    a2_is known =
    let far = small_distance d joined parts place in
    let before : abs_diff place (place - k) ≡ k = omega arith in
    let behind : abs_diff place (place + k) ≡ k = omega arith in
    let left_is : l ≡ far (place - k) = rw before l_is in
    let right_is : r ≡ far (place + k) = rw behind r_is in
    let start : place + 1 - k ≡ (place - k) + 1 = omega arith in
    let wider = best_left far place (place - k) (place + k) b a l (128 - k) left_is (omega arith)
    (rw start at known) (omega arith) in
    let whole = best_right far place (place - k) (place + k) (min b l)
    (if min b l == l then 128 - k else a) r (128 + k) right_is (omega arith) wider in
    let low : place + 1 - (k + 1) ≡ place - k = omega arith in
    let high : place + (k + 1) ≡ (place + k) + 1 = omega arith in
    rw (a2_is, b2_is, a1_is, b1_is, low, high) whole

module _ (d joined : ℕ → ℕ → ℕ) (part : ℕ → ℕ) (small : IsSmall d part joined) where
  -- a distance in 16 bits is the distance itself, where it is small
  told_same : (dx g best : ℕ) → dx ≤ 97 → g ≤ 4097 → best < 32400 → joined (part g) (d dx 0) ≡ best
      → d dx g ≡ best
  told_same dx g best near row few is = let same = small.told dx g near row in
      omega (arith, same, is, few)

  -- where a distance in 16 bits isn't less than a small one, the distance itself isn't
  told_least : (dx g best : ℕ) → dx ≤ 97 → g ≤ 4097 → best < 32400 → best ≤ joined (part g) (d dx 0)
      → best ≤ d dx g
  told_least dx g best near row few least = let same = small.told dx g near row in
      omega (arith, same, least, few)

  -- where a distance in 16 bits is greater than a small one, the distance itself is
  told_more : (dx g best : ℕ) → dx ≤ 97 → g ≤ 4097 → best < 32400 → best < joined (part g) (d dx 0)
      → best < d dx g
  told_more dx g best near row few more = let same = small.told dx g near row in
      omega (arith, same, more, few)

-- a place with a small part is that of a column
column_place : (part : ℕ → ℕ) (entries : List ℕ) (y : ℕ) (parts : List ℕ) (p : ℕ)
    → AreColumnParts part entries y parts → p < length entries + 272 → slice_index parts p < 32400
    → (128 ≤ p) × (p < length entries + 128)
column_place part entries y parts p laid inside few = (
  elim (cases_lt p 128) [
    | inl before ↦ let none = laid.before p before in
        absurd (omega (arith, none, few))
    | inr behind ↦ behind
  ],
  elim (cases_lt p (length entries + 128)) [
    | inl before ↦ before
    | inr behind ↦ let none = laid.behind p behind inside in
        absurd (omega (arith, none, few))
  ],
)

-- a column with a small part has an obstacle
column_some : (d joined : ℕ → ℕ → ℕ) (part : ℕ → ℕ) (entries : List ℕ) (y : ℕ) (parts : List ℕ)
    (column : ℕ) → IsSmall d part joined → AreEntries entries y
    → AreColumnParts part entries y parts → column < length entries
    → slice_index parts (column + 128) < 32400 → IsAmong entries (length entries) column
column_some d joined part entries y parts column small row laid inside few = record {
  left = inside;
  some = λ none.
      let seen = row.seen_from in
      let gap : 61438 ≤ abs_diff y (slice_index entries column) = rw none (omega (arith, seen)) in
      let most = small.far (abs_diff y (slice_index entries column)) gap in
      let is = laid.each column inside in
      absurd (omega (arith, most, is, few));
}

module _ (d joined : ℕ → ℕ → ℕ) (part : ℕ → ℕ) (small : IsSmall d part joined) (grows : Grows d)
    (stays : StaysNearer d)
    (entries parts : List ℕ) (edge : Edge) (y x place best away k : ℕ) (row : AreEntries entries y)
    (laid : AreColumnParts part entries y parts) (inside : x < length entries)
    (place_is : place ≡ x + 128)
    (few : k ≤ 97) (less : best < d k 0)
    (found : IsBestIn (small_distance d joined parts place) place (place + 1 - k)
    (place + k) best away) where
  -- no distance that was found is large
  best_small : best < 32400
  best_small = let near = small.reach k few in omega (arith, near, less)

  -- a column farther off is farther away
  farther : (column : ℕ) → IsAmong entries (length entries) column → k ≤ abs_diff x column
      → best < d (abs_diff x column) (gap_of entries y column)
  farther column among off =
      let few_columns = row.few in
      let left = among.left in
      let more = of_grows d grows stays k (abs_diff x column) 0 (gap_of entries y column) off
      (omega (arith, inside, left, few_columns)) (omega arith)
      (gap_small entries y column row among) in
      omega (arith, more, less)

  -- what is known of the place of a column that was looked at
  looked_at : (column : ℕ) → column < length entries
      → small_distance d joined parts place (column + 128)
      ≡ joined (part (gap_of entries y column)) (d (abs_diff x column) 0)
  looked_at column left =
      let apart : abs_diff place (column + 128) ≡ abs_diff x column = omega (arith, place_is) in
      rw (apart, laid.each column left) refl

  -- no column is nearer
  no_nearer : (column : ℕ) → IsAmong entries (length entries) column
      → best ≤ d (abs_diff x column) (gap_of entries y column)
  no_nearer column among = elim (cases_lt (abs_diff x column) k) [
    | inl near ↦
        let least = rw (looked_at column among.left) at
        (found.least (column + 128) (omega (arith, near, place_is))
        (omega (arith, near, place_is))) in
        told_least d joined part small (abs_diff x column) (gap_of entries y column) best
        (omega (arith, near, few)) (gap_small entries y column row among) best_small least
    | inr off ↦ let more = farther column among off in omega (arith, more)
  ]

  -- each column before the one found is farther away
  before_farther : (column : ℕ) → IsAmong entries (length entries) column
      → column + 128 < found.other → best < d (abs_diff x column) (gap_of entries y column)
  before_farther column among before = elim (cases_lt (abs_diff x column) k) [
    | inl near ↦
        let more = rw (looked_at column among.left) at
        (found.first (column + 128) (omega (arith, near, place_is)) before) in
        told_more d joined part small (abs_diff x column) (gap_of entries y column) best
        (omega (arith, near, few)) (gap_small entries y column row among) best_small more
    | inr off ↦ farther column among off
  ]

  -- the obstacle of the column that was found is the nearest column's
  found_told : IsToldByLanes d entries y edge x best away
  found_told =
      let low = found.low in
      let high = found.high in
      let is = found.best_is in
      let where_is = found.where_is in
      let at_least = small.at_least (slice_index parts found.other)
      (d (abs_diff place found.other) 0) in
      let part_small : slice_index parts found.other < 32400 =
      omega (arith, at_least, is, best_small) in
      let within = column_place part entries y parts found.other laid
      (omega (arith, high, place_is, inside, few)) part_small in
      let within_left = within.0 in
      let within_right = within.1 in
      let column = x + away - 128 in
      let other_is : found.other ≡ column + 128 = omega (arith, where_is, place_is, within_left) in
      let left : column < length entries = omega (arith, other_is, within_right) in
      let among = column_some d joined part entries y parts column small row laid left
      (rw other_is at part_small) in
      let near : abs_diff x column ≤ 97 = omega (arith, other_is, low, high, place_is, few) in
      let value : joined (part (gap_of entries y column)) (d (abs_diff x column) 0) ≡ best =
      sym (looked_at column left) ∙ (rw other_is at is) in
      let dist : d (abs_diff x column) (gap_of entries y column) ≡ best =
      told_same d joined part small (abs_diff x column) (gap_of entries y column) best near
      (gap_small entries y column row among) best_small value in
      record {
        right = omega (arith, where_is, place_is, within_left);
        inside = left;
        near = (
          column,
          record {
            among = among;
            least = λ other there. rw dist (no_nearer other there);
            first = λ other there before. rw dist
                (before_farther other there (omega (arith, before, other_is)));
          },
          rw dist refl,
        );
      }

-- eight cells with their nearest tell the nearest columns
pub are_told : (d joined : ℕ → ℕ → ℕ) (part : ℕ → ℕ) (entries parts : List ℕ) (edge : Edge)
    (y at start : ℕ) (best away : List ℕ) → IsSmall d part joined → Grows d → StaysNearer d
    → AreEntries entries y → AreColumnParts part entries y parts
    → at ≡ start + 128 → AreDecided d joined parts at best away
    → AreTold d entries y edge start best away
are_told d joined part entries parts edge y at start best away small grows stays row laid at_is
    decided i within inside =
    let it = decided i within in
    found_told d joined part small grows stays entries parts edge y (start + i) (at + i)
    (slice_index best i) (slice_index away i) it.k row laid inside
    (omega (arith, at_is)) it.few it.less it.found

-- the parts of all columns, once each is set
pub AreParts-set : (d joined : ℕ → ℕ → ℕ) (part : ℕ → ℕ) (entries : List ℕ) (y : ℕ) (parts : List ℕ)
    → IsSmall d part joined → length parts ≡ length entries + 272
    → ((column : ℕ) → column < length entries
    → slice_index parts (column + 128) ≡ part (abs_diff y (slice_index entries column)))
    → ((p : ℕ) → (p < 128) ⊎ (length entries + 128 ≤ p) → p < length entries + 272
    → slice_index parts p ≡ 32400) → AreColumnParts part entries y parts
AreParts-set d joined part entries y parts small as_many each others = record {
  as_many = as_many;
  small = λ p below. elim (cases_lt p 128) [
    | inl before ↦ let e = others p (inl before) (omega (arith, below, as_many)) in omega (arith, e)
    | inr from ↦ elim (cases_lt p (length entries + 128)) [
      | inl inside ↦
          let sum : p ≡ (p - 128) + 128 = omega (arith, from) in
          let e = each (p - 128) (omega (arith, inside, from)) in
          let few = small.few (abs_diff y (slice_index entries (p - 128))) in
          rw sum (omega (arith, e, few))
      | inr behind ↦ let e = others p (inr behind) (omega (arith, below, as_many)) in
          omega (arith, e)
    ]
  ];
  each = each;
  before = λ p before. others p (inl before) (omega (arith, before));
  behind = λ p from below. others p (inr from) below;
}
