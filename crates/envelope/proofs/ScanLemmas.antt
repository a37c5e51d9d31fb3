-- The least words of the columns on both sides of a cell tell its nearest column.
use Rattle.std.proofs.Common.{◌≡◌, ◌≢◌, ℕ, ◌+◌, ◌-◌, ◌*◌, ◌/◌, ◌%◌, ◌<◌, ◌≤◌, ◌∙◌, min, inl, inr}
use Rattle.std.proofs.Common.{List, length, slice_index, refl, sym, arith}
use Rattle.std.specs.Int.{abs_diff}
use Rattle.std.proofs.lemmas.Bool.{cases_eq, cases_lt, ne_eqb}
use Rattle.metric.specs.Distance.{IsSum}
use Rattle.envelope.specs.Columns.{AreEntries, IsAmong, IsBest, distance_from, gap_of}
use Rattle.envelope.specs.Scans.{HasColumn, IsLeast, IsToldBy, left_word, right_word, word_of}
use Rattle.envelope.proofs.Entries.{gap_small}

-- the word of a column with an obstacle is its distance and its number
word_some : (entry far column : ℕ) → entry ≢ 65535 → word_of entry far column ≡ far * 8192 + column
word_some entry far column some = rw (ne_eqb entry 65535 some) refl

-- a word below the largest is of a column with an obstacle, and has its two numbers
pub record IsSplit (entry far column word : ℕ) : Type 0 where
  pub some : entry ≢ 65535
  pub far_is : word / 8192 ≡ far
  pub column_is : word % 8192 ≡ column

-- a word below the largest tells its column and how far its obstacle is
split_word : (entry far column word : ℕ) → column < 8192 → word_of entry far column ≡ word
    → word < 4294967295 → IsSplit entry far column word
split_word entry far column word few is less = elim (cases_eq entry 65535) [
  | inl none ↦ absurd (let largest : 4294967295 ≡ word = rw none at is in
      omega (arith, largest, less))
  | inr some ↦
      let parts : far * 8192 + column ≡ word = sym (word_some entry far column some) ∙ is in
      record {
        some = some;
        far_is = omega (arith, parts, few);
        column_is = omega (arith, parts, few);
      }
]

-- of the columns of a set the nearest to the cell x, where one is less than so far; no column is
-- nearer than the least, which is 4098 more than the distance
pub record IsSide (d : ℕ → ℕ → ℕ) (gaps : ℕ → ℕ) (P : ℕ → Type 0) (x column far : ℕ) : Type 0 where
  pub found : far < 500000 → P column × (distance_from d gaps column x + 4098 ≡ far)
  pub least : (other : ℕ) → P other → far ≤ distance_from d gaps other x + 4098
  pub first : (other : ℕ) → P other → other < column → far < distance_from d gaps other x + 4098

-- a column with an obstacle no further right than the cell x
pub record IsLeftOf (entries : List ℕ) (x column : ℕ) : Type 0 where
  pub among : IsAmong entries (length entries) column
  pub order : column ≤ x

-- a column with an obstacle no further left than the cell x
pub record IsRightOf (entries : List ℕ) (x column : ℕ) : Type 0 where
  pub among : IsAmong entries (length entries) column
  pub order : x ≤ column

module _ (d : ℕ → ℕ → ℕ) (entries : List ℕ) (y : ℕ) (sum : IsSum d)
    (row : AreEntries entries y) where
  -- how far a column's obstacle is from a cell
  far_from : (x column : ℕ) → x ≤ 4097 → IsAmong entries (length entries) column
      → distance_from d (gap_of entries y) column x ≡ abs_diff x column + gap_of entries y column
  far_from x column inside among =
      let few = row.few in
      let left = among.left in
      sum (abs_diff x column) (gap_of entries y column) (omega (arith, few, left, inside))
      (gap_small entries y column row among)

  -- how far it is at most
  far_few : (x column : ℕ) → x ≤ 4097 → IsAmong entries (length entries) column
      → distance_from d (gap_of entries y) column x ≤ 8194
  far_few x column inside among =
      let few = row.few in
      let left = among.left in
      let is = far_from x column inside among in
      let gap = gap_small entries y column row among in
      omega (arith, is, gap, few, left, inside)

  module _ (x : ℕ) (inside : x < length entries) where
    -- a cell of the row is one of the largest map
    pub cell_few : x ≤ 4097
    cell_few = let few = row.few in omega (arith, few, inside)

    -- the least word of the columns up to a cell tells the nearest of these
    pub left_side : (word : ℕ) → IsLeast (left_word entries y) 0 (x + 1) word
        → IsSide d (gap_of entries y) (IsLeftOf entries x) x (word % 8192) (word / 8192 + x)
    left_side word least = record {
      found = λ near.
          let (place, low, high, is) = least.found (omega (arith, near)) in
          let few = cell_few in
          let parts = split_word (slice_index entries place)
          (gap_of entries y place + 4098 - place) place word (omega (arith, high, few)) is
          (omega (arith, near)) in
          let among : IsAmong entries (length entries) place =
          record { left = omega (arith, high, inside); some = parts.some } in
          let far = far_from x place few among in
          let far_is = parts.far_is in
          rw (parts.column_is) (
            record { among = among; order = omega (arith, high) },
            omega (arith, far, far_is, high, few),
          );
      least = λ other p.
          let few = cell_few in
          let order = p.order in
          let far = far_from x other few p.among in
          let at_most : word ≤ (gap_of entries y other + 4098 - other) * 8192 + other =
          rw (word_some (slice_index entries other) (gap_of entries y other + 4098 - other) other
          p.among.some) at (least.at_most other (omega arith) (omega (arith, order))) in
          omega (arith, far, at_most, order, few);
      first = λ other p before.
          let few = cell_few in
          let order = p.order in
          let far = far_from x other few p.among in
          let at_most : word ≤ (gap_of entries y other + 4098 - other) * 8192 + other =
          rw (word_some (slice_index entries other) (gap_of entries y other + 4098 - other) other
          p.among.some) at (least.at_most other (omega arith) (omega (arith, order))) in
          omega (arith, far, at_most, order, few, before);
    }

    -- the least word of the columns from a cell on tells the nearest of these
    pub right_side : (word : ℕ) → IsLeast (right_word entries y) x (length entries) word
        → IsSide d (gap_of entries y) (IsRightOf entries x) x (word % 8192) (word / 8192 + 4098 - x)
    right_side word least = record {
      found = λ near.
          let few = cell_few in
          let (place, low, high, is) = least.found (omega (arith, near, few)) in
          let many = row.few in
          let parts = split_word (slice_index entries place)
          (gap_of entries y place + place) place word (omega (arith, high, many)) is
          (omega (arith, near, few)) in
          let among : IsAmong entries (length entries) place =
          record { left = high; some = parts.some } in
          let far = far_from x place few among in
          let far_is = parts.far_is in
          rw (parts.column_is) (
            record { among = among; order = low },
            omega (arith, far, far_is, low, few),
          );
      least = λ other p.
          let few = cell_few in
          let order = p.order in
          let far = far_from x other few p.among in
          let many = row.few in
          let left = p.among.left in
          let at_most : word ≤ (gap_of entries y other + other) * 8192 + other =
          rw (word_some (slice_index entries other) (gap_of entries y other + other) other
          p.among.some) at (least.at_most other order left) in
          omega (arith, far, at_most, order, few, many, left);
      first = λ other p before.
          let few = cell_few in
          let order = p.order in
          let far = far_from x other few p.among in
          let many = row.few in
          let left = p.among.left in
          let at_most : word ≤ (gap_of entries y other + other) * 8192 + other =
          rw (word_some (slice_index entries other) (gap_of entries y other + other) other
          p.among.some) at (least.at_most other order left) in
          omega (arith, far, at_most, order, few, many, left, before);
    }

-- the least of some places and of one more on their right is the least of all
pub least_more : (word : ℕ → ℕ) (from to least next : ℕ) → IsLeast word from to least → from ≤ to
    → next ≡ word to → IsLeast word from (to + 1) (min least next)
least_more word from to least next known order next_is = record {
  at_most = λ place low high. elim (cases_lt place to) [
    | inl before ↦ let at_most = known.at_most place low before in omega (arith, at_most)
    | inr after ↦ let same : to ≡ place = omega (arith, after, high) in
        rw (← same, ← next_is) (omega arith)
  ];
  found = λ less. elim (cases_lt least next) [
    | inl own ↦
        let (place, low, high, is) = known.found (omega (arith, own, less)) in
        (place, low, omega (arith, high), omega (arith, is, own))
    | inr new ↦ (to, order, omega arith, omega (arith, next_is, new))
  ];
}

-- the least of some places and of one more on their left is the least of all
pub least_before : (word : ℕ → ℕ) (from to least next : ℕ) → IsLeast word (from + 1) to least
    → from < to → next ≡ word from → IsLeast word from to (min least next)
least_before word from to least next known order next_is = record {
  at_most = λ place low high. elim (cases_lt from place) [
    | inl after ↦ let at_most = known.at_most place (omega (arith, after)) high in
        omega (arith, at_most)
    | inr before ↦ let same : from ≡ place = omega (arith, before, low) in
        rw (← same, ← next_is) (omega arith)
  ];
  found = λ less. elim (cases_lt least next) [
    | inl own ↦
        let (place, low, high, is) = known.found (omega (arith, own, less)) in
        (place, omega (arith, low), high, omega (arith, is, own))
    | inr new ↦ (from, omega arith, order, omega (arith, next_is, new))
  ];
}

-- the nearer one of the nearest columns on both sides of a cell is the nearest of all, and the left
-- one of two as near
module _ (d : ℕ → ℕ → ℕ) (entries : List ℕ) (y : ℕ) (sum : IsSum d) (row : AreEntries entries y)
    (x : ℕ) (inside : x < length entries) (some : HasColumn entries) where
  -- no column is farther than a row and its rows are long
  some_near : (left left_far right right_far : ℕ)
      → IsSide d (gap_of entries y) (IsLeftOf entries x) x left left_far
      → IsSide d (gap_of entries y) (IsRightOf entries x) x right right_far
      → min left_far right_far < 500000
  some_near left left_far right right_far to_left to_right =
      let (column, among) = some in
      let few = far_few d entries y sum row x column
      (cell_few d entries y sum row x inside) among in
      elim (cases_lt x column) [
        | inl after ↦ let least = to_right.least column
            (record { among = among; order = omega (arith, after) }) in omega (arith, least, few)
        | inr before ↦ let least = to_left.least column
            (record { among = among; order = before }) in omega (arith, least, few)
      ]

  -- where the left one isn't farther
  best_left : (left left_far right right_far : ℕ)
      → IsSide d (gap_of entries y) (IsLeftOf entries x) x left left_far
      → IsSide d (gap_of entries y) (IsRightOf entries x) x right right_far → left_far ≤ right_far
      → IsBest d (gap_of entries y) (IsAmong entries (length entries)) x left
      × (distance_from d (gap_of entries y) left x + 4098 ≡ left_far)
  best_left left left_far right right_far to_left to_right nearer =
      let near = some_near left left_far right right_far to_left to_right in
      let (own, far) = to_left.found (omega (arith, near, nearer)) in
      let order = own.order in (
        record {
          among = own.among;
          least = λ other among. elim (cases_lt x other) [
            | inl after ↦ let least = to_right.least other
                (record { among = among; order = omega (arith, after) }) in
                omega (arith, least, far, nearer)
            | inr before ↦ let least = to_left.least other
                (record { among = among; order = before }) in omega (arith, least, far)
          ];
          first = λ other among left_of. let less =
              to_left.first other (record { among = among; order = omega (arith, left_of, order) })
              left_of in omega (arith, less, far);
        },
        far,
      )

  -- where the right one is nearer
  best_right : (left left_far right right_far : ℕ)
      → IsSide d (gap_of entries y) (IsLeftOf entries x) x left left_far
      → IsSide d (gap_of entries y) (IsRightOf entries x) x right right_far → right_far < left_far
      → IsBest d (gap_of entries y) (IsAmong entries (length entries)) x right
      × (distance_from d (gap_of entries y) right x + 4098 ≡ right_far)
  best_right left left_far right right_far to_left to_right nearer =
      let near = some_near left left_far right right_far to_left to_right in
      let (own, far) = to_right.found (omega (arith, near, nearer)) in (
        record {
          among = own.among;
          least = λ other among. elim (cases_lt x other) [
            | inl after ↦ let least = to_right.least other
                (record { among = among; order = omega (arith, after) }) in
                omega (arith, least, far)
            | inr before ↦ let least = to_left.least other
                (record { among = among; order = before }) in omega (arith, least, far, nearer)
          ];
          first = λ other among left_of. elim (cases_lt x other) [
            | inl after ↦ let less = to_right.first other
                (record { among = among; order = omega (arith, after) }) left_of in
                omega (arith, less, far)
            | inr before ↦ let least = to_left.least other
                (record { among = among; order = before }) in omega (arith, least, far, nearer)
          ];
        },
        far,
      )

  -- a word of the nearer one of two columns, with its distance, tells the cell
  pub told_nearer : (left right word : ℕ) → IsLeast (left_word entries y) 0 (x + 1) left
      → IsLeast (right_word entries y) x (length entries) right
      → word / 8192 + 4098 ≡ min (left / 8192 + x) (right / 8192 + 4098 - x)
      → (left / 8192 + x ≤ right / 8192 + 4098 - x → word % 8192 ≡ left % 8192)
      → (right / 8192 + 4098 - x < left / 8192 + x → word % 8192 ≡ right % 8192)
      → IsToldBy d entries y x word
  told_nearer left right word low high far to_left to_right =
      let left_is = left_side d entries y sum row x inside left low in
      let right_is = right_side d entries y sum row x inside right high in
      elim (cases_lt (right / 8192 + 4098 - x) (left / 8192 + x)) [
        | inl less ↦
            let (best, own) = best_right (left % 8192) (left / 8192 + x) (right % 8192)
            (right / 8192 + 4098 - x) left_is right_is less in
            let column = to_right less in
            record { best = rw column best; far = rw column (omega (arith, far, own, less)) }
        | inr more ↦
            let (best, own) = best_left (left % 8192) (left / 8192 + x) (right % 8192)
            (right / 8192 + 4098 - x) left_is right_is more in
            let column = to_left more in
            record { best = rw column best; far = rw column (omega (arith, far, own, more)) }
      ]

-- the least word of the columns up to a cell counts so far that no distance to the left falls below
-- nothing
pub left_enough : (entries : List ℕ) (y x word : ℕ) → AreEntries entries y → x < length entries
    → IsLeast (left_word entries y) 0 (x + 1) word → 4098 ≤ word / 8192 + x
left_enough entries y x word row inside least = elim (cases_lt word 4294967295) [
  | inl less ↦
      let (place, low, high, is) = least.found less in
      let many = row.few in
      let parts = split_word (slice_index entries place)
      (gap_of entries y place + 4098 - place) place word
      (omega (arith, high, inside, many)) is less in
      let far = parts.far_is in
      omega (arith, far, high, inside, many)
  | inr more ↦ omega (arith, more)
]

-- the least word of the columns from a cell on counts so far that no distance to the right falls
-- below nothing
pub right_enough : (entries : List ℕ) (y x word : ℕ) → AreEntries entries y → x < length entries
    → IsLeast (right_word entries y) x (length entries) word → x ≤ word / 8192
right_enough entries y x word row inside least = elim (cases_lt word 4294967295) [
  | inl less ↦
      let (place, low, high, is) = least.found less in
      let many = row.few in
      let parts = split_word (slice_index entries place) (gap_of entries y place + place) place word
      (omega (arith, high, many)) is less in
      let far = parts.far_is in
      omega (arith, far, low)
  | inr more ↦ let many = row.few in omega (arith, more, inside, many)
]
