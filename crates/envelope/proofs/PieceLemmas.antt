-- The columns that are enough for a piece of a row: those between the nearest ones to the cells
-- next to it.
use Rattle.std.proofs.Common.{◌≡◌, ℕ, ◌+◌, ◌-◌, ◌<◌, ◌≤◌, inl, inr, List, length, slice_index, ap}
use Rattle.std.proofs.Common.{unsigned_abs, arith}
use Rattle.std.proofs.lemmas.Bool.{cases_lt}
use Rattle.metric.specs.Crossing.{AreColumns, IsRightNearer, StaysNearer}
use Rattle.metric.specs.declared.edge.Edge.TheVariants.{Open}
use Rattle.metric.specs.declared.near.Near.{Near}
use Rattle.envelope.specs.Beside.{AreTold}
use Rattle.envelope.specs.Columns.{AreEntries, IsAmong, IsBest, IsColumnFrom, distance_from, gap_of}
use Rattle.envelope.specs.Pieces.{IsBeaten, IsBestOfAll, IsEnough, IsLeftBound, IsPiece}
use Rattle.envelope.specs.Pieces.{IsRightBound}
use Rattle.envelope.proofs.Entries.{pairs_left}

-- the best of a set is the best of a larger one, each column of which is beaten by one of the set
pub best_of_enough : (d : ℕ → ℕ → ℕ) (gaps : ℕ → ℕ) (P Q : ℕ → Type 0) (x column : ℕ)
    → ((c : ℕ) → Q c → P c) → ((other : ℕ) → P other → IsBeaten d gaps Q x other)
    → IsBest d gaps Q x column → IsBest d gaps P x column
best_of_enough d gaps P Q x column there beaten best = record {
  among = there column best.among;
  least = λ other p.
      let it = beaten other p in
      let least = best.least it.by it.among in
      let not_farther = it.not_farther in
      omega (arith, least, not_farther);
  first = λ other p left.
      let it = beaten other p in
      let least = best.least it.by it.among in
      let not_farther = it.not_farther in
      elim (cases_lt other it.by) [
        | inl before ↦ let nearer = it.nearer before in omega (arith, least, nearer)
        | inr after ↦ let first = best.first it.by it.among (omega (arith, after, left)) in
            omega (arith, first, not_farther)
      ];
}

module _ (d : ℕ → ℕ → ℕ) (entries : List ℕ) (y : ℕ) (stays : StaysNearer d)
    (row : AreEntries entries y) where
  -- a column of the row before another one is left of it
  pair : (left right : ℕ) → IsAmong entries (length entries) left
      → IsAmong entries (length entries) right → left < right
      → AreColumns left (gap_of entries y left) right (gap_of entries y right)
  pair left right one other before = pairs_left entries y right row other left
      (record { left = before; some = one.some })

  -- the nearest column to a cell is nearer than those left of it to each cell further right
  left_nearer : (cell first x other : ℕ) → IsBestOfAll d entries y cell first → cell ≤ x → x ≤ 4097
      → IsAmong entries (length entries) other → other < first
      → distance_from d (gap_of entries y) first x < distance_from d (gap_of entries y) other x
  left_nearer cell first x other best before within among left =
      let nearer : IsRightNearer d other (gap_of entries y other) first
      (gap_of entries y first) cell = record { less = best.first other among left } in
      (stays other (gap_of entries y other) first (gap_of entries y first) cell x
      (pair other first among best.among left) before within nearer).less

  -- the nearest column to a cell is no farther than those right of it from each cell further left
  right_not_farther : (cell top x other : ℕ) → IsBestOfAll d entries y cell top → x ≤ cell
      → cell ≤ 4097 → IsAmong entries (length entries) other → top < other
      → distance_from d (gap_of entries y) top x ≤ distance_from d (gap_of entries y) other x
  right_not_farther cell top x other best before within among right =
      elim (cases_lt (distance_from d (gap_of entries y) other x)
      (distance_from d (gap_of entries y) top x)) [
        | inl less ↦
            let nearer : IsRightNearer d top (gap_of entries y top) other
            (gap_of entries y other) x =
            record { less = less } in
            let there = (stays top (gap_of entries y top) other (gap_of entries y other) x cell
            (pair top other best.among among right) before within nearer).less in
            let least = best.least other among in
            absurd (omega (arith, there, least))
        | inr more ↦ more
      ]

  -- the nearest column to a cell isn't left of the nearest one to a cell further left
  in_order : (cell first end top : ℕ) → IsBestOfAll d entries y cell first
      → IsBestOfAll d entries y end top → cell ≤ end → end ≤ 4097 → first ≤ top
  in_order cell first end top left right before within = elim (cases_lt top first) [
    | inl less ↦
        let nearer = left_nearer cell first end top left before within right.among less in
        let least = right.least first left.among in
        absurd (omega (arith, nearer, least))
    | inr more ↦ more
  ]

  module _ (start end first last : ℕ) (left : IsLeftBound d entries y start first)
      (right : IsRightBound d entries y end last) (some : start < end) where
    -- the cells at both ends are those of a map
    end_within : end < length entries → end ≤ 4097
    end_within inside = let few = row.few in omega (arith, few, inside)

    -- a column before which the columns end is one of the row's, or the row's end
    last_inside : last ≤ length entries
    last_inside = elim (cases_lt end (length entries)) [
      | inl inside ↦ let (one, best) = right.best inside in let among = best.among.left in
          omega (arith, one, among)
      | inr whole ↦ let within = right.within in
          let is = right.whole (omega (arith, whole, within)) in omega (arith, is)
    ]

    -- the first column isn't after the last one
    columns_order : first ≤ last
    columns_order = elim (cases_lt last first) [
      | inl less ↦ elim (cases_lt end (length entries)) [
        | inl inside ↦
            let (one, best) = right.best inside in
            let (cell, before, own) = left.best (last - 1) best.among (omega (arith, less)) in
            let order = in_order cell first end (last - 1) own best (omega (arith, before, some))
            (end_within inside) in
            absurd (omega (arith, order, less, one))
        | inr whole ↦ let within = right.within in
            let is = right.whole (omega (arith, whole, within)) in let few = left.inside in
            absurd (omega (arith, is, less, few))
      ]
      | inr fine ↦ fine
    ]

    -- the bounds make a piece
    pub piece_between : IsPiece entries
        (record { from = start; end = end; first = first; last = last })
    piece_between = record {
      columns = columns_order;
      inside = last_inside;
      some = some;
      within = right.within;
    }

    -- a column left of the first one is beaten by it
    beaten_left : (x other : ℕ) → start ≤ x → x < end → IsAmong entries (length entries) other
        → other < first → IsBeaten d (gap_of entries y) (IsColumnFrom entries first last) x other
    beaten_left x other from below among before =
        let (cell, cell_before, best) = left.best other among before in
        let within = right.within in
        let few = row.few in
        let order = columns_order in
        let own = best.among.left in
        let nearer = left_nearer cell first x other best (omega (arith, cell_before, from))
        (omega (arith, below, within, few)) among before in
        let inside : first < last = elim (cases_lt end (length entries)) [
          | inl more ↦
              let (one, top) = right.best more in
              let at_most = in_order cell first end (last - 1) best top
              (omega (arith, cell_before, some)) (end_within more) in
              omega (arith, one, at_most)
          | inr whole ↦ let is = right.whole (omega (arith, whole, within)) in
              omega (arith, is, own)
        ] in
        record {
          by = first;
          among = record {
            low = omega arith;
            among = record { left = inside; some = best.among.some };
          };
          not_farther = omega (arith, nearer);
          nearer = λ left_of. nearer;
        }

    -- a column right of the last one is beaten by it
    beaten_right : (x other : ℕ) → start ≤ x → x < end → IsAmong entries (length entries) other
        → last ≤ other → IsBeaten d (gap_of entries y) (IsColumnFrom entries first last) x other
    beaten_right x other from below among beyond = elim (cases_lt end (length entries)) [
      | inl inside ↦
          let (one, best) = right.best inside in
          let low : first ≤ last - 1 = elim (cases_lt (last - 1) first) [
            | inl less ↦
                let (cell, before, own) = left.best (last - 1) best.among less in
                in_order cell first end (last - 1) own best (omega (arith, before, some))
                (end_within inside)
            | inr fine ↦ fine
          ] in
          record {
            by = last - 1;
            among = record {
              low = low;
              among = record { left = omega (arith, one); some = best.among.some };
            };
            not_farther = right_not_farther end (last - 1) x other best (omega (arith, below))
                (end_within inside) among (omega (arith, one, beyond));
            nearer = λ left_of. absurd (omega (arith, left_of, beyond, one));
          }
      | inr whole ↦
          let within = right.within in
          let is = right.whole (omega (arith, whole, within)) in
          let own = among.left in
          absurd (omega (arith, is, own, beyond))
    ]

    -- its columns are enough for its cells
    pub enough_between : IsEnough d entries y
        (record { from = start; end = end; first = first; last = last })
    enough_between x other from below among = elim (cases_lt other first) [
      | inl before ↦ beaten_left x other from below among before
      | inr after ↦ elim (cases_lt other last) [
        | inl inside ↦ record {
          by = other;
          among = record { low = after; among = record { left = inside; some = among.some } };
          not_farther = omega arith;
          nearer = λ left_of. absurd (omega (arith, left_of));
        }
        | inr beyond ↦ beaten_right x other from below among beyond
      ]
    ]

-- the nearest column that one of eight cells knows
told_best : (d : ℕ → ℕ → ℕ) (entries : List ℕ) (y start i : ℕ) (best away : List ℕ)
    → AreTold d entries y Open start best away → i < 8 → start + i < length entries
    → IsBestOfAll d entries y (start + i) (start + i + slice_index away i - 128)
told_best d entries y start i best away told few inside =
    let (column, is_best, same) = (told i few inside).near in
    let column_is : start + i + slice_index away i - 128 ≡ column =
    ap (λ (n : Near). unsigned_abs n.cell.x) same in
    rw column_is is_best

-- the nearest column to a cell bounds those of the cells further right
bound_of : (d : ℕ → ℕ → ℕ) (entries : List ℕ) (y cell start first : ℕ) → cell ≤ start
    → IsBestOfAll d entries y cell first → IsLeftBound d entries y start first
bound_of d entries y cell start first before best = let own = best.among.left in
    record { inside = omega (arith, own); best = λ other among left. (cell, before, best) }

-- the nearest column to a cell ends the columns of a piece before it
right_of : (d : ℕ → ℕ → ℕ) (entries : List ℕ) (y end last : ℕ) → end < length entries → 1 ≤ last
    → IsBestOfAll d entries y end (last - 1) → IsRightBound d entries y end last
right_of d entries y end last inside some best =
    record {
      within = omega (arith, inside);
      whole = λ same. absurd (omega (arith, same, inside));
      best = λ more. (some, best);
    }

-- the nearest column that the first of eight cells knows ends the columns of a piece before it
pub told_right : (d : ℕ → ℕ → ℕ) (entries : List ℕ) (y at last : ℕ) (best away : List ℕ)
    → at < length entries → last ≡ at + slice_index away 0 - 128 + 1
    → AreTold d entries y Open at best away → IsRightBound d entries y at last
told_right d entries y at last best away inside last_is told =
    let zero : at + 0 ≡ at = omega arith in
    let own : IsBestOfAll d entries y at (at + slice_index away 0 - 128) =
    rw zero at (told_best d entries y at 0 best away told (omega arith) (omega (arith, inside)))
    in
    let before : last - 1 ≡ at + slice_index away 0 - 128 = omega (arith, last_is) in
    right_of d entries y at last inside (omega (arith, last_is)) (rw before own)

-- the nearest column that the last of eight cells knows bounds those of the cells further right
pub told_left : (d : ℕ → ℕ → ℕ) (entries : List ℕ) (y at next first : ℕ) (best away : List ℕ)
    → next ≡ at + 8 → next < length entries → first ≡ at + 7 + slice_index away 7 - 128
    → AreTold d entries y Open at best away
    → IsLeftBound d entries y next first
told_left d entries y at next first best away next_is inside first_is told =
    bound_of d entries y (at + 7) next first (omega (arith, next_is))
    (rw first_is (told_best d entries y at 7 best away told (omega arith)
    (omega (arith, inside, next_is))))
