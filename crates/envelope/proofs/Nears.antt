-- From the columns of a row of the table to the obstacles of the bitmap.
use Rattle.std.proofs.Common.{◌≡◌, ◌≢◌, ℕ, ◌+◌, ◌-◌, ◌/◌, ◌%◌, ◌<◌, ◌≤◌, inl, inr, List, length}
use Rattle.std.proofs.Common.{slice_index, slice_index_or, Option, Some, None, refl, sym, subst}
use Rattle.std.proofs.Common.{arith}
use Rattle.std.specs.Int.{abs_diff}
use Rattle.std.proofs.lemmas.Bool.{cases_eq, cases_lt, ne_eqb}
use Rattle.metric.specs.Distance.{Grows, distance_between}
use Rattle.metric.specs.Cellwise.{IsAtMost, IsNearestCell, key_of}
use Rattle.metric.specs.Edge.{shift, spot_of}
use Rattle.metric.specs.Nearest.{IsNear, IsNearest, spot_distance}
use Rattle.metric.specs.declared.edge.Edge.{Edge}
use Rattle.metric.specs.declared.near.Near.{Near}
use Rattle.bits.specs.Cells.{Cells, IsBitmap, IsObstacle}
use Rattle.bits.specs.Edges.{IsBlocked, IsMap, framed}
use Rattle.bits.proofs.Framing.{edge_nearest, edge_none, framed_map, framed_size, spot_seen}
use Rattle.column.specs.Columns.{IsNearestRow, IsRowAtMost, IsRowOfTable}
use Rattle.envelope.specs.Rows.{AreRowAnswers, AreRowNears, AreRowValues}
use Rattle.envelope.specs.Columns.{AreEntries, AreSaid, IsAmong, IsBest}
use Rattle.envelope.specs.Columns.{IsNearColumn, IsSaid, distance_from, gap_of, near_from}
use Rattle.envelope.specs.Answer.{Reading, Saying}
use Rattle.envelope.specs.Scans.{IsToldBy}

-- a column with an obstacle has an entry
entry_some : (cells : Cells) (y : ℕ) (entries : List ℕ) (a b : ℕ) → IsRowOfTable cells y entries
    → a < cells.width → IsObstacle cells a b → slice_index entries a ≢ 65535
entry_some cells y entries a b row inside obstacle none =
    (rw none at (row.each a inside)) b obstacle

-- what an entry says of its column
entry_row : (cells : Cells) (y : ℕ) (entries : List ℕ) (a : ℕ) → IsRowOfTable cells y entries
    → a < cells.width → slice_index entries a ≢ 65535
    → IsNearestRow cells a y (Some (slice_index entries a))
entry_row cells y entries a row inside some =
    rw (ne_eqb (slice_index entries a) 65535 some) at (row.each a inside)

-- the entries of a row of the table are rows of a map
pub entries_of_row : (cells : Cells) (y : ℕ) (entries : List ℕ) → IsMap cells → y < cells.height
    → IsRowOfTable cells y entries → AreEntries entries y
entries_of_row cells y entries bitmap within row =
    let width = bitmap.width_few in
    let height = bitmap.height_few in
    let many = row.as_many in
    record {
      few = omega (arith, width, many);
      seen_from = omega (arith, height, within);
      each = λ column left some.
          let inside : column < cells.width = omega (arith, left, many) in
          let obstacle = (entry_row cells y entries column row inside some).0 in
          let below = (bitmap.inside column (slice_index entries column) obstacle).row in
          omega (arith, below, height);
    }

-- of the obstacles of one column, the nearest of the row comes first where the row differences and
-- the rows decide
column_at_most : (d : ℕ → ℕ → ℕ) (x y a row b : ℕ)
    → distance_between d x y a row ≤ distance_between d x y a b → IsRowAtMost y row b
    → IsAtMost (key_of d x y a row) (key_of d x y a b)
column_at_most d x y a row b not_farther at_most =
    elim (cases_lt (distance_between d x y a row) (distance_between d x y a b)) [
      | inl less ↦ record { order = inl less }
      | inr more ↦
          let same : distance_between d x y a row ≡ distance_between d x y a b = omega arith in
          record { order = inr (same, inr (refl, at_most.order)) }
    ]

-- a column's nearest row isn't farther than its other obstacles
row_not_farther : (d : ℕ → ℕ → ℕ) (x y a row b : ℕ) → Grows d → abs_diff x a ≤ 4097
    → abs_diff y b ≤ 4097 → IsRowAtMost y row b
    → distance_between d x y a row ≤ distance_between d x y a b
row_not_farther d x y a row b grows columns rows at_most =
    let nearer : abs_diff y row ≤ abs_diff y b =
    elim at_most.order [
      | inl less ↦ omega (arith, less)
      | inr same ↦ let e = same.0 in
          omega (arith, e)
    ] in
    grows (abs_diff x a) (abs_diff y row) (abs_diff y b) columns nearer rows

-- the best column's obstacle comes before each other column's
other_at_most : (d : ℕ → ℕ → ℕ) (x y a c row other b : ℕ)
    → distance_between d x y c row ≤ distance_between d x y a other
    → (a < c → distance_between d x y c row < distance_between d x y a other)
    → distance_between d x y a other ≤ distance_between d x y a b → a ≢ c
    → IsAtMost (key_of d x y c row) (key_of d x y a b)
other_at_most d x y a c row other b least first not_farther differs = elim (cases_lt c a) [
  | inl left ↦ elim (cases_lt (distance_between d x y c row) (distance_between d x y a b)) [
    | inl less ↦ record { order = inl less }
    | inr more ↦ record { order = inr (omega arith, inl left) }
  ]
  | inr right ↦ let less = first (omega arith) in record { order = inl (omega (arith, less)) }
]

-- the obstacle of the best column is the nearest of the bitmap
nearest_of_best : (d : ℕ → ℕ → ℕ) (cells : Cells) (x y column : ℕ) (entries : List ℕ) → Grows d
    → IsMap cells → x < cells.width → y < cells.height → IsRowOfTable cells y entries
    → IsBest d (gap_of entries y) (IsAmong entries (length entries)) x column
    → IsNearestCell d (IsObstacle cells) x y (distance_from d (gap_of entries y) column x) column
    (slice_index entries column)
nearest_of_best d cells x y column entries grows bitmap inside within row best =
    let many = row.as_many in
    let width = bitmap.width_few in
    let height = bitmap.height_few in
    let left = best.among.left in
    let own = entry_row cells y entries column row (omega (arith, left, many)) best.among.some in
    record {
      obstacle = own.0;
      distance_is = refl;
      least = λ a b obstacle.
          let place = bitmap.inside a b obstacle in
          let of_column = place.column in
          let of_row = place.row in
          let columns : abs_diff x a ≤ 4097 = omega (arith, of_column, inside, width) in
          let rows : abs_diff y b ≤ 4097 = omega (arith, of_row, within, height) in
          elim (cases_eq a column) [
            | inl same ↦
                let at_most = own.1 b (rw same at obstacle) in
                let here : abs_diff x column ≤ 4097 = omega (arith, left, many, inside, width) in
                rw same (column_at_most d x y column (slice_index entries column) b
                (row_not_farther d x y column (slice_index entries column) b grows here rows
                at_most) at_most)
            | inr differs ↦
                let some = entry_some cells y entries a b row of_column obstacle in
                let nearest = entry_row cells y entries a row of_column some in
                let among : IsAmong entries (length entries) a =
                record { left = omega (arith, of_column, many); some = some } in
                other_at_most d x y a column (slice_index entries column) (slice_index entries a) b
                (best.least a among) (best.first a among)
                (row_not_farther d x y a (slice_index entries a) b grows columns rows
                (nearest.1 b obstacle)) differs
          ];
    }

-- the obstacle of the nearest column is the nearest spot of the map with its border; none where
-- there is no column
near_of_column : (d : ℕ → ℕ → ℕ) (cells : Cells) (edge : Edge) (x y : ℕ) (entries : List ℕ)
    (answer : Option Near) → Grows d → IsBitmap cells → x + shift edge < (framed edge cells).width
    → y + shift edge < (framed edge cells).height
    → IsRowOfTable (framed edge cells) (y + shift edge) entries
    → IsNearColumn d entries (y + shift edge) edge (x + shift edge) answer
    → IsNear d (IsBlocked cells edge) x y answer
near_of_column d cells edge x y entries None grows bitmap inside within row none =
    edge_none edge cells bitmap (λ a b obstacle.
    let map = framed_map edge cells bitmap in
    let of_column = (map.inside a b obstacle).column in
    let many = row.as_many in
    none a (record {
      left = omega (arith, of_column, many);
      some = entry_some (framed edge cells) (y + shift edge) entries a b row of_column obstacle;
    }))
near_of_column d cells edge x y entries (Some near) grows bitmap inside within row found =
    let (column, best, same) = found in
    subst (λ (n : Near). IsNearest d (IsBlocked cells edge) x y n) (sym same)
    (edge_nearest d edge cells x y
    (distance_from d (gap_of entries (y + shift edge)) column (x + shift edge)) column
    (slice_index entries column) bitmap
    (nearest_of_best d (framed edge cells) (x + shift edge) (y + shift edge) column entries grows
    (framed_map edge cells bitmap) inside within row best))

-- values that say what the obstacles of the nearest columns are say what the nearest of all are
pub AreRowValues-said : {T : Type 0} (says : Saying T) (unset : T) (d : ℕ → ℕ → ℕ) (cells : Cells)
    (edge : Edge) (y : ℕ) (entries : List ℕ) (values : List T) → Grows d → IsBitmap cells
    → y < cells.height → IsRowOfTable (framed edge cells) (y + shift edge) entries
    → AreSaid says unset d entries (y + shift edge) edge values
    → AreRowValues says unset d cells edge y cells.width values
AreRowValues-said says unset d cells edge y entries values grows bitmap within row said =
    let many = row.as_many in
    let filled = said.as_many in
    let size = framed_size edge cells in
    let wide = size.0 in
    let high = size.1 in
    let row_is : y + shift edge - shift edge ≡ y = omega arith in
    record {
      as_many = omega (arith, many, filled, wide);
      each = λ x below.
          let inside : x < length values = omega (arith, below, many, filled, wide) in
          let it = said.each x inside in
          record {
            near = it.near;
            near_is = near_of_column d cells edge x y entries it.near grows bitmap
                (omega (arith, below, wide)) (omega (arith, within, high)) row it.near_is;
            said = subst (λ (b : ℕ). says d x b (slice_index_or values x unset) it.near) row_is
                it.said;
          };
    }

-- values of a row that say what an answer tells are its answers
pub AreRowAnswers-values : {T : Type 0} (told : Reading T) (nothing : T) (d : ℕ → ℕ → ℕ)
    (cells : Cells) (edge : Edge) (y count : ℕ) (answers : List T)
    → AreRowValues (λ distance x y answer near. told distance x y answer ≡ near) nothing d cells
    edge y count answers
    → AreRowAnswers told nothing d cells edge y count answers
AreRowAnswers-values told nothing d cells edge y count answers values = record {
  as_many = values.as_many;
  each = λ x below.
      let it = values.each x below in
      subst (λ (near : Option Near). IsNear d (IsBlocked cells edge) x y near) (sym it.said)
      it.near_is;
}

-- where all is kept, the answers are the nearest obstacles
pub AreRowNears-answers : (d : ℕ → ℕ → ℕ) (cells : Cells) (edge : Edge) (y count : ℕ)
    (nears : List (Option Near))
    → AreRowAnswers (λ distance x y near. near) None d cells edge y count nears
    → AreRowNears d cells edge y count nears
AreRowNears-answers d cells edge y count nears answers =
    record { as_many = answers.as_many; each = answers.each }

-- the obstacle of a column is seen at the distance of its spot
near_seen : (d : ℕ → ℕ → ℕ) (entries : List ℕ) (edge : Edge) (y column x : ℕ) → shift edge ≤ x
    → shift edge ≤ y
    → (near_from d entries y edge column x).dist
    ≡ spot_distance d (x - shift edge) (y - shift edge)
    (spot_of edge column (slice_index entries column)).x
    (spot_of edge column (slice_index entries column)).y
near_seen d entries edge y column x left top =
    let across : x - shift edge + shift edge ≡ x = omega arith in
    let down : y - shift edge + shift edge ≡ y = omega arith in
    rw (across, down) at (spot_seen d edge (x - shift edge) (y - shift edge) column
    (slice_index entries column))

-- the obstacle of the nearest column is seen at the distance of its spot
near_column_seen : (d : ℕ → ℕ → ℕ) (entries : List ℕ) (edge : Edge) (y x : ℕ) (near : Near)
    → IsNearColumn d entries y edge x (Some near) → shift edge ≤ x → shift edge ≤ y
    → near.dist ≡ spot_distance d (x - shift edge) (y - shift edge) near.cell.x near.cell.y
near_column_seen d entries edge y x near (column, best, same) left top =
    subst (λ (n : Near). n.dist ≡ spot_distance d (x - shift edge)
    (y - shift edge) n.cell.x n.cell.y) (sym same) (near_seen d entries edge y column x left top)

-- a value that keeps the nearest column's obstacle says what it is
pub said_kept : {T : Type 0} (says : Saying T) (d : ℕ → ℕ → ℕ) (entries : List ℕ) (edge : Edge)
    (y x : ℕ) (near : Near) (kept : T) → IsNearColumn d entries y edge (x + shift edge) (Some near)
    → shift edge ≤ y
    → ((distance : ℕ → ℕ → ℕ) (a b : ℕ)
    → near.dist ≡ spot_distance distance a b near.cell.x near.cell.y
    → says distance a b kept (Some near))
    → IsSaid says d entries y edge x kept
said_kept says d entries edge y x near kept found top keeps =
    let back : x + shift edge - shift edge ≡ x = omega arith in
    let seen : near.dist ≡ spot_distance d x (y - shift edge) near.cell.x near.cell.y =
    rw back at (near_column_seen d entries edge y (x + shift edge) near found (omega arith) top)
    in
    record { near = Some near; near_is = found; said = keeps d x (y - shift edge) seen }

-- what a word tells is the nearest column's obstacle
pub near_of_word : (d : ℕ → ℕ → ℕ) (entries : List ℕ) (edge : Edge) (y x word : ℕ) (near : Near)
    → IsToldBy d entries y x word
    → near ≡ record {
      dist = word / 8192;
      cell = spot_of edge (word % 8192) (slice_index entries (word % 8192));
    }
    → IsNearColumn d entries y edge x (Some near)
near_of_word d entries edge y x word near told near_is =
    (word % 8192, told.best, rw (near_is, told.far) refl)
