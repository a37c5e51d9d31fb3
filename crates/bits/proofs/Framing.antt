-- From a map with its frame, counted by natural numbers, to spots.
use Rattle.std.proofs.Common.{◌≡◌, ℕ, zero, suc, ◌+◌, ◌-◌, ◌*◌, ◌<◌, ◌≤◌, ◌⊎◌, ℤ, pos, negsuc, ◌<ℤ◌}
use Rattle.std.proofs.Common.{◌≤ℤ◌, ◌==◌, ◌||◌, Bool, true, inl, inr, refl, sym, ap, subst, ◌∙◌}
use Rattle.std.proofs.Common.{arith}
use Rattle.std.specs.Int.{abs_diff}
use Rattle.std.proofs.lemmas.Bool.{cases_lt}
use Rattle.std.proofs.lemmas.Bool.Decides.{nat_tests}
use Rattle.metric.specs.declared.edge.Edge.{Edge}
use Rattle.std.proofs.lemmas.Int.{ints}
use Rattle.metric.specs.Cellwise.{key_of, IsAtMost, IsNearestCell}
use Rattle.metric.specs.Distance.{distance_between}
use Rattle.metric.specs.Nearest.{apart, spot_distance, spot_key, IsNearest, IsNoGreater}
use Rattle.metric.specs.declared.edge.Edge.TheVariants.{Open, Wall}
use Rattle.bits.specs.Cells.{Cells, IsBitmap, IsObstacle, has}
use Rattle.bits.proofs.CellsLemmas.{has-cells_where, has-cells_where_below, has-cells_where_right}
use Rattle.bits.proofs.CellsLemmas.{has-outside}
use Rattle.bits.specs.Edges.{IsBlocked, IsFrame, IsFrameCell, IsFramed, IsMap, framed, less_one}
use Rattle.bits.specs.Edges.{shift, spot_of}

-- a distance of equal differences
pub same_distance : (d : ℕ → ℕ → ℕ) (m n g h : ℕ) → m ≡ n → g ≡ h → d m g ≡ d n h
same_distance d m n g h columns rows = ap (λ (k : ℕ). d k g) columns ∙ ap (λ (k : ℕ). d n k) rows

-- how far a spot is apart, counted with the frame
pub apart_less : (x a : ℕ) → apart x (less_one a) ≡ abs_diff (x + 1) a
apart_less x zero = omega arith
apart_less x (suc a) = omega arith

-- the distance to a spot is the one counted with the frame
pub distance_less : (d : ℕ → ℕ → ℕ) (x y a b : ℕ)
    → spot_distance d x y (less_one a) (less_one b) ≡ distance_between d (x + 1) (y + 1) a b
distance_less d x y a b = grind (arith, same_distance, apart_less, nat_tests)

-- the lesser count is that of the lesser spot
less_less : (a b : ℕ) → a < b → less_one a <ℤ less_one b
less_less zero zero less = absurd (omega arith)
less_less zero (suc b) less = omega (arith, ints)
less_less (suc a) zero less = absurd (omega arith)
less_less (suc a) (suc b) less = omega (arith, ints)

-- a count that is at most another is that of a spot that is at most the other
pub less_most : (a b : ℕ) → a ≤ b → less_one a ≤ℤ less_one b
less_most zero zero most = omega (arith, ints)
less_most zero (suc b) most = omega (arith, ints)
less_most (suc a) zero most = absurd (omega arith)
less_most (suc a) (suc b) most = omega (arith, ints)

-- the order of keys is that of spots
no_greater : (d : ℕ → ℕ → ℕ) (x y a b c e : ℕ)
    → IsAtMost (key_of d (x + 1) (y + 1) a b) (key_of d (x + 1) (y + 1) c e)
    → IsNoGreater (spot_key d x y (less_one a) (less_one b))
    (spot_key d x y (less_one c) (less_one e))
no_greater d x y a b c e most =
    let here = distance_less d x y a b in
    let there = distance_less d x y c e in
    let near = apart_less y b in
    let far = apart_less y e in
    elim most.order [
      | inl less ↦ record { order = inl (omega arith) }
      | inr (same, inl left) ↦ record { order = inr (omega arith, inl (less_less a c left)) }
      | inr (same, inr (column, inl fewer)) ↦
          record { order = inr (omega arith, inr (ap less_one column, inl (omega arith))) }
      | inr (same, inr (column, inr (as_many, row))) ↦
          record {
            order = inr (
              omega arith,
              inr (ap less_one column, inr (omega arith, less_most b e row)),
            );
          }
    ]

-- the count of a cell's column or row
count_of : (n m : ℕ) → less_one n ≡ pos m → n ≡ suc m
count_of zero m same = absurd (omega (arith, ints))
count_of (suc n) m same = omega (arith, ints)

-- an obstacle of a map with its frame is one by its spot
pub framed_blocked : (cells : Cells) (a b : ℕ) → IsFramed cells a b
    → IsBlocked cells Wall (less_one a) (less_one b)
framed_blocked cells a b (inl frame) = grind (arith, less_most, count_of, nat_tests)
framed_blocked cells zero b (inr own) = absurd (omega arith)
framed_blocked cells (suc a) zero (inr own) = absurd (omega arith)
framed_blocked cells (suc a) (suc b) (inr own) = grind (arith, nat_tests)

-- a column or row of a spot, counted with the frame
abbrev pub count : ℤ → ℕ
count (pos n) = suc n
count (negsuc n) = 0

-- none of a spot is below -1
pub count_back : (c : ℤ) → negsuc 0 ≤ℤ c → c ≡ less_one (count c)
count_back (pos n) most = refl
count_back (negsuc zero) most = refl
count_back (negsuc (suc n)) most = absurd (omega (arith, ints))

-- none of a spot is above the last of the frame
count_most : (c : ℤ) (n : ℕ) → c ≤ℤ pos n → count c ≤ n + 1
count_most (pos m) n most = omega (arith, ints)
count_most (negsuc m) n most = omega arith

-- what a count above 0 counts
count_some : (c : ℤ) → 0 < count c → (m : ℕ) × (c ≡ pos m) × (count c ≡ suc m)
count_some (pos m) some = (m, refl, refl)
count_some (negsuc m) some = absurd (omega arith)

-- a spot that is an obstacle, counted with the frame
pub record IsCounted (cells : Cells) (c e : ℤ) : Type 0 where
  pub a : ℕ
  pub b : ℕ
  pub column : c ≡ less_one a
  pub row : e ≡ less_one b
  pub framed : IsFramed cells a b

-- a spot of the frame lies in its first or last column or row
frame_edge : (cells : Cells) (c e : ℤ) → IsFrame cells c e → (count c ≡ 0)
    ⊎ ((count c ≡ cells.width + 1) ⊎ ((count e ≡ 0) ⊎ (count e ≡ cells.height + 1)))
frame_edge cells c e frame =
    let right = count_most c cells.width frame.right in
    let bottom = count_most e cells.height frame.bottom in
    elim (cases_lt 0 (count c)) [
      | inr none ↦ inl (omega arith)
      | inl some ↦ elim (cases_lt (count c) (cells.width + 1)) [
        | inr last ↦ inr (inl (omega arith))
        | inl before ↦ elim (cases_lt 0 (count e)) [
          | inr no_row ↦ inr (inr (inl (omega arith)))
          | inl some_row ↦ elim (cases_lt (count e) (cells.height + 1)) [
            | inr end ↦ inr (inr (inr (omega arith)))
            | inl above ↦
                let column = count_some c some in
                let row = count_some e some_row in
                absurd (frame.outside column.0 row.0
                (record { column = omega arith; row = omega arith }) column.1 row.1)
          ]
        ]
      ]
    ]

-- a spot of the frame is one of its cells, counted with it
pub frame_cell : (cells : Cells) (c e : ℤ) → IsFrame cells c e
    → IsFrameCell (cells.width + 1) (cells.height + 1) (count c) (count e)
frame_cell cells c e frame =
    record {
      column = count_most c cells.width frame.right;
      row = count_most e cells.height frame.bottom;
      edge = frame_edge cells c e frame;
    }

-- a spot that is an obstacle is one of the map with its frame
pub blocked_framed : (cells : Cells) (c e : ℤ) → IsBlocked cells Wall c e → IsCounted cells c e
blocked_framed cells (pos a) (pos b) (inl black) =
    let columns : a ≡ suc a - 1 = omega arith in
    let rows : b ≡ suc b - 1 = omega arith in
    record {
      a = suc a;
      b = suc b;
      column = refl;
      row = refl;
      framed = inr (
        omega arith,
        omega arith,
        subst (λ (n : ℕ). IsObstacle cells (suc a - 1) n) rows
            (subst (λ (m : ℕ). IsObstacle cells m b) columns black),
      );
    }
blocked_framed cells (pos a) (negsuc b) (inl none) = absurd none
blocked_framed cells (negsuc a) e (inl none) = absurd none
blocked_framed cells c e (inr frame) = record {
  a = count c;
  b = count e;
  column = count_back c frame.left;
  row = count_back e frame.top;
  framed = inl (frame_cell cells c e frame);
}

-- the nearest of a map with its frame is the nearest by its spot
pub wall_nearest : (d : ℕ → ℕ → ℕ) (cells : Cells) (x y dist a b : ℕ)
    → IsNearestCell d (IsFramed cells) (x + 1) (y + 1) dist a b
    → IsNearest d (IsBlocked cells Wall) x y (record { dist = dist; cell = spot_of Wall a b })
wall_nearest d cells x y dist a b nearest = record {
  obstacle = framed_blocked cells a b nearest.obstacle;
  distance_is = nearest.distance_is ∙ sym (distance_less d x y a b);
  least = λ c e obstacle.
      let counted = blocked_framed cells c e obstacle in
      let most = no_greater d x y a b counted.a counted.b
      (nearest.least counted.a counted.b counted.framed) in
      subst (λ (s : ℤ). IsNoGreater (spot_key d x y (less_one a) (less_one b)) (spot_key d x y c s))
      (sym counted.row)
      (subst (λ (s : ℤ). IsNoGreater (spot_key d x y (less_one a) (less_one b))
      (spot_key d x y s (less_one counted.b))) (sym counted.column) most);
}

-- the order of keys of cells is that of their spots
cell_no_greater : (d : ℕ → ℕ → ℕ) (x y a b c e : ℕ) → IsAtMost (key_of d x y a b) (key_of d x y c e)
    → IsNoGreater (spot_key d x y (pos a) (pos b)) (spot_key d x y (pos c) (pos e))
cell_no_greater d x y a b c e most = elim most.order [
  | inl less ↦ record { order = inl less }
  | inr (same, inl left) ↦ record { order = inr (same, inl (omega (arith, ints))) }
  | inr (same, inr (column, inl fewer)) ↦
      record { order = inr (same, inr (ap pos column, inl fewer)) }
  | inr (same, inr (column, inr (as_many, row))) ↦
      record { order = inr (same, inr (ap pos column, inr (as_many, omega (arith, ints)))) }
]

-- each spot of an open map is a cell
open_least : (d : ℕ → ℕ → ℕ) (cells : Cells) (x y a b : ℕ)
    → ((c e : ℕ) → IsObstacle cells c e → IsAtMost (key_of d x y a b) (key_of d x y c e))
    → (c e : ℤ) → IsBlocked cells Open c e
    → IsNoGreater (spot_key d x y (pos a) (pos b)) (spot_key d x y c e)
open_least d cells x y a b least (pos c) (pos e) obstacle =
    cell_no_greater d x y a b c e (least c e obstacle)
open_least d cells x y a b least (pos c) (negsuc e) none = absurd none
open_least d cells x y a b least (negsuc c) e none = absurd none

-- where no cell is an obstacle, no spot of an open map is one
open_none : (cells : Cells) → ((a b : ℕ) → IsObstacle cells a b → ⊥) → (a b : ℤ)
    → IsBlocked cells Open a b → ⊥
open_none cells none (pos a) (pos b) obstacle = none a b obstacle
open_none cells none (pos a) (negsuc b) impossible = impossible
open_none cells none (negsuc a) b impossible = impossible

-- where the border is open, the nearest cell is the nearest spot
open_nearest : (d : ℕ → ℕ → ℕ) (cells : Cells) (x y dist a b : ℕ)
    → IsNearestCell d (IsObstacle cells) x y dist a b
    → IsNearest d (IsBlocked cells Open) x y (record { dist = dist; cell = spot_of Open a b })
open_nearest d cells x y dist a b nearest = record {
  obstacle = nearest.obstacle;
  distance_is = nearest.distance_is;
  least = open_least d cells x y a b nearest.least;
}

-- an obstacle of a map with its frame has small numbers
pub framed_small : (cells : Cells) (a b : ℕ) → IsBitmap cells → IsFramed cells a b → (a ≤ 4097)
    × (b ≤ 4097)
framed_small cells a b bitmap (inl frame) = grind (arith, nat_tests)
framed_small cells a b bitmap (inr (left, top, black)) = grind (arith, has-outside, nat_tests)

-- whether a cell of a map with its frame is an obstacle
abbrev pub wall_test : Cells → ℕ → ℕ → Bool
wall_test cells x y =
    ((x == 0 || y == 0) || (x == cells.width + 1 || y == cells.height + 1))
    || has cells (x - 1) (y - 1)

-- what the test says of a cell
test_told : (w h a b : ℕ) (black : Bool) → a < w + 2 → b < h + 2
    → (((a == 0 || b == 0) || (a == w + 1 || b == h + 1)) || black) ≡ true
    → ((a ≡ 0) ⊎ ((a ≡ w + 1) ⊎ ((b ≡ 0) ⊎ (b ≡ h + 1)))) ⊎ ((0 < a) × (0 < b) × (black ≡ true))
test_told w h a b black left top is = grind (arith, nat_tests)

-- what the test says where the cell is of the frame
test_frame : (w h a b : ℕ) (black : Bool) → (a ≡ 0) ⊎ ((a ≡ w + 1) ⊎ ((b ≡ 0) ⊎ (b ≡ h + 1)))
    → (((a == 0 || b == 0) || (a == w + 1 || b == h + 1)) || black) ≡ true
test_frame w h a b black edge = grind (arith, nat_tests)

-- what the test says where the cell is one of the map's own obstacles
test_own : (w h a b : ℕ) (black : Bool) → black ≡ true
    → (((a == 0 || b == 0) || (a == w + 1 || b == h + 1)) || black) ≡ true
test_own w h a b black is = grind (arith, nat_tests)

-- an obstacle of the walled map lies in it
wall_inside : (cells : Cells) (a b : ℕ) → IsObstacle (framed Wall cells) a b → (a < cells.width + 2)
    × (b < cells.height + 2)
wall_inside cells a b obstacle = (
  elim (cases_lt a (cells.width + 2)) [
    | inl inside ↦ inside
    | inr out ↦ let no = has-cells_where_right (cells.width + 2) (cells.height + 2)
        (wall_test cells) a b out in cc
  ],
  elim (cases_lt b (cells.height + 2)) [
    | inl inside ↦ inside
    | inr out ↦ let no = has-cells_where_below (cells.width + 2) (cells.height + 2)
        (wall_test cells) a b out in cc
  ],
)

-- the obstacles of the walled map are those of the frame and its own
pub wall_framed : (cells : Cells) (a b : ℕ) → IsObstacle (framed Wall cells) a b
    → IsFramed cells a b
wall_framed cells a b obstacle =
    let inside = wall_inside cells a b obstacle in
    let column = inside.0 in
    let row = inside.1 in
    elim (test_told cells.width cells.height a b (has cells (a - 1) (b - 1)) column row
    (sym (has-cells_where (cells.width + 2) (cells.height + 2) (wall_test cells) a b column row)
    ∙ obstacle)) [
      | inl edge ↦ inl (record { column = omega arith; row = omega arith; edge = edge })
      | inr own ↦ inr own
    ]

-- the frame and the own obstacles of the map are obstacles of the walled one
pub framed_wall : (cells : Cells) (a b : ℕ) → IsBitmap cells → IsFramed cells a b
    → IsObstacle (framed Wall cells) a b
framed_wall cells a b bitmap (inl frame) = grind (arith, has-cells_where, test_frame, nat_tests)
framed_wall cells a b bitmap (inr (left, top, black)) =
    grind (arith, has-outside, has-cells_where, test_own, nat_tests)

-- a map, with its frame where its border is a wall
pub framed_map : (edge : Edge) (cells : Cells) → IsBitmap cells → IsMap (framed edge cells)
framed_map Open cells bitmap = grind (arith, has-outside, nat_tests)
framed_map Wall cells bitmap =
    record {
      width_few = omega arith;
      height_few = omega arith;
      inside = λ x y obstacle. let inside = wall_inside cells x y obstacle in
          record { column = inside.0; row = inside.1 };
    }

-- a map with its frame has two columns and two rows more if there is a wall
pub framed_size : (edge : Edge) (cells : Cells)
    → ((framed edge cells).width ≡ cells.width + 2 * shift edge)
    × ((framed edge cells).height ≡ cells.height + 2 * shift edge)
framed_size Open cells = (omega arith, omega arith)
framed_size Wall cells = (omega arith, omega arith)

-- what the test says of a cell within the frame
test_inner : (w h x y : ℕ) (black : Bool) → x < w → y < h
    → (((x + 1 == 0 || y + 1 == 0) || (x + 1 == w + 1 || y + 1 == h + 1)) || black) ≡ black
test_inner w h x y black column row = grind (arith, nat_tests)

-- a cell of a map is an obstacle of the map with its border where it is one of the map
pub has-framed : (edge : Edge) (cells : Cells) (x y : ℕ) → x < cells.width → y < cells.height
    → has (framed edge cells) (x + shift edge) (y + shift edge) ≡ has cells x y
has-framed Open cells x y column row = grind (arith, nat_tests)
has-framed Wall cells x y column row = grind (arith, has-cells_where, test_inner, nat_tests)

-- by one column or row at most cells are moved
pub shift_few : (edge : Edge) → shift edge ≤ 1
shift_few Open = omega arith
shift_few Wall = omega arith

-- the nearest cell of a map with its border is the nearest spot
pub edge_nearest : (d : ℕ → ℕ → ℕ) (edge : Edge) (cells : Cells) (x y dist a b : ℕ) → IsBitmap cells
    → IsNearestCell d (IsObstacle (framed edge cells)) (x + shift edge) (y + shift edge) dist a b
    → IsNearest d (IsBlocked cells edge) x y (record { dist = dist; cell = spot_of edge a b })
edge_nearest d Open cells x y dist a b bitmap nearest =
    let column : x + 0 ≡ x = omega arith in
    let row : y + 0 ≡ y = omega arith in
    open_nearest d cells x y dist a b (rw (column, row) at nearest)
edge_nearest d Wall cells x y dist a b bitmap nearest = wall_nearest d cells x y dist a b (record {
  obstacle = wall_framed cells a b nearest.obstacle;
  distance_is = nearest.distance_is;
  least = λ c e obstacle. nearest.least c e (framed_wall cells c e bitmap obstacle);
})

-- a map with its border that has no obstacle
pub edge_none : (edge : Edge) (cells : Cells) → IsBitmap cells
    → ((a b : ℕ) → IsObstacle (framed edge cells) a b → ⊥) → (a b : ℤ) → IsBlocked cells edge a b
    → ⊥
edge_none Open cells bitmap none a b obstacle = open_none cells none a b obstacle
edge_none Wall cells bitmap none a b obstacle = let counted = blocked_framed cells a b obstacle in
    none counted.a counted.b (framed_wall cells counted.a counted.b bitmap counted.framed)

-- the distance of a spot as it is seen from a cell, both counted with the border
pub spot_seen : (d : ℕ → ℕ → ℕ) (edge : Edge) (x y a b : ℕ)
    → distance_between d (x + shift edge) (y + shift edge) a b
    ≡ spot_distance d x y (spot_of edge a b).x (spot_of edge a b).y
spot_seen d Open x y a b =
    let column : x + 0 ≡ x = omega arith in
    let row : y + 0 ≡ y = omega arith in
    rw (column, row) refl
spot_seen d Wall x y a b = grind (arith, distance_less, nat_tests)
