-- The distances of a row, and what they cost.
use Rattle.libclearmap.proofs.Names.{◌≡◌, ℕ, ◌*◌, ◌<◌, ◌≤◌, ◌∙◌, List, sym}
use Rattle.libclearmap.proofs.Names.{◌-◌, arith, cases_eq, get_or, length, min, nat_tests}
use Rattle.std.specs.Prelude.{zero, suc, ℤ, pos, negsuc, ◌≤ℤ◌, Option, None, Some}
use Rattle.std.proofs.lemmas.Int.{ints}
use Rattle.std.proofs.lemmas.Nat.{mul-le}
use Rattle.metric.specs.declared.edge.Edge.{Edge}
use Rattle.metric.specs.declared.kind.MetricKind.{MetricKind}
use Rattle.metric.specs.declared.kind.MetricKind.TheVariants.{Chess, City, Euclid2}
use Rattle.metric.specs.declared.near.Near.{Near}
use Rattle.metric.specs.Kind.{distance_of}
use Rattle.metric.specs.Nearest.{IsLeastDistance, IsNear, apart}
use Rattle.metric.proofs.NearestLemmas.{IsNoGreater-distance}
use Rattle.bits.specs.Cells.{Cells, IsBitmap}
use Rattle.libclearmap.specs.Costs.{AreCosts, ArePriced, IsAway}
use Rattle.libclearmap.specs.Costs.{cost_of}
use Rattle.libclearmap.specs.Kept.{distance_kept}

-- a column or row of a map with its frame isn't far from one of the map
apart_few : (x : ℕ) (a : ℤ) → x < 4096 → negsuc 0 ≤ℤ a → a ≤ℤ pos 4097 → apart x a ≤ 4097
apart_few x (pos a) few low high = let most : a ≤ 4097 = omega (arith, ints) in omega arith
apart_few x (negsuc zero) few low high = omega arith
apart_few x (negsuc (suc n)) few low high = absurd (omega (arith, ints))

-- a distance in a map with its frame isn't the number that means none
kind_few : (kind : MetricKind) (a b : ℕ) → a ≤ 4097 → b ≤ 4097 → distance_of kind a b < 4294967295
kind_few Euclid2 a b wide high =
    let columns : a * a ≤ 4097 * 4097 = mul-le a a 4097 4097 wide wide in
    let rows : b * b ≤ 4097 * 4097 = mul-le b b 4097 4097 high high in
    omega (arith, columns, rows)
kind_few City a b wide high = omega arith
kind_few Chess a b wide high = grind arith

-- the distance of a cell's nearest obstacle is the least
least_of : (kind : MetricKind) (Obstacle : ℤ → ℤ → Type 0) (x y number : ℕ) (near : Option Near)
    → x < 4096 → y < 4096 → IsNear (distance_of kind) Obstacle x y near → IsAway near number
    → IsLeastDistance (distance_of kind) Obstacle x y (distance_kept number)
least_of kind Obstacle x y number None wide high none is = rw is none
least_of kind Obstacle x y number (Some near) wide high nearest away =
    let is = away.number_is ∙ nearest.distance_is in
    let few = kind_few kind (apart x near.cell.x) (apart y near.cell.y)
    (apart_few x near.cell.x wide away.left away.right)
    (apart_few y near.cell.y high away.top away.bottom) in
    let some : distance_kept number ≡ Some number = grind (arith, nat_tests, is, few) in
    rw some (
      record {
        column = near.cell.x;
        row = near.cell.y;
        obstacle = nearest.obstacle;
        distance_is = sym is;
      },
      λ a b obstacle.
          rw is (IsNoGreater-distance _ _ (nearest.least a b obstacle)),
    )

-- costs of the distances of nearest obstacles are those of least distances
pub costs_of_priced : (kind : MetricKind) (costs : List ℕ) (cells : Cells) (edge : Edge) (y0 y1 : ℕ)
    (bytes : List ℕ) → IsBitmap cells → y1 ≤ cells.height
    → ArePriced costs (distance_of kind) cells edge y0 y1 bytes
    → AreCosts costs (distance_of kind) cells edge y0 y1 bytes
costs_of_priced kind costs cells edge y0 y1 bytes bitmap within priced = record {
  as_many = priced.as_many;
  each = λ x y column low high.
      let it = priced.each x y column low high in
      let wide = bitmap.width_is.few in
      let tall = bitmap.height_is.few in
      record {
        least = distance_kept it.number;
        least_is = least_of kind _ x y it.number it.near (omega (arith, column, wide))
            (omega (arith, high, within, tall)) it.near_is it.away;
        byte_is = it.byte_is;
      };
}

-- by a table that ends before the number that means none, what that number and each distance cost
pub cost_cut : (table : List ℕ) (number place : ℕ) → 1 ≤ length table → length table ≤ 4294967295
    → number ≤ 4294967295 → place ≡ min number (length table - 1)
    → get_or table place 0 ≡ cost_of table (distance_kept number)
cost_cut table number place some short few is = grind (arith, nat_tests, cases_eq number 4294967295)
