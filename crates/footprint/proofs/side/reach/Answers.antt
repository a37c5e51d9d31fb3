-- The parts fit, and so does their sum.
use Rattle.std.proofs.Common.{arith, FitsSigned, w64, w32, ◌+ℤ◌, refl, rules}
use Rattle.std.proofs.lemmas.Int.{ints, to_z-of_z}
use Rattle.footprint.proofs.Sides.{reach_is}
use Rattle.footprint.proofs.side.reach.Goals as goal

pub product-down-requires-clause-b_few : goal.product-down-requires-clause-b_few
product-down-requires-clause-b_few c =
    let low = c.requires.a_near.column.low in
    let high = c.requires.a_near.column.high in
    let is = c.from.ensures in
    record { low = omega (arith, ints, is, low, high); high = omega (arith, ints, is, low, high) }

pub overflow_add-result : goal.overflow_add-result
overflow_add-result c =
    omega (arith, ints, c.product-across.ensures.few, c.product-down.ensures.few)

pub returns-clause-value : goal.returns-clause-value
returns-clause-value c =
    let fit_across : FitsSigned w64 c.product-across.result =
    record { sfits = c.product-across.type_inv } in
    let fit_down : FitsSigned w64 c.product-down.result =
    record { sfits = c.product-down.type_inv } in
    let fit_dx : FitsSigned w64 c.apart-dx.result = record { sfits = c.apart-dx.type_inv } in
    let fit_apart : FitsSigned w64 c.apart.result = record { sfits = c.apart.type_inv } in
    let fit_edge : FitsSigned w64 c.freer_line-edge.result =
    record { sfits = c.freer_line-edge.type_inv } in
    let fit_below : FitsSigned w64 c.below.result = record { sfits = c.below.type_inv } in
    let fit_from : FitsSigned w64 c.from.result = record { sfits = c.from.type_inv } in
    let fit_ax : FitsSigned w32 c.args.a.x = search rules in
    let fit_ay : FitsSigned w32 c.args.a.y = search rules in
    let fit_bx : FitsSigned w32 c.args.b.x = search rules in
    let fit_by : FitsSigned w32 c.args.b.y = search rules in
    let fit_row = c.ranges.row in
    let low = c.requires.a_near.column.low in
    let high = c.requires.a_near.column.high in
    let fit_wide : FitsSigned w64 c.args.a.x = omega (arith, ints, low, high) in
    let few_across = c.product-across.ensures.few in
    let few_down = c.product-down.ensures.few in
    let fit_sum : FitsSigned w64 (c.product-across.result +ℤ c.product-down.result) =
    omega (arith, ints, few_across, few_down) in
    let dx_is = simp to_z-of_z at c.apart-dx.ensures.value in
    let right = simp to_z-of_z at c.freer_line-edge.ensures.rightwards in
    let left = simp to_z-of_z at c.freer_line-edge.ensures.leftwards in
    let below_is = simp to_z-of_z at c.below.ensures.value in
    let across_is = simp to_z-of_z at c.product-across.ensures.value in
    let dy_is = simp to_z-of_z at c.apart.ensures.value in
    let ax_is = simp to_z-of_z at c.from.ensures in
    let down_is = simp (to_z-of_z, ax_is) at c.product-down.ensures.value in
    simp to_z-of_z (reach_is c.args.a c.args.b c.args.row c.apart-dx.result c.freer_line-edge.result
    c.below.result c.product-across.result c.apart.result c.product-down.result
    (c.product-across.result +ℤ c.product-down.result) dx_is right left below_is across_is dy_is
    down_is refl)
