-- The difference of the two products.
use Rattle.std.proofs.Common.{FitsSigned, w64, w32, rules, refl, ◌∙◌}
use Rattle.std.proofs.lemmas.Int.{to_z-of_z}
use Rattle.footprint.proofs.Convexes.{less_by_difference}
use Rattle.footprint.proofs.polygon.is_turn.Goals as goal

pub returns : goal.returns
returns c =
    let fit_left : FitsSigned w64 c.product-left.result =
    record { sfits = c.product-left.type_inv } in
    let fit_right : FitsSigned w64 c.product-right.result =
    record { sfits = c.product-right.type_inv } in
    let fit_1 : FitsSigned w64 c.apart.result = record { sfits = c.apart.type_inv } in
    let fit_2 : FitsSigned w64 c.apart-2.result = record { sfits = c.apart-2.type_inv } in
    let fit_3 : FitsSigned w64 c.apart-3.result = record { sfits = c.apart-3.type_inv } in
    let fit_4 : FitsSigned w64 c.apart-4.result = record { sfits = c.apart-4.type_inv } in
    let fit_from_x : FitsSigned w32 c.args.from.x = search rules in
    let fit_from_y : FitsSigned w32 c.args.from.y = search rules in
    let fit_at_x : FitsSigned w32 c.args.at.x = search rules in
    let fit_at_y : FitsSigned w32 c.args.at.y = search rules in
    let fit_to_x : FitsSigned w32 c.args.to.x = search rules in
    let fit_to_y : FitsSigned w32 c.args.to.y = search rules in
    let left = simp to_z-of_z at c.product-left.ensures.value in
    let right = simp to_z-of_z at c.product-right.ensures.value in
    let one = simp to_z-of_z at c.apart.ensures.value in
    let two = simp to_z-of_z at c.apart-2.ensures.value in
    let three = simp to_z-of_z at c.apart-3.ensures.value in
    let four = simp to_z-of_z at c.apart-4.ensures.value in
    simp to_z-of_z
    (less_by_difference c.product-left.result c.product-right.result
    ∙ rw (left, right, one, two, three, four) refl)
