-- A side down ends the columns, one up starts them, a level one leaves all or none.
use Rattle.std.proofs.Common.{arith, FitsSigned, w64, w32, rules}
use Rattle.std.proofs.lemmas.Int.{ints, to_z-of_z}
use Rattle.footprint.proofs.Sides.{cut_down, cut_up, level_all, level_none}
use Rattle.footprint.proofs.side.cut.Goals as goal

pub returns-then-dy-gt0 : goal.returns-then-dy-gt0
returns-then-dy-gt0 c =
    let fit_apart_dy : FitsSigned w64 c.apart-dy.result = record { sfits = c.apart-dy.type_inv } in
    let fit_free : FitsSigned w64 c.reach-free.result = record { sfits = c.reach-free.type_inv } in
    let fit_ay : FitsSigned w32 c.args.a.y = search rules in
    let fit_by : FitsSigned w32 c.args.b.y = search rules in
    let fit_row = c.ranges.row in
    let is = simp to_z-of_z at c.apart-dy.ensures.value in
    let reach = simp to_z-of_z at c.reach-free.ensures.value in
    let fit_first : FitsSigned w64 c.args.span.first = search rules in
    let fit_last : FitsSigned w64 c.args.span.last = search rules in
    let fit_left : FitsSigned w64 c.last_left.result = record { sfits = c.last_left.type_inv } in
    let left = simp to_z-of_z at c.last_left.ensures in
    let test = simp to_z-of_z at c.if-dy-gt0.true in
    rw (to_z-of_z w64 c.args.span.first fit_first, to_z-of_z w64 c.last_left.result fit_left)
    (cut_down c.args.a c.args.b c.args.row c.apart-dy.result c.reach-free.result c.args.span.first
    c.args.span.last c.last_left.result is (omega (arith, ints, test)) reach left)

pub returns-then-dy-lt0 : goal.returns-then-dy-lt0
returns-then-dy-lt0 c =
    let fit_apart_dy : FitsSigned w64 c.apart-dy.result = record { sfits = c.apart-dy.type_inv } in
    let fit_free : FitsSigned w64 c.reach-free.result = record { sfits = c.reach-free.type_inv } in
    let fit_ay : FitsSigned w32 c.args.a.y = search rules in
    let fit_by : FitsSigned w32 c.args.b.y = search rules in
    let fit_row = c.ranges.row in
    let is = simp to_z-of_z at c.apart-dy.ensures.value in
    let reach = simp to_z-of_z at c.reach-free.ensures.value in
    let fit_first : FitsSigned w64 c.args.span.first = search rules in
    let fit_last : FitsSigned w64 c.args.span.last = search rules in
    let fit_left : FitsSigned w64 c.first_left.result = record { sfits = c.first_left.type_inv } in
    let left = simp to_z-of_z at c.first_left.ensures in
    let test = simp to_z-of_z at c.if-dy-lt0.true in
    rw (to_z-of_z w64 c.args.span.last fit_last, to_z-of_z w64 c.first_left.result fit_left)
    (cut_up c.args.a c.args.b c.args.row c.apart-dy.result c.reach-free.result c.args.span.first
    c.args.span.last c.first_left.result is (omega (arith, ints, test)) reach left)

pub returns-then-free-gt0 : goal.returns-then-free-gt0
returns-then-free-gt0 c =
    let fit_apart_dy : FitsSigned w64 c.apart-dy.result = record { sfits = c.apart-dy.type_inv } in
    let fit_free : FitsSigned w64 c.reach-free.result = record { sfits = c.reach-free.type_inv } in
    let fit_ay : FitsSigned w32 c.args.a.y = search rules in
    let fit_by : FitsSigned w32 c.args.b.y = search rules in
    let fit_row = c.ranges.row in
    let is = simp to_z-of_z at c.apart-dy.ensures.value in
    let reach = simp to_z-of_z at c.reach-free.ensures.value in
    let over = simp to_z-of_z at c.if-dy-gt0.false in
    let under = simp to_z-of_z at c.if-dy-lt0.false in
    let test = simp to_z-of_z at c.if-free-gt0.true in
    λ x. (
      λ on. (
        on,
        level_all c.args.a c.args.b c.args.row c.apart-dy.result c.reach-free.result x is
            (omega (arith, ints, over)) (omega (arith, ints, under)) reach
            (omega (arith, ints, test)),
      ),
      λ both. both.0,
    )

pub returns-else-free-gt0 : goal.returns-else-free-gt0
returns-else-free-gt0 c =
    let fit_apart_dy : FitsSigned w64 c.apart-dy.result = record { sfits = c.apart-dy.type_inv } in
    let fit_free : FitsSigned w64 c.reach-free.result = record { sfits = c.reach-free.type_inv } in
    let fit_ay : FitsSigned w32 c.args.a.y = search rules in
    let fit_by : FitsSigned w32 c.args.b.y = search rules in
    let fit_row = c.ranges.row in
    let is = simp to_z-of_z at c.apart-dy.ensures.value in
    let reach = simp to_z-of_z at c.reach-free.ensures.value in
    let over = simp to_z-of_z at c.if-dy-gt0.false in
    let under = simp to_z-of_z at c.if-dy-lt0.false in
    let test = simp to_z-of_z at c.if-free-gt0.false in
    λ x. (
      λ on.
          let after = on.after in
          let before = on.before in
          absurd (omega (arith, ints, after, before)),
      λ both. absurd (level_none c.args.a c.args.b c.args.row c.apart-dy.result
          c.reach-free.result x is (omega (arith, ints, over)) (omega (arith, ints, under)) reach
          (omega (arith, ints, test)) both.1),
    )
