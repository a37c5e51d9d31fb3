-- Each strip that was found comes after those before it, and at the end all were taken.
use Rattle.std.proofs.Common.{◌≡◌, ◌∙◌, List, [], ◌∷◌, ◌++◌, Ok, Result, map, length, sym, ap, refl}
use Rattle.std.proofs.Common.{append_assoc, append-nil}
use Rattle.std.proofs.lemmas.List.{map_push, nil_from_length}
use Rattle.field.proofs.strips.gather.Goals as goal

-- strips are all that were found if none is left
all_taken : {V E : Type 0} (taken rest found : List (Result V E)) (strips : List V)
    → taken ++ rest ≡ found → map Ok strips ≡ taken → length rest ≡ 0 → found ≡ map Ok strips
all_taken {V} {E} taken rest found strips all are none =
    sym (are ∙ (sym (append-nil taken) ∙ (sym (ap (λ (l : List (Result V E)). taken ++ l)
    (nil_from_length rest none)) ∙ all)))

pub strips-preserved : goal.strips-preserved
strips-preserved g c =
    let so_far = c.strips.invariant in
    let here : c.strips.cells-iterator.rest.items ≡ c.in-Some.cells ∷ c.next.new.self.rest.items =
    c.in-Some.ensures.steps.0 in
    let pushed : c.push_reserved.new.self.items ≡ c.strips.strips.items
    ++ (c.in_ok-cells.field-0 ∷ []) = c.push_reserved.ensures.items in
    let was : c.in-Some.cells ≡ Ok c.in_ok-cells.field-0 = c.in_ok-cells.was in (
      tt,
      tt,
      rw append_assoc (rw here at so_far.2),
      rw (pushed, was, map_push, so_far.3) refl,
      rw c.push_reserved.ensures.capacity so_far.4,
    )

pub returns : goal.returns
returns g c =
    let so_far = c.strips.invariant in
    all_taken c.strips.yielded c.strips.cells-iterator.rest.items c.args.found.items
    c.strips.strips.items so_far.2 so_far.3
    (sym c.strips.cells-iterator.rest.ok.0 ∙ c.in-None.ensures.steps.0)
