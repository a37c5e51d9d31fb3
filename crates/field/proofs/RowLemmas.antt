-- The values of the cells of rows, and what they tell.
use Rattle.std.proofs.Common.{◌≡◌, ℕ, ◌+◌, ◌-◌, ◌*◌, ◌≤◌, inl, inr, List, ◌++◌, length, arith}
use Rattle.std.proofs.Common.{◌∙◌, Option, length-append, subst, sym}
use Rattle.std.proofs.lemmas.List.{get_or_append_left, get_or-append-add, get_or_past}
use Rattle.metric.specs.declared.edge.Edge.{Edge}
use Rattle.metric.specs.declared.near.Near.{Near}
use Rattle.metric.specs.Nearest.{IsNear}
use Rattle.bits.specs.Cells.{Cells}
use Rattle.bits.specs.Edges.{IsBlocked}
use Rattle.envelope.specs.Answer.{Reading, Saying}
use Rattle.envelope.specs.Rows.{AreRowValues, SaysNear}
use Rattle.field.specs.Bands.{AreAnswers, AreValues}
use Rattle.field.proofs.BandLemmas.{rows_more}

-- the values of some rows, with those of the next row after them, are those of one more row
pub AreValues-more : {T : Type 0} (says : Saying T) (unset : T) (d : ℕ → ℕ → ℕ) (cells : Cells)
    (edge : Edge) (y0 y : ℕ) (rows row : List T) → y0 ≤ y
    → AreValues says unset d cells edge y0 y rows
    → AreRowValues says unset d cells edge y cells.width row
    → AreValues says unset d cells edge y0 (y + 1) (rows ++ row)
AreValues-more says unset d cells edge y0 y rows row ordered before here =
    let width = cells.width in
    let many = before.as_many in
    let long = here.as_many in
    let next : y + 1 - y0 ≡ y - y0 + 1 = omega (arith, ordered) in
    let all = length-append rows row in
    let whole : length (rows ++ row) ≡ (y - y0) * width + width = omega (arith, all, many, long) in
    record {
      as_many = rw next (omega (arith, whole));
      each = rows_more (SaysNear says d (IsBlocked cells edge)) unset width y0 y rows (rows ++ row)
          ordered before.each
          (λ x inside. rw (← many, get_or-append-add rows row x unset) (here.each x inside))
          (λ k aside. elim aside [
            | inl low ↦ get_or_append_left rows row unset k (rw many low)
            | inr high ↦ get_or_past (rows ++ row) k unset (omega (arith, whole, high))
                ∙ sym (get_or_past rows k unset (omega (arith, many, high)))
          ]);
    }

-- values that say what an answer tells are answers
pub AreAnswers-values : {T : Type 0} (told : Reading T) (nothing : T) (d : ℕ → ℕ → ℕ)
    (cells : Cells) (edge : Edge) (from to : ℕ) (answers : List T)
    → AreValues (λ distance x y answer near. told distance x y answer ≡ near) nothing d cells edge
    from to answers
    → AreAnswers told nothing d cells edge from to answers
AreAnswers-values told nothing d cells edge from to answers values = record {
  as_many = values.as_many;
  filled = record {
    each = λ x y column low high.
        let it = values.each x y column low high in
        subst (λ (near : Option Near). IsNear d (IsBlocked cells edge) x y near) (sym it.said)
        it.near_is;
  };
}
