-- What a table that keeps distances alone writes of its cells is what it writes of the nearest
-- obstacles.
use Rattle.std.proofs.Common.{◌≡◌, ℕ, zero, suc, ◌+◌, ◌-◌, ◌*◌, ◌/◌, ◌%◌, ◌<◌, ◌≤◌, ◌==◌, ◌∙◌, pos}
use Rattle.std.proofs.Common.{List, [], ◌∷◌, ◌++◌, Bool, true, false, Option, Some, None, length, map}
use Rattle.std.proofs.Common.{drop, take}
use Rattle.std.proofs.Common.{slice_index, slice_index_or, refl, sym, ap, arith, if◌then◌else◌}
use Rattle.std.specs.Fmt.{decimal}
use Rattle.std.specs.List.{flat_map, join_with_byte, range_with_len, slice_range, take-map}
use Rattle.std.proofs.Math.Path.{fun_ext}
use Rattle.std.proofs.Math.Nat.{div-lt_iff_lt-mul, mod-lt, mul-le-mul_right}
use Rattle.std.proofs.lemmas.Nat.{div-mul-add, mod-mul-add}
use Rattle.std.proofs.lemmas.List.{drop-map, ext_get_or, get_or-drop, get_or-map, get_or-take}
use Rattle.std.proofs.lemmas.List.{length-drop, length-map, length-take-le}
use Rattle.std.proofs.lemmas.List.FromFn.{get_or-map-range_with_len, length-map-range_with_len}
use Rattle.metric.specs.declared.edge.Edge.{Edge}
use Rattle.metric.specs.declared.near.Near.{Near}
use Rattle.metric.specs.Nearest.{IsNear}
use Rattle.bits.specs.Cells.{Cells}
use Rattle.bits.specs.Edges.{IsBlocked}
use Rattle.field.specs.Distances.{Distances, IsFarAway, number_at}
use Rattle.field.specs.Obstacles.{IsMeasured}
use Rattle.printing.specs.Measured.{AreDistances, IsDistanceOf, distance_text}
use Rattle.printing.specs.Table.{entry_text, table_text}
use Rattle.printing.specs.Tabled.{HasAllNumbers, IsBelowNone, IsTableOf, some_near, some_nears}
use Rattle.printing.proofs.MeasuredLines.{distance_text-near}

-- what is written of a measured number is what is written of its nearest obstacle
text_measured : (d : ℕ → ℕ → ℕ) (near : Option Near) (number : ℕ) → IsBelowNone d
    → IsMeasured d near number → distance_text number ≡ entry_text false near
text_measured d None number below is = distance_text-near None number is
text_measured d (Some near) number below (is, far) =
    let few = below far.columns far.rows far.few_columns far.few_rows in
    let same = far.is in
    distance_text-near (Some near) number (is, omega (arith, few, same))

-- by either outcome of a test, what is written of a distance is what is written of some spot at it
text_either : (none : Bool) (number : ℕ)
    → (if none then 45 ∷ [] else decimal number)
    ≡ entry_text false (if none then None
    else Some (record { dist = number; cell = record { x = pos 0; y = pos 0 } }))
text_either true number = refl
text_either false number = refl

-- what is written of a distance is what is written of some spot at it
text_some : (number : ℕ) → distance_text number ≡ entry_text false (some_near number)
text_some number = text_either (number == 4294967295) number

-- a list of one choice for each place
record IsChosen {T : Type 0} (P : ℕ → T → Type 0) (nothing : T) (n : ℕ) : Type 0 where
  pub items : List T
  pub many : length items ≡ n
  pub each : (k : ℕ) → k < n → P k (slice_index_or items k nothing)

-- where there is a choice for each place there is a list of them
chosen : {T : Type 0} (P : ℕ → T → Type 0) (nothing : T) (n : ℕ)
    → ((k : ℕ) → k < n → (t : T) × P k t) → IsChosen P nothing n
chosen P nothing zero each =
    record { items = []; many = refl; each = λ k below. absurd (omega (arith, below)) }
chosen {T} P nothing (suc n) each =
    let first : (t : T) × P 0 t = each 0 (omega arith) in
    let others : IsChosen (λ k. P (suc k)) nothing n =
    chosen (λ k. P (suc k)) nothing n (λ k below. each (suc k) (omega (arith, below))) in
    record {
      items = first.0 ∷ others.items;
      many = ap suc others.many;
      each = elim [
        | zero ↦ λ below. first.1
        | suc k ↦ λ below. others.each k (omega (arith, below))
      ];
    }

-- the cell of a place, in rows of this width, is one of a map of this size
place_inside : (width height k : ℕ) → 0 < width → k < height * width → (k % width < width)
    × (k / width < height)
place_inside width height k some below = (mod-lt k some, (div-lt_iff_lt-mul some).1 below)

-- a near of a cell, and that its text is that of the cell's number
pub record IsToldNear (d : ℕ → ℕ → ℕ) (cells : Cells) (edge : Edge) (table : Distances) (k : ℕ)
    (near : Option Near) : Type 0 where
  pub near_is : IsNear d (IsBlocked cells edge) (k % cells.width) (k / cells.width) near
  pub text_is : entry_text false near
      ≡ entry_text false (some_near (number_at table (k % cells.width) (k / cells.width)))

-- what a table of distances writes is what is written of the nearest obstacles
pub IsTableOf-numbers : (d : ℕ → ℕ → ℕ) (cells : Cells) (edge : Edge) (table : Distances)
    → 0 < cells.width → IsBelowNone d
    → ((x y : ℕ) → x < cells.width → y < cells.height
    → IsFarAway d (IsBlocked cells edge) x y (number_at table x y))
    → IsTableOf d edge cells (record {
      width = cells.width;
      height = cells.height;
      nearest = false;
      nears = some_nears cells.width cells.height table;
    })
IsTableOf-numbers d cells edge table some below far =
    let width = cells.width in
    let height = cells.height in
    let each : (k : ℕ) → k < height * width
    → (near : Option Near) × IsToldNear d cells edge table k near =
    λ k inside.
    let place = place_inside width height k some inside in
    let it = far (k % width) (k / width) place.0 place.1 in (
      it.near,
      record {
        near_is = it.near_is;
        text_is = sym (text_measured d it.near (number_at table (k % width) (k / width)) below
            it.measured)
            ∙ text_some (number_at table (k % width) (k / width));
      },
    ) in
    let list = chosen (IsToldNear d cells edge table) None (height * width) each in
    let some_list = some_nears width height table in
    let many = length-map-range_with_len
    (λ k. some_near (number_at table (k % width) (k / width))) 0 (height * width) in
    record {
      width_is = refl;
      height_is = refl;
      nears = list.items;
      rows = record {
        as_many = let none : height - 0 ≡ height = omega arith in rw none list.many;
        each = λ x y column from to.
            let place : y * width + x < height * width =
            let through : (y + 1) * width ≤ height * width =
            mul-le-mul_right width (omega (arith, to)) in omega (arith, through, column) in
            let here : y - 0 ≡ y = omega arith in
            rw here (rw (div-mul-add y width x column, mod-mul-add y width x column) at
            (list.each (y * width + x) place).near_is);
      };
      told = ext_get_or [] (map (entry_text false) list.items) (map (entry_text false) some_list)
          (length-map list.items (entry_text false) ∙ (list.many
          ∙ (sym many ∙ sym (length-map some_list (entry_text false)))))
          (λ k inside.
          let low : k < length list.items = rw (length-map list.items (entry_text false)) at inside
          in
          let within : k < height * width = rw list.many at low in
          get_or-map (entry_text false) list.items k None [] low
          ∙ ((list.each k within).text_is
          ∙ sym (get_or-map (entry_text false) some_list k None [] (rw many within)
          ∙ ap (entry_text false) (get_or-map-range_with_len
          (λ k. some_near (number_at table (k % width) (k / width))) 0 (height * width) k k None
          within (omega arith)))));
    }

-- some spot at a distance in 32 bits is at it
IsDistanceOf-some : (number : ℕ) → number ≤ 4294967295 → IsDistanceOf (some_near number) number
IsDistanceOf-some number few = either (number == 4294967295) refl
  where
    either : (none : Bool) → (number == 4294967295) ≡ none → IsDistanceOf
        (if none then None
        else Some (record { dist = number; cell = record { x = pos 0; y = pos 0 } })) number
    either true is = grind (arith, is)
    either false is = (refl, grind (arith, few, is))

-- the line of a row of a table of distances has the row's numbers
pub AreDistances-line : (width height y : ℕ) (table : Distances) (numbers : List ℕ) → y < height
    → HasAllNumbers width height table → length numbers ≡ width
    → ((x : ℕ) → x < width → slice_index numbers x ≡ number_at table x y)
    → AreDistances (slice_range (some_nears width height table) (y * width) (y * width + width))
    numbers
AreDistances-line width height y table numbers row all long same =
    let nears = some_nears width height table in
    let start : ℕ = y * width in
    let many = length-map-range_with_len
    (λ k. some_near (number_at table (k % width) (k / width))) 0 (height * width) in
    let through : (y + 1) * width ≤ height * width =
    mul-le-mul_right width (omega (arith, row)) in
    let across : start + width - start ≡ width = omega arith in
    let line : length (slice_range nears start (start + width)) ≡ width =
    rw across (length-take-le width (drop start nears)
    (rw (length-drop start nears) (omega (arith, many, through)))) in
    record {
      as_many = long ∙ sym line;
      each = λ x inside.
          let column : x < width = rw line at inside in
          let here : slice_index_or (slice_range nears start (start + width)) x None
          ≡ some_near (number_at table x y) =
          rw across (get_or-take width (drop start nears) x None column
          ∙ (get_or-drop start nears x None
          ∙ (get_or-map-range_with_len
          (λ k. some_near (number_at table (k % width) (k / width))) 0 (height * width) (start + x)
          (start + x) None (omega (arith, through, column)) (omega arith)
          ∙ rw (div-mul-add y width x column, mod-mul-add y width x column) refl))) in
          rw (here, same x column) (IsDistanceOf-some (number_at table x y)
          (all.few x y column row));
    }

-- a table's text is that of what is written of its cells
pub table_text-told : (nearest : Bool) (width height : ℕ) (nears others : List (Option Near))
    → map (entry_text nearest) nears ≡ map (entry_text nearest) others
    → table_text nearest width height nears ≡ table_text nearest width height others
unfolding table_text
table_text-told nearest width height nears others same =
    ap (λ (line : ℕ → List ℕ). flat_map line (range_with_len 0 height))
    (fun_ext (λ y. ap (λ entries. join_with_byte 32 entries ++ 10 ∷ []) (part y)))
  where
    cut : (items : List (Option Near)) (y : ℕ)
        → map (entry_text nearest) (slice_range items (y * width) (y * width + width))
        ≡ slice_range (map (entry_text nearest) items) (y * width) (y * width + width)
    cut items y = sym (ap (λ l. take (y * width + width - y * width) l)
        (drop-map (entry_text nearest) (y * width) items)
        ∙ take-map (entry_text nearest) (y * width + width - y * width) (drop (y * width) items))

    part : (y : ℕ)
        → map (entry_text nearest) (slice_range nears (y * width) (y * width + width))
        ≡ map (entry_text nearest) (slice_range others (y * width) (y * width + width))
    part y = cut nears y ∙ (ap (λ l. slice_range l (y * width) (y * width + width)) same
        ∙ sym (cut others y))
