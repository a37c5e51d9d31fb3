-- The nearest obstacles of rows that are filled one after another, and of bands that stand one
-- after another.
use Rattle.std.proofs.Common.{◌≡◌, ℕ, ◌+◌, ◌-◌, ◌*◌, ◌/◌, ◌<◌, ◌≤◌, ◌⊎◌, ◌∙◌, inl, inr, List, ◌++◌}
use Rattle.std.proofs.Common.{take, drop, Option, None, Result, Ok, Err, OnOk, length}
use Rattle.std.proofs.Common.{slice_index_or, arith, length-append, ap, sym, append_assoc}
use Rattle.std.proofs.Math.Nat.{div-le_self, div-mul-le_self, mul-div_cancel_left, mul-le-mul_right}
use Rattle.std.proofs.lemmas.Bool.{cases_lt}
use Rattle.std.proofs.lemmas.Nat.{le-div}
use Rattle.std.proofs.lemmas.List.{get_or_append_left, get_or-append-add, get_or-drop, get_or-take}
use Rattle.std.proofs.lemmas.List.{length-take-le, take_all, take_at}
use Rattle.std.proofs.lemmas.Slice.{drop-put_mid}
use borrow.Rule.Slice.PartMut.{post_of, put_mid, take_put}
use Rattle.metric.specs.declared.edge.Edge.{Edge}
use Rattle.metric.specs.declared.near.Near.{Near}
use Rattle.bits.specs.Cells.{Cells}
use Rattle.field.specs.Bands.{AreAnswers, HasRoom}
use Rattle.metric.specs.Workers.{row_behind}
use Rattle.field.specs.Rows.{AreNears}
use Rattle.column.proofs.Places.{place_above}

-- a line that is put after a list, once the list was filled up, follows the list
pub put_behind : {T : Type 0} (old fill room line rest : List T) (start n k len : ℕ)
    → room ≡ take n old ++ fill → start ≡ length old → start ≤ n → len ≡ start + length line
    → take len (put_mid start k room line ++ rest) ≡ old ++ line
put_behind {T} old fill room line rest start n k len filled start_is few all =
    let whole : take n old ≡ old = take_all n old (omega (arith, start_is, few)) in
    let front : take start room ≡ old = rw (filled, whole)
    (take_at old fill start (sym start_is)) in
    let apart : put_mid start k room line ++ rest
    ≡ (old ++ line) ++ (post_of start k room ++ rest) =
    rw front (ap (λ (l : List T). l ++ rest) (sym (append_assoc old line (post_of start k room)))
    ∙ append_assoc (old ++ line) (post_of start k room) rest) in
    rw apart (take_at (old ++ line) (post_of start k room ++ rest) len
    (length-append old line ∙ omega (arith, start_is, all)))

-- an element of a line that was put among others is read at its place among them
get_or-put : {T : Type 0} (all line rest : List T) (start x : ℕ) (other : T) → start ≤ length all
    → x < length line → slice_index_or (take start all ++ (line ++ rest)) (start + x) other
    ≡ slice_index_or line x other
get_or-put all line rest start x other within inside =
    let front = length-take-le start all within in
    rw front at (get_or-append-add (take start all) (line ++ rest) x other
    ∙ get_or_append_left line rest other x inside)

-- what holds of each item as far as row y holds of each one row further once that row's are written
pub rows_more : {T : Type 0} (Is : ℕ → ℕ → T → Type 0) (nothing : T) (width from y : ℕ)
    (before after : List T) → from ≤ y
    → ((x b : ℕ) → x < width → from ≤ b → b < y
    → Is x b (slice_index_or before ((b - from) * width + x) nothing))
    → ((x : ℕ) → x < width → Is x y (slice_index_or after ((y - from) * width + x) nothing))
    → ((k : ℕ) → (k < (y - from) * width) ⊎ ((y - from) * width + width ≤ k)
    → slice_index_or after k nothing ≡ slice_index_or before k nothing)
    → (x b : ℕ) → x < width → from ≤ b → b < y + 1
    → Is x b (slice_index_or after ((b - from) * width + x) nothing)
rows_more Is nothing width from y before after ordered filled here others x b column low high =
    elim (cases_lt b y) [
      | inl above ↦
          let place : (b - from) * width + x < (y - from) * width =
          place_above (b - from) (y - from) width x (omega arith) column in
          rw (others ((b - from) * width + x) (inl place)) (filled x b column low above)
      | inr below ↦
          let same : b ≡ y = omega arith in
          rw same (here x column)
    ]

-- a further row holds where its line is put in its place
pub rows_put : {T : Type 0} (Is : ℕ → ℕ → T → Type 0) (nothing : T) (width from y start wide : ℕ)
    (before line : List T) → from ≤ y → start ≡ (y - from) * width → wide ≡ width
    → start + wide ≤ length before → length line ≡ width
    → ((x b : ℕ) → x < width → from ≤ b → b < y
    → Is x b (slice_index_or before ((b - from) * width + x) nothing))
    → ((x : ℕ) → x < width → Is x y (slice_index_or line x nothing))
    → (x b : ℕ) → x < width → from ≤ b → b < y + 1
    → Is x b (slice_index_or (put_mid start (start + wide - start) before line)
    ((b - from) * width + x) nothing)
rows_put {T} Is nothing width from y start wide before line ordered start_is wide_is room long
    filled here =
    let part : start + wide - start ≡ wide = omega arith in
    let within : start ≤ length before = omega (arith, room) in
    let after : List T = put_mid start wide before line in
    let end : ℕ = start + wide in
    rw part
    (rows_more Is nothing width from y before after ordered filled
    (λ x column. rw (
      ← start_is,
      get_or-put before line (post_of start wide before) start x nothing within
          (omega (arith, column, long)),
    ) (here x column))
    (λ k aside. elim (rw (← start_is, ← wide_is) at aside) [
      | inl low ↦ sym (get_or-take start after k nothing low)
          ∙ (ap (λ (l : List T). slice_index_or l k nothing)
          (take_put start wide before line within)
          ∙ get_or-take start before k nothing low)
      | inr high ↦
          let place : end + (k - end) ≡ k = omega (arith, high) in
          let same : drop end after ≡ drop end before =
          drop-put_mid start wide before line end (omega arith) within
          (omega (arith, long, wide_is)) in
          rw place at (sym (get_or-drop end after (k - end) nothing)
          ∙ (ap (λ (l : List T). slice_index_or l (k - end) nothing) same
          ∙ get_or-drop end before (k - end) nothing))
    ]))

-- where all of each answer is kept, the answers of some rows are the nearest obstacles of their
-- cells
pub AreNears-answers : (distance : ℕ → ℕ → ℕ) (cells : Cells) (edge : Edge) (y0 y1 : ℕ)
    (nears : List (Option Near))
    → AreAnswers (λ d x y near. near) None distance cells edge y0 y1 nears
    → AreNears distance cells edge y0 y1 nears
AreNears-answers distance cells edge y0 y1 nears answers =
    record { as_many = answers.as_many; each = answers.filled.each }

-- the nearest obstacles of a band's rows and of the rows after them, assembled, are those of all
-- these rows
pub AreNears-join : (distance : ℕ → ℕ → ℕ) (cells : Cells) (edge : Edge) (from to end : ℕ)
    (own others : List (Option Near)) → from ≤ to → to ≤ end
    → AreNears distance cells edge from to own → AreNears distance cells edge to end others
    → AreNears distance cells edge from end (own ++ others)
AreNears-join distance cells edge from to end own others ordered within above behind = record {
  as_many =
      let both : end - from ≡ (to - from) + (end - to) = omega arith in
      rw (length-append own others, above.as_many, behind.as_many, both) (omega arith);
  each = λ x b column low high. elim (cases_lt b to) [
    | inl before ↦
        let place : (b - from) * cells.width + x < length own =
        rw above.as_many (place_above (b - from) (to - from) cells.width x (omega arith) column) in
        rw (get_or_append_left own others None ((b - from) * cells.width + x) place)
        (above.each x b column low before)
    | inr beyond ↦
        let rows : b - from ≡ (to - from) + (b - to) = omega arith in
        let place : (b - from) * cells.width + x ≡ length own + ((b - to) * cells.width + x) =
        rw (rows, above.as_many) (omega arith) in
        rw (place, get_or-append-add own others ((b - to) * cells.width + x) None)
        (behind.each x b column beyond high)
  ];
}

-- more bands end at no earlier row
pub row_behind-grows : (y0 y1 count a b : ℕ) → 1 ≤ count → a ≤ b
    → row_behind y0 y1 count a ≤ row_behind y0 y1 count b
row_behind-grows y0 y1 count a b some order =
    let scaled : a * (y1 - y0) ≤ b * (y1 - y0) = mul-le-mul_right (y1 - y0) order in
    let below : a * (y1 - y0) / count * count ≤ a * (y1 - y0) =
    div-mul-le_self (a * (y1 - y0)) count in
    let quotients : a * (y1 - y0) / count ≤ b * (y1 - y0) / count =
    le-div (a * (y1 - y0) / count) (b * (y1 - y0)) count some (omega (arith, scaled, below)) in
    omega (arith, quotients)

-- the row after no band is the first row
row_behind-none : (y0 y1 count : ℕ) → row_behind y0 y1 count 0 ≡ y0
row_behind-none y0 y1 count =
    let none : 0 * (y1 - y0) ≡ 0 = omega arith in
    let quotient : 0 / count ≤ 0 = div-le_self 0 count in
    rw none (omega (arith, quotient))

-- the row after all bands is the one after the last row
row_behind-all : (y0 y1 count : ℕ) → 1 ≤ count → y0 ≤ y1 → row_behind y0 y1 count count ≡ y1
row_behind-all y0 y1 count some order = rw (mul-div_cancel_left (y1 - y0) some) (omega arith)

-- the room of all rows is that of all bands
pub HasRoom-all : {T : Type 0} (cells : Cells) (y0 y1 count : ℕ) (answers : List T) → 1 ≤ count
    → y0 ≤ y1 → y1 ≤ cells.height → length answers ≡ (y1 - y0) * cells.width
    → HasRoom cells (row_behind y0 y1 count 0) (row_behind y0 y1 count count) answers
HasRoom-all cells y0 y1 count answers some order within as_many =
    rw (row_behind-none y0 y1 count, row_behind-all y0 y1 count some order)
    (record { order = order; within = within; as_many = as_many })

-- the nearest obstacles of all bands are those of all rows
pub AreNears-all : (distance : ℕ → ℕ → ℕ) (cells : Cells) (edge : Edge) (y0 y1 count : ℕ)
    (nears : List (Option Near)) → 1 ≤ count → y0 ≤ y1
    → AreNears distance cells edge (row_behind y0 y1 count 0) (row_behind y0 y1 count count) nears
    → AreNears distance cells edge y0 y1 nears
AreNears-all distance cells edge y0 y1 count nears some order found =
    rw (row_behind-none y0 y1 count, row_behind-all y0 y1 count some order) at found

-- the upper rows lie within the room of all
pub room_above : {T : Type 0} (cells : Cells) (from middle to : ℕ) (answers : List T)
    → from ≤ middle → middle ≤ to → HasRoom cells from to answers
    → (middle - from) * cells.width ≤ length answers
room_above cells from middle to answers upper lower room =
    let as_many = room.as_many in
    let part : (middle - from) * cells.width ≤ (to - from) * cells.width =
    mul-le-mul_right cells.width (omega arith) in
    omega (arith, as_many, part)

-- the room after the upper rows is that of the lower ones
pub room_below : {T : Type 0} (cells : Cells) (from middle to : ℕ) (answers lower : List T)
    → from ≤ middle → middle ≤ to → HasRoom cells from to answers
    → length lower + (middle - from) * cells.width ≡ length answers → HasRoom cells middle to lower
room_below cells from middle to answers lower above below room rest =
    let as_many = room.as_many in
    let both : to - from ≡ (middle - from) + (to - middle) = omega arith in
    let split : (to - from) * cells.width ≡ (middle - from) * cells.width + (to - middle)
    * cells.width = rw both (omega arith) in
    record { order = below; within = room.within; as_many = omega (arith, as_many, rest, split) }

-- what follows from two facts of one success holds of that success
pub on_ok_both : {T E P Q R : Type 0} (result : Result T E) → (P → Q → R) → OnOk result P
    → OnOk result Q → OnOk result R
on_ok_both (Ok value) both first second = both first second
on_ok_both (Err error) both first second = first

-- the front of a list that was overwritten is what was written
pub written_over : {T : Type 0} (n : ℕ) (new old : List T) → length new ≡ n
    → take n (new ++ drop (length new) old) ≡ new
written_over n new old as_many = take_at new (drop (length new) old) n as_many

-- what follows from a fact of a success holds of it
pub on_ok : {T E P Q : Type 0} (result : Result T E) → (P → Q) → OnOk result P → OnOk result Q
on_ok (Ok value) next fact = next fact
on_ok (Err error) next fact = fact
