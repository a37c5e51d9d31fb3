-- Each part of the word is marked after those before it.
use Rattle.std.proofs.Common.{◌≡◌, ◌+◌, ◌-◌, ◌*◌, ◌/◌, ◌^◌, ◌<◌, ◌≤◌, ◌==◌, ◌⊎◌, ◌∙◌, ℕ, inl, inr}
use Rattle.std.proofs.Common.{List, length, get_or, ap, bit_and, arith, refl, rules, sym}
use Rattle.std.specs.Int.{bit_at}
use Rattle.std.proofs.lemmas.Bool.{cases_lt}
use Rattle.std.proofs.lemmas.List.{get_or_past}
use Rattle.std.proofs.lemmas.Simd.{get_or-chunk, get_or-put_chunk_above, get_or-put_chunk_at}
use Rattle.std.proofs.lemmas.Simd.{get_or-put_chunk_below}
use Rattle.bits.proofs.WordBits.{bit_of_part}
use Rattle.column.specs.Marks.{marked}
use Rattle.column.proofs.row.mark_word.Goals as goal
use Rattle.column.proofs.row.mark_word.Goals.{Joined-start-row, then-start-row}
use Rattle.column.proofs.row.mark_word.Goals.{else-start-row+then-start-row-2}
use Rattle.column.proofs.row.mark_word.Goals.{else-start-row+else-start-row-2}

-- up to eight entries from one on are marked, and all others stay
record IsPartMarked (bits y first : ℕ) (old new : List ℕ) : Type 0 where
  marked : (i : ℕ) → i < 8 → first + i < length old
      → get_or new (first + i) 0 ≡ marked (bit_at bits i == 1) y (get_or old (first + i) 0)
  others : (x : ℕ) → (x < first) ⊎ (first + 8 ≤ x) → get_or new x 0 ≡ get_or old x 0

-- a part's entries are marked, in lanes or one by one
part_marked : (c : Joined-start-row)
    → IsPartMarked (bit_and (c.args.word / 2 ^ (8 * c.parts.part)) 255) c.args.y
    (c.args.first + 8 * c.parts.part) c.parts.row c.if-start-row.row
part_marked c = elim c.if-start-row.branch [
  | then-start-row w ↦
      let start : ℕ = c.args.first + 8 * c.parts.part in
      let lanes = w.marked_lanes.result in
      let eight : length lanes ≡ 8 = search rules in
      rw w.row-is (record {
        marked = λ i within inside.
            get_or-put_chunk_at start c.parts.row lanes i 0 (omega (arith, eight))
            (omega (arith, eight))
            ∙ (w.marked_lanes.ensures i within
            ∙ ap (marked _ c.args.y) (get_or-chunk start 8 c.parts.row i 0 within));
        others = λ x away. elim away [
          | inl before ↦ get_or-put_chunk_below start c.parts.row lanes x 0 before
          | inr behind ↦ get_or-put_chunk_above start c.parts.row lanes x 0
              (omega (arith, eight, behind))
        ];
      })
  | else-start-row+then-start-row-2 w ↦ rw w.row-is (record {
    marked = w.mark_last.ensures.marked;
    others = λ x away. elim away [
      | inl before ↦ w.mark_last.ensures.others x before
      | inr behind ↦ get_or_past w.mark_last.new.row x 0 (omega arith)
          ∙ sym (get_or_past c.parts.row x 0 (omega arith))
    ];
  })
  | else-start-row+else-start-row-2 w ↦ rw w.row-is (record {
    marked = λ i within inside. absurd (omega arith);
    others = λ x away. refl;
  })
]

pub parts-preserved : goal.parts-preserved
parts-preserved c =
    let len = c.parts.auto.row in
    let part = c.parts.part in
    let first = c.args.first in
    let now = part_marked c in
    record {
      marked = λ i below inside. elim (cases_lt i (8 * part)) [
        | inl before ↦ now.others (first + i) (inl (omega (arith, before)))
            ∙ c.parts.invariant.marked i before inside
        | inr here ↦
            let j : ℕ = i - 8 * c.parts.part in
            let place : c.args.first + 8 * c.parts.part + (i - 8 * c.parts.part)
            ≡ c.args.first + i = omega (arith, here) in
            let sum : 8 * c.parts.part + (i - 8 * c.parts.part) ≡ i = omega (arith, here) in
            let bit : bit_at (bit_and (c.args.word / 2 ^ (8 * c.parts.part)) 255)
            (i - 8 * c.parts.part) ≡ bit_at c.args.word i =
            bit_of_part c.args.word c.parts.part (i - 8 * c.parts.part) (omega (arith, below, here))
            ∙ ap (bit_at c.args.word) sum in
            let old : get_or c.parts.row (c.args.first + i) 0
            ≡ get_or c.args.row.now (c.args.first + i) 0 =
            c.parts.invariant.later (c.args.first + i) (omega (arith, here)) in
            rw (place, bit, old) at
            (now.marked (i - 8 * c.parts.part) (omega (arith, below, here))
            (omega (arith, here, inside, len)))
      ];
      later = λ k behind. now.others k (inr (omega (arith, behind)))
          ∙ c.parts.invariant.later k (omega (arith, behind));
      earlier = λ k before. now.others k (inl (omega (arith, before)))
          ∙ c.parts.invariant.earlier k before;
    }
