-- From the last cell at which the left column isn't worse to the first one at which the right one
-- is strictly nearer.
use Rattle.std.proofs.Common.{◌≡◌, ℕ, ◌+◌, ◌≤◌, ℤ, pos, negsuc, ◌+ℤ◌, to_z, of_z, inl, inr, arith}
use Rattle.std.proofs.Common.{w64}
use Rattle.std.specs.Prelude.{nat_abs}
use Rattle.std.proofs.lemmas.Bool.{cases_lt}
use Rattle.std.proofs.lemmas.Int.{to_z_pos}
use Rattle.metric.specs.Crossing.{AreColumns, IsLastNotWorse, StaysNearer, at_column}
use Rattle.envelope.specs.Columns.{IsCrossing}

-- up to the last cell at which the left column isn't worse, it isn't worse
not_worse_before : (d : ℕ → ℕ → ℕ) (i gi u gu last x : ℕ) → StaysNearer d → AreColumns i gi u gu
    → last ≤ 4097 → at_column d i gi last ≤ at_column d u gu last → x ≤ last
    → at_column d i gi x ≤ at_column d u gu x
not_worse_before d i gi u gu last x stays columns few here order =
    elim (cases_lt (at_column d u gu x) (at_column d i gi x)) [
      | inl nearer ↦ let there =
          (stays i gi u gu x last columns order few (record { less = nearer })).less in
          absurd (omega (arith, there, here))
      | inr fine ↦ fine
    ]

-- the next cell, as a number of 64 bits that is one more
pub crossing_at : (d : ℕ → ℕ → ℕ) (i gi u gu : ℕ) (last : ℤ) → StaysNearer d → AreColumns i gi u gu
    → IsLastNotWorse d i gi u gu last
    → IsCrossing d i gi u gu (nat_abs (to_z w64 (of_z w64 (to_z w64 (of_z w64 last) +ℤ pos 1))))
crossing_at d i gi u gu (pos last) stays columns told =
    let few = told.0 in
    let here = told.1 in
    let one : to_z w64 last ≡ pos last = to_z_pos w64 last (omega (arith, few)) in
    let two : to_z w64 (last + 1) ≡ pos (last + 1) = to_z_pos w64 (last + 1) (omega (arith, few)) in
    rw (one, two) (record {
      few = omega (arith, few);
      before = λ x less. not_worse_before d i gi u gu last x stays columns few here
          (omega (arith, less));
      after = λ x from within. (told.2 x (omega (arith, from)) within).less;
    })
crossing_at d i gi u gu (negsuc before) stays columns (none, after) =
    rw none (record {
      few = omega arith;
      before = λ x less. absurd (omega (arith, less));
      after = λ x from within. (after x within).less;
    })
