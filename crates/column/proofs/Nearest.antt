-- One column: which of two rows is the nearer one.
use Rattle.std.proofs.Common.{◌≡◌, ◌≢◌, ℕ, ◌<◌, ◌≤◌, inl, inr, Option, Some, None, arith}
use Rattle.std.specs.Int.{abs_diff}
use Rattle.std.proofs.lemmas.Bool.{cases_lt, cases_eq}
use Rattle.std.proofs.lemmas.Bool.Decides.{nat_tests}
use Rattle.column.specs.Columns.{IsRowAtMost, row_of}
use Rattle.column.specs.Marks.{nearer}

-- the mark stands for no row
pub row_of-none : (entry : ℕ) → entry ≡ 65535 → row_of entry ≡ None
row_of-none entry is = grind (arith, nat_tests)

-- an entry that isn't the mark stands for itself
pub row_of-some : (entry : ℕ) → entry ≢ 65535 → row_of entry ≡ Some entry
row_of-some entry not = grind (arith, nat_tests)

-- a row that is no farther, and not below one that is as far, comes first
pub IsRowAtMost-by : (y row other : ℕ) → abs_diff y row ≤ abs_diff y other
    → (abs_diff y row ≡ abs_diff y other → row ≤ other) → IsRowAtMost y row other
IsRowAtMost-by y row other near upper = record {
  order = elim (cases_lt (abs_diff y row) (abs_diff y other)) [
    | inl nearer ↦ inl nearer
    | inr far ↦ let same : abs_diff y row ≡ abs_diff y other = omega arith in
        inr (same, upper same)
  ];
}

-- what holds in each case of two entries holds of the nearer of them
pub nearer_by : (P : Option ℕ → Type 0) (y above below : ℕ) → (below ≡ 65535 → P (row_of above))
    → (below ≢ 65535 → above ≡ 65535 → P (Some below))
    → (below ≢ 65535 → above ≢ 65535 → abs_diff y below < abs_diff y above → P (Some below))
    → (below ≢ 65535 → above ≢ 65535 → abs_diff y above ≤ abs_diff y below → P (Some above))
    → P (row_of (nearer y above below))
nearer_by P y above below none_below none_above lower upper =
    elim (cases_eq below 65535) [
      | inl none ↦
          let result : nearer y above below ≡ above = grind (arith, nat_tests) in
          rw result (none_below none)
      | inr some ↦ elim (cases_eq above 65535) [
        | inl none ↦
            let result : nearer y above below ≡ below = grind (arith, nat_tests) in
            rw (result, row_of-some below some) (none_above some none)
        | inr both ↦ elim (cases_lt (abs_diff y below) (abs_diff y above)) [
          | inl less ↦
              let result : nearer y above below ≡ below = grind (arith, nat_tests) in
              rw (result, row_of-some below some) (lower some both less)
          | inr more ↦
              let result : nearer y above below ≡ above = grind (arith, nat_tests) in
              rw (result, row_of-some above both) (upper some both more)
        ]
      ]
    ]
