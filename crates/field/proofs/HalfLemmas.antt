-- Distances in halves, row by row.
use Rattle.std.proofs.Common.{◌≡◌, ℕ, ◌+◌, ◌-◌, ◌*◌, ◌/◌, ◌%◌, ◌<◌, ◌≤◌, ◌∙◌, inl, inr, sym, refl}
use Rattle.std.proofs.Common.{List, [], ◌∷◌, ◌++◌, length, map, slice_index, arith, bit_or, ap}
use Rattle.std.proofs.Common.{length-append}
use Rattle.std.proofs.Math.Nat.{div-add-mod, div-lt_iff_lt-mul, mod-lt}
use Rattle.std.proofs.lemmas.Bool.{cases_lt}
use Rattle.std.proofs.lemmas.Nat.{div-mul-add, le_or_l, le_or_r, mod-mul-add}
use Rattle.std.proofs.lemmas.List.{ext_get_or, get_or-append-add, get_or-map, get_or_append_left}
use Rattle.std.proofs.lemmas.List.{get_or_at, length-map}
use Rattle.std.proofs.lemmas.List.FromFn.{get_or-map-range_with_len, length-map-range_with_len}
use Rattle.std.specs.List.{slice_range}
use Rattle.column.proofs.Places.{place_above}
use Rattle.field.proofs.ObstacleLemmas.{line_at}
use Rattle.field.specs.Compact.{AreLines, HasHighLine, high_half, kept_as, kept_at, low_half}
use Rattle.field.specs.Compact.{number_of, numbers_kept}

-- a list of what a function gives for each number of another is what it gives for all
pub map_is : (f : ℕ → ℕ) (from to : List ℕ) → length to ≡ length from
    → ((x : ℕ) → x < length from → slice_index to x ≡ f (slice_index from x))
    → to ≡ map f from
map_is f from to long each =
    ext_get_or 0 to (map f from) (long ∙ sym (length-map from f))
    (λ x inside.
    let within : x < length from = rw long at inside in
    each x within ∙ sym (get_or-map f from x 0 0 within))

-- a number that isn't below what the numbers before it are kept as, joined with what one more is
-- kept as, isn't below what any of them is kept as
pub kept_more : (line : List ℕ) (x all : ℕ)
    → ((k : ℕ) → k < x → kept_as (slice_index line k) ≤ all)
    → (k : ℕ) → k < x + 1
    → kept_as (slice_index line k) ≤ bit_or all (kept_as (slice_index line x))
kept_more line x all before k below =
    let left = le_or_l all (kept_as (slice_index line x)) in
    let right = le_or_r all (kept_as (slice_index line x)) in
    elim (cases_lt k x) [
      | inl less ↦ let old = before k less in omega (arith, old, left)
      | inr more ↦ let same : k ≡ x = omega (arith, below, more) in rw same right
    ]

-- a number is what both halves of what it is kept as tell
number_of-halves : (number : ℕ) → number < 4294967296
    → number_of (65536 * high_half number + low_half number) ≡ number
number_of-halves number few =
    let parts : 65536 * high_half number + low_half number ≡ kept_as number =
    let split = div-add-mod (kept_as number) 65536 in omega (arith, split) in
    rw parts (omega (arith, few))

-- there are as many distances as low halves
pub length-numbers_kept : (width : ℕ) (low high starts : List ℕ)
    → length (numbers_kept width low high starts) ≡ length low
length-numbers_kept width low high starts =
    length-map-range_with_len (λ place. number_of (kept_at width low high starts place)) 0
    (length low)

-- the distance at a place is what is kept there
number_at_place : (width : ℕ) (low high starts : List ℕ) (place : ℕ) → place < length low
    → slice_index (numbers_kept width low high starts) place
    ≡ number_of (kept_at width low high starts place)
number_at_place width low high starts place inside =
    get_or-map-range_with_len (λ k. number_of (kept_at width low high starts k)) 0 (length low)
    place place 0 inside (omega arith)

-- what both halves of a row's lines tell of a cell is the cell's distance
pub row_told : (width : ℕ) (low high starts lows highs : List ℕ) (row start x : ℕ)
    → AreLines width low high starts → row < length starts → start ≡ slice_index starts row
    → lows ≡ low → highs ≡ high → x < width
    → number_of (65536 * slice_index (slice_range highs start (start + width)) x
    + slice_index (slice_range lows (row * width) (row * width + width)) x)
    ≡ slice_index (numbers_kept width low high starts) (row * width + x)
row_told width low high starts lows highs row start x are below starts_at low_is high_is inside =
    let many = are.as_many in
    let within : row * width + x < length low =
    rw many (place_above row (length starts) width x below inside) in
    rw (
      low_is,
      high_is,
      line_at high start width x 0 inside,
      line_at low (row * width) width x 0 inside,
      starts_at,
    )
    (sym (number_at_place width low high starts (row * width + x) within
    ∙ rw (div-mul-add row width x inside, mod-mul-add row width x inside) refl))

-- what is kept of the rows before stays when a row is appended
kept_before : (width : ℕ) (low high starts line lines : List ℕ) (start place : ℕ)
    → AreLines width low high starts → HasHighLine line high lines start → place < length low
    → kept_at width (low ++ map low_half line) lines (starts ++ start ∷ []) place
    ≡ kept_at width low high starts place
kept_before width low high starts line lines start place are has inside =
    let many = are.as_many in
    let row : place / width < length starts =
    (div-lt_iff_lt-mul are.some).1 (omega (arith, many, inside)) in
    let rest = mod-lt place are.some in
    let within = are.each (place / width) row in
    let begins = get_or_append_left starts (start ∷ []) 0 (place / width) row in
    rw (begins, get_or_append_left low (map low_half line) 0 place inside)
    (ap (λ (high : ℕ). 65536 * high + slice_index low place)
    (has.others (slice_index starts (place / width) + place % width)
    (omega (arith, rest, within))))

-- what is kept of an appended row tells its distances
kept_here : (width : ℕ) (low high starts line lines : List ℕ) (start x : ℕ)
    → AreLines width low high starts → length line ≡ width → HasHighLine line high lines start
    → x < width
    → kept_at width (low ++ map low_half line) lines (starts ++ start ∷ []) (length low + x)
    ≡ 65536 * high_half (slice_index line x) + low_half (slice_index line x)
kept_here width low high starts line lines start x are long has inside =
    let column : x < length line = rw long inside in
    let lows = get_or-append-add low (map low_half line) x 0
    ∙ get_or-map low_half line x 0 0 column in
    rw (
      lows,
      are.as_many,
      div-mul-add (length starts) width x inside,
      mod-mul-add (length starts) width x inside,
      get_or_at starts start [] 0 (length starts) refl,
    )
    (ap (λ (high : ℕ). 65536 * high + low_half (slice_index line x)) (has.each x column))

-- the distances of the rows before and of an appended row are those of all these rows
pub numbers_kept-more : (width : ℕ) (low high starts line lines : List ℕ) (start : ℕ)
    → AreLines width low high starts → length line ≡ width → HasHighLine line high lines start
    → ((x : ℕ) → x < length line → slice_index line x < 4294967296)
    → numbers_kept width (low ++ map low_half line) lines (starts ++ start ∷ [])
    ≡ numbers_kept width low high starts ++ line
numbers_kept-more width low high starts line lines start are long has few =
    let lows : List ℕ = low ++ map low_half line in
    let before : List ℕ = numbers_kept width low high starts in
    let after : List ℕ = numbers_kept width lows lines (starts ++ start ∷ []) in
    let old = length-numbers_kept width low high starts in
    let new = length-numbers_kept width lows lines (starts ++ start ∷ []) in
    let grown : length lows ≡ length low + length line =
    length-append low (map low_half line)
    ∙ ap (λ (n : ℕ). length low + n) (length-map line low_half) in
    let whole : length (before ++ line) ≡ length low + length line =
    length-append before line ∙ ap (λ (n : ℕ). n + length line) old in
    ext_get_or 0 after (before ++ line) (new ∙ (grown ∙ sym whole))
    (λ k inside.
    let within : k < length lows = rw new at inside in
    number_at_place width lows lines (starts ++ start ∷ []) k within
    ∙ elim (cases_lt k (length low)) [
      | inl less ↦
          ap number_of (kept_before width low high starts line lines start k are has less)
          ∙ (sym (number_at_place width low high starts k less)
          ∙ sym (get_or_append_left before line 0 k (rw old less)))
      | inr more ↦
          let x : ℕ = k - length low in
          let place : length low + x ≡ k = omega (arith, more) in
          let column : x < length line = omega (arith, grown, within, more) in
          rw (← place)
          (ap number_of (kept_here width low high starts line lines start x are long has
          (rw (← long) column))
          ∙ (number_of-halves (slice_index line x) (few x column)
          ∙ sym (rw old at (get_or-append-add before line x 0))))
    ])
