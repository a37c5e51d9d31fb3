-- A plain raster, read word by word.
use Rattle.std.proofs.Common.{◌≡◌, ℕ, ◌+◌, ◌-◌, ◌*◌, ◌/◌, ◌%◌, ◌<◌, ◌≤◌, ◌==◌, ◌&&◌, min, Bool}
use Rattle.std.proofs.Common.{false, cond, eqb, List, ◌++◌, length, get_or, Result, Err, sym, ap}
use Rattle.std.proofs.Common.{◌∙◌, inl, inr, arith, length-append}
use Rattle.std.specs.Int.{bit_at}
use Rattle.std.proofs.lemmas.Bool.{cases_lt, cases_eq, and_parts, eq-eqb, eqb-true}
use Rattle.std.proofs.lemmas.Bool.{false_from_ne_true}
use Rattle.std.proofs.lemmas.List.{get_or_append_left, get_or-append_right, get_or_past}
use Rattle.metric.specs.declared.fault.PbmFault.{PbmFault}
use Rattle.bits.specs.Cells.{Cells, has}
use Rattle.bits.specs.Writes.{with_word}
use Rattle.bits.proofs.CellsLemmas.{has-cells_where, cells_where-same}
use Rattle.pbm.specs.Faults.{pixels, cells_of_pixels}
use Rattle.pbm.specs.Plain.{AreBitsRead}
use Rattle.pbm.proofs.PartReads.{pixels-add, pixels-add_fault, front-append}
use Rattle.pbm.proofs.Progress.{IsReadTo}
use Rattle.pbm.proofs.Rasters.{with_front}
use Rattle.std.proofs.lemmas.Grind.{common_steps}
use Rattle.std.proofs.lemmas.Bool.Decides.{nat_tests}

-- how many pixels stand before a word: those of the rows above, and of the words before it
abbrev pub pixels_before : ℕ → ℕ → ℕ → ℕ
pixels_before width y index = y * width + min width (64 * index)

-- a cell in an earlier row, or in that row and in an earlier column, comes before
earlier_row : (width a b x y : ℕ) → a < width → b < y → b * width + a < y * width + x
earlier_row width a b x y column above = grind (arith, nat_tests, common_steps)

-- a number that isn't below another, nor equal to it, is above it
under : (m n : ℕ) → n ≤ m → (m ≡ n → ⊥) → n < m
under m n from apart =
    elim (cases_lt n m) [ inl more ↦ more | inr same ↦ absurd (apart (omega arith)) ]

-- a word's pixels are among those of the bitmap
word_within : (width height y index count : ℕ) → 64 * index < width → y < height
    → count ≡ min (width - 64 * index) 64 → y * width + 64 * index + count ≤ width * height
word_within width height y index count column row count_is = grind (arith, nat_tests, common_steps)

-- a further word is its cells more
cells_of-word : (width height y index count word : ℕ) (front more : List Bool) → 64 * index < width
    → y < height → count ≡ min (width - 64 * index) 64
    → length front ≡ y * width + 64 * index → length more ≡ count
    → ((i : ℕ) → i < count → (bit_at word i == 1) ≡ get_or more i false)
    → with_word (cells_of_pixels width height front) y index word
    ≡ cells_of_pixels width height (front ++ more)
cells_of-word width height y index count word front more column row count_is size more_size bits =
    cells_where-same width height
    (λ a b. cond (eqb b y && eqb (a / 64) index) (bit_at word (a % 64) == 1)
    (has (cells_of_pixels width height front) a b))
    (λ a b. get_or (front ++ more) (b * width + a) false) (λ a b ha hb.
    let before : has (cells_of_pixels width height front) a b ≡ get_or front (b * width + a) false =
    has-cells_where width height (λ x y. get_or front (y * width + x) false) a b ha hb in
    elim (cases_eq b y) [
      | inr other_row ↦
          let no : (eqb b y && eqb (a / 64) index) ≡ false =
          false_from_ne_true (eqb b y && eqb (a / 64) index)
          (λ both. other_row (eqb-true b y (and_parts (eqb b y) (eqb (a / 64) index) both).0)) in
          rw no (before ∙ elim (cases_lt b y) [
            | inl above ↦ let earlier = earlier_row width a b (64 * index) y ha above in
                sym (get_or_append_left front more false (b * width + a)
                (omega (arith, earlier, size)))
            | inr below ↦
                let later = earlier_row width (64 * index + (count - 1)) y a b (omega arith)
                (under b y below other_row) in
                let all = length-append front more in
                get_or_past front (b * width + a) false (omega (arith, later, size, more_size))
                ∙ sym (get_or_past (front ++ more) (b * width + a) false
                (omega (arith, later, size, more_size, all)))
          ])
      | inl same_row ↦ elim (cases_eq (a / 64) index) [
        | inl here ↦
            let place : b * width + a ≡ y * width + 64 * index + a % 64 =
            ap (λ (k : ℕ). k * width + a) same_row ∙ omega arith in
            let within : a % 64 < count = omega arith in
            let at : get_or (front ++ more) (b * width + a) false ≡ get_or more (a % 64) false =
            get_or-append_right front more (y * width + 64 * index) (b * width + a) false size
            (omega (arith, place)) ∙ ap (λ (k : ℕ). get_or more k false) (omega (arith, place)) in
            rw (eq-eqb b y same_row, eq-eqb (a / 64) index here) (bits (a % 64) within ∙ sym at)
        | inr apart ↦
            let no : (eqb b y && eqb (a / 64) index) ≡ false =
            false_from_ne_true (eqb b y && eqb (a / 64) index)
            (λ both. apart (eqb-true (a / 64) index
            (and_parts (eqb b y) (eqb (a / 64) index) both).1)) in
            let row_is : b * width ≡ y * width = ap (λ (k : ℕ). k * width) same_row in
            let all = length-append front more in
            rw no (before ∙ elim (cases_lt (a / 64) index) [
              | inl left ↦ sym (get_or_append_left front more false (b * width + a)
                  (omega (arith, row_is, size)))
              | inr right ↦
                  let past : index < a / 64 = under (a / 64) index right apart in
                  get_or_past front (b * width + a) false (omega (arith, row_is, size))
                  ∙ sym (get_or_past (front ++ more) (b * width + a) false
                  (omega (arith, row_is, size, more_size, all)))
            ])
      ]
    ])

-- the pixels of one more word were read
pub IsReadTo-word : (bytes : List ℕ) (width height y index count word : ℕ) (cells : Cells)
    (rest after : List ℕ) → 64 * index < width → y < height → count ≡ min (width - 64 * index) 64
    → AreBitsRead count rest word after
    → IsReadTo bytes width height (pixels_before width y index) cells rest
    → IsReadTo bytes width height (pixels_before width y (index + 1))
    (with_word cells y index word) after
IsReadTo-word bytes width height y index count word cells rest after column row count_is read
    so_far =
    let begin : pixels_before width y index ≡ y * width + 64 * index = omega arith in
    let next : pixels_before width y (index + 1) ≡ pixels_before width y index + count =
    omega arith in
    let enough = word_within width height y index count column row count_is in
    let split : count + (width * height - (pixels_before width y index + count))
    ≡ width * height - pixels_before width y index = omega (arith, enough, begin) in
    let behind : pixels (width * height - pixels_before width y index) rest
    ≡ with_front read.all (pixels (width * height - (pixels_before width y index + count))
    after) =
    ap (λ (m : ℕ). pixels m rest) (sym split)
    ∙ pixels-add count (width * height - (pixels_before width y index + count)) rest read.all
    after read.read in
    let size : length so_far.front ≡ y * width + 64 * index = so_far.count ∙ begin in
    rw next (record {
      front = so_far.front ++ read.all;
      count = length-append so_far.front read.all
          ∙ (ap (λ (m : ℕ). m + length read.all) so_far.count
          ∙ ap (λ (m : ℕ). pixels_before width y index + m) read.size);
      cells_are = ap (λ (c : Cells). with_word c y index word) so_far.cells_are
          ∙ cells_of-word width height y index count word so_far.front read.all column row count_is
          size read.size read.bits;
      others = so_far.others
          ∙ (ap (λ (r : Result (List Bool × List ℕ) PbmFault). with_front so_far.front r) behind
          ∙ front-append so_far.front read.all
          (pixels (width * height - (pixels_before width y index + count)) after));
    })

-- a fault among the pixels of the next word is the raster's
pub IsReadTo-word_fault : (bytes : List ℕ) (width height y index count : ℕ) (cells : Cells)
    (rest : List ℕ) (fault : PbmFault) → 64 * index < width → y < height
    → count ≡ min (width - 64 * index) 64
    → pixels count rest ≡ Err fault
    → IsReadTo bytes width height (pixels_before width y index) cells rest
    → pixels (width * height) bytes ≡ Err fault
IsReadTo-word_fault bytes width height y index count cells rest fault column row count_is read
    so_far =
    let begin : pixels_before width y index ≡ y * width + 64 * index = omega arith in
    let enough = word_within width height y index count column row count_is in
    let split : count + (width * height - (pixels_before width y index + count))
    ≡ width * height - pixels_before width y index = omega (arith, enough, begin) in
    let behind : pixels (width * height - pixels_before width y index) rest ≡ Err fault =
    ap (λ (m : ℕ). pixels m rest) (sym split)
    ∙ pixels-add_fault count (width * height - (pixels_before width y index + count)) rest fault
    read in
    so_far.others ∙ ap (λ (r : Result (List Bool × List ℕ) PbmFault). with_front so_far.front r)
    behind
