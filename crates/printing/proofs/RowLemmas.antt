-- The lines of some rows are assembled a row or several at a time.
use Rattle.std.proofs.Common.{◌≡◌, ℕ, ◌+◌, ◌*◌, List, [], ◌++◌, Bool, Option, refl, ap, ◌∙◌}
use Rattle.std.specs.List.{range_with_len, slice_range, flat_map}
use Rattle.std.proofs.lemmas.List.Concat.{flat_map-append}
use Rattle.std.proofs.lemmas.List.{append-nil}
use Rattle.metric.specs.declared.near.Near.{Near}
use Rattle.printing.specs.Table.{row_line, rows_text, table_text}
use Rattle.pbm.proofs.Ranges.{range-append}

-- the lines of no rows are no bytes
pub rows_text-none : (nearest : Bool) (width from : ℕ) (nears : List (Option Near))
    → rows_text nearest width from 0 nears ≡ []
unfolding rows_text
rows_text-none nearest width from nears = refl

-- the lines of some rows and later ones are those of the first, and then those of the later ones
pub rows_text-append : (nearest : Bool) (width from count later : ℕ) (nears : List (Option Near))
    → rows_text nearest width from (count + later) nears
    ≡ rows_text nearest width from count nears ++ rows_text nearest width (from + count) later nears
unfolding rows_text
rows_text-append nearest width from count later nears =
    let line = λ (y : ℕ). row_line nearest (slice_range nears (y * width) (y * width + width)) in
    ap (flat_map line) (range-append from count later)
    ∙ flat_map-append line (range_with_len from count) (range_with_len (from + count) later)

-- the lines of a single row are its line
rows_text-one : (nearest : Bool) (width y : ℕ) (nears : List (Option Near))
    → rows_text nearest width y 1 nears ≡ row_line nearest
    (slice_range nears (y * width) (y * width + width))
unfolding rows_text
rows_text-one nearest width y nears =
    append-nil (row_line nearest (slice_range nears (y * width) (y * width + width)))

-- the lines of some rows and the next one are those of the rows, and then that row's line
pub rows_text-more : (nearest : Bool) (width from count : ℕ) (nears : List (Option Near))
    → rows_text nearest width from (count + 1) nears
    ≡ rows_text nearest width from count nears ++ row_line nearest
    (slice_range nears ((from + count) * width) ((from + count) * width + width))
rows_text-more nearest width from count nears =
    rows_text-append nearest width from count 1 nears
    ∙ ap (λ t. rows_text nearest width from count nears ++ t)
    (rows_text-one nearest width (from + count) nears)

-- the lines of all rows are the table's
pub rows_text-all : (nearest : Bool) (width height : ℕ) (nears : List (Option Near))
    → table_text nearest width height nears ≡ rows_text nearest width 0 height nears
unfolding rows_text table_text
rows_text-all nearest width height nears = refl
