-- The lines of rows that stand in parts, one part after another.
use Rattle.std.proofs.Common.{◌≡◌, ℕ, ◌+◌, ◌-◌, ◌*◌, ◌<◌, ◌≤◌, List, ◌++◌, Bool, Option, length}
use Rattle.std.proofs.Common.{min, refl, arith}
use Rattle.std.proofs.Math.Nat.{mul-le-mul_left}
use Rattle.metric.specs.Stream.{Appends, AppendsFront}
use Rattle.metric.proofs.Appending.{Appends-more, AppendsFront-more}
use Rattle.metric.specs.declared.near.Near.{Near}
use Rattle.printing.specs.declared.parts.WorkerLines.{WorkerLines}
use Rattle.printing.specs.Parts.{AreShares, ShareRows, parts_text}
use Rattle.printing.specs.Tabled.{TableView}
use Rattle.printing.specs.Table.{rows_text, table_text}
use Rattle.printing.proofs.RowLemmas.{rows_text-all, rows_text-append}

-- the lines of the rows from one to before another come one after another
abbrev pub rows_between : Bool → ℕ → List (Option Near) → ℕ → ℕ → List ℕ
rows_between nearest width nears from to = rows_text nearest width from (to - from) nears

-- the lines of a table are those of all its rows
pub table_text-between : (nearest : Bool) (width height : ℕ) (nears : List (Option Near))
    → table_text nearest width height nears ≡ rows_between nearest width nears 0 height
table_text-between nearest width height nears =
    let all : height - 0 ≡ height = omega arith in
    rw all (rows_text-all nearest width height nears)

-- the lines from one row to another are those up to a row between them, and then those from there
-- on
rows_between-join : (nearest : Bool) (width : ℕ) (nears : List (Option Near)) (from middle to : ℕ)
    → from ≤ middle → middle ≤ to
    → rows_between nearest width nears from to ≡ rows_between nearest width nears from middle
    ++ rows_between nearest width nears middle to
rows_between-join nearest width nears from middle to above below =
    let both : to - from ≡ (middle - from) + (to - middle) = omega arith in
    let on : from + (middle - from) ≡ middle = omega arith in
    rw (both, rows_text-append nearest width from (middle - from) (to - middle) nears, on) refl

-- a prefix of the lines in the middle, after all those above them, is a prefix of all
AppendsFront-rows : (nearest : Bool) (width : ℕ) (nears : List (Option Near))
    (from middle next to : ℕ) (before between after : Option (List ℕ)) → from ≤ middle
    → middle ≤ next → next ≤ to
    → Appends before (rows_between nearest width nears from middle) between
    → AppendsFront between (rows_between nearest width nears middle next) after
    → AppendsFront before (rows_between nearest width nears from to) after
AppendsFront-rows nearest width nears from middle next to before between after one two three above
    line =
    rw (
      rows_between-join nearest width nears from middle to one (omega arith),
      rows_between-join nearest width nears middle next to two three,
    )
    (AppendsFront-more before between after (rows_between nearest width nears from middle)
    (rows_between nearest width nears middle next)
    (rows_between nearest width nears next to) above line)

-- where the lines of some parts are written, and then the next part's, the lines of one more part
-- are
pub Appends-part : (nearest : Bool) (width height : ℕ) (nears : List (Option Near))
    (rows from k : ℕ) (text : List ℕ) (before between after : Option (List ℕ))
    → Appends before (rows_between nearest width nears (min height from)
    (min height (from + rows * k))) between
    → text ≡ rows_between nearest width nears (min height (from + rows * k))
    (min height (from + rows * k + rows)) → Appends between text after
    → Appends before (rows_between nearest width nears (min height from)
    (min height (from + rows * (k + 1)))) after
Appends-part nearest width height nears rows from k text before between after above is here =
    let next : from + rows * (k + 1) ≡ from + rows * k + rows = omega arith in
    rw (
      next,
      rows_between-join nearest width nears (min height from) (min height (from + rows * k))
          (min height (from + rows * k + rows)) (omega arith) (omega arith),
    )
    (Appends-more before between after
    (rows_between nearest width nears (min height from) (min height (from + rows * k)))
    (rows_between nearest width nears (min height (from + rows * k))
    (min height (from + rows * k + rows))) above
    (rw is at here))

-- where the lines of some parts are written, and then a prefix of the next, a prefix of all parts
-- is
pub AppendsFront-part : (nearest : Bool) (width height : ℕ) (nears : List (Option Near))
    (rows from k count : ℕ) (text : List ℕ) (before between after : Option (List ℕ)) → k < count
    → Appends before (rows_between nearest width nears (min height from)
    (min height (from + rows * k))) between
    → text ≡ rows_between nearest width nears (min height (from + rows * k))
    (min height (from + rows * k + rows)) → AppendsFront between text after
    → AppendsFront before (rows_between nearest width nears (min height from)
    (min height (from + rows * count))) after
AppendsFront-part nearest width height nears rows from k count text before between after below above
    is here =
    let further : rows * (k + 1) ≤ rows * count = mul-le-mul_left rows (omega (arith, below)) in
    AppendsFront-rows nearest width nears (min height from) (min height (from + rows * k))
    (min height (from + rows * k + rows)) (min height (from + rows * count)) before between after
    (omega arith) (omega arith) (omega (arith, further)) above (rw is at here)

-- where the lines of some parts are written after those of the rows above, the lines of all these
-- rows are
pub Appends-parts : (nearest : Bool) (table : TableView) (rows from count : ℕ)
    (before between after : Option (List ℕ))
    → Appends before (rows_between nearest table.width table.nears 0 (min table.height from))
    between → Appends between (parts_text nearest table rows from count) after
    → Appends before (rows_between nearest table.width table.nears 0
    (min table.height (from + rows * count))) after
Appends-parts nearest table rows from count before between after above here =
    rw (rows_between-join nearest table.width table.nears 0 (min table.height from)
    (min table.height (from + rows * count)) (omega arith) (omega arith))
    (Appends-more before between after
    (rows_between nearest table.width table.nears 0 (min table.height from))
    (rows_between nearest table.width table.nears (min table.height from)
    (min table.height (from + rows * count))) above here)

-- a prefix of the lines of some parts, after those of the rows above, is a prefix of the table
pub AppendsFront-parts : (nearest : Bool) (table : TableView) (rows from count : ℕ)
    (before between after : Option (List ℕ))
    → Appends before (rows_between nearest table.width table.nears 0 (min table.height from))
    between → AppendsFront between (parts_text nearest table rows from count) after
    → AppendsFront before (table_text nearest table.width table.height table.nears) after
AppendsFront-parts nearest table rows from count before between after above here =
    rw (table_text-between nearest table.width table.height table.nears)
    (AppendsFront-rows nearest table.width table.nears 0 (min table.height from)
    (min table.height (from + rows * count)) table.height before between after (omega arith)
    (omega arith) (omega arith) above here)

-- a set of parts into which rows were put is one still
pub AreParts-put : (nearest : Bool) (table : TableView) (rows from : ℕ) (old new : List WorkerLines)
    → AreShares nearest table.width rows old → length new ≡ length old
    → ShareRows nearest table rows from new → AreShares nearest table.width rows new
AreParts-put nearest table rows from old new parts many have = record {
  some = omega (arith, parts.some);
  few = omega (arith, parts.few);
  some_rows = parts.some_rows;
  few_rows = parts.few_rows;
  places = λ k other below. (have k other below).kept;
}
