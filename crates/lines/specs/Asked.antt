-- What a query asks: this project's own rule.
use Rattle.std.specs.Prelude.{ℕ, List, Option, Some, None, Result, Ok, Err, bytes_eq, codes}
use Rattle.std.specs.Prelude.{option_and_then, option_map, if◌then◌else◌}
use Rattle.metric.specs.Kind.{metric_named}
use Rattle.metric.specs.declared.cell.Cell.{Cell}
use Rattle.metric.specs.declared.kind.MetricKind.{MetricKind}
use Rattle.metric.specs.declared.refusal.Refusal.{Refusal}
use Rattle.metric.specs.declared.refusal.Refusal.TheVariants.{BadArguments}
use Rattle.lines.specs.declared.query.Query.{Query}
use Rattle.lines.specs.declared.verb.QueryKind.{QueryKind}
use Rattle.words.specs.Numbers.{first_of, number, only, pair, path_of, points}
use Rattle.lines.specs.Corners.{corners_of}
use Rattle.lines.specs.declared.query.Query.TheVariants as queries
use Rattle.lines.specs.declared.verb.QueryKind.TheVariants as kinds

-- a query asks for a cell's distance, the least in a rectangle or on a path, or if a path is clear
pub data QueryView : Type 0 where
  at : MetricKind → Cell → QueryView
  rect : MetricKind → (x0 y0 x1 y1 : ℕ) → QueryView
  path : MetricKind → List Cell → QueryView
  clear_of : MetricKind → ℕ → List Cell → QueryView

-- what a query of the program asks
abbrev pub asked_by : Query → QueryView
asked_by (queries.At metric cell) = at metric cell
asked_by (queries.Rect metric r) = rect metric r.x0 r.y0 r.x1 r.y1
asked_by (queries.Path metric points) = path metric points.items
asked_by (queries.ClearOf metric d points) = clear_of metric d points.items

-- the metric that a query asks for
abbrev pub metric_asked : QueryView → MetricKind
metric_asked (at metric cell) = metric
metric_asked (rect metric x0 y0 x1 y1) = metric
metric_asked (path metric points) = metric
metric_asked (clear_of metric d points) = metric

-- a query has points, which need memory
abbrev pub HasPoints : QueryView → Type 0
HasPoints (at metric cell) = ⊥
HasPoints (rect metric x0 y0 x1 y1) = ⊥
HasPoints (path metric points) = Unit {0}
HasPoints (clear_of metric d points) = Unit {0}

-- each query has a name in capital letters
abbrev pub query_named : List ℕ → Option QueryKind
query_named word =
    if bytes_eq word (codes "AT") then Some kinds.At
    else if bytes_eq word (codes "RECT") then Some kinds.Rect
    else if bytes_eq word (codes "PATH") then Some kinds.Path
    else if bytes_eq word (codes "CLEAROF") then Some kinds.ClearOf
    else None

-- arguments of the wrong number or form are refused
abbrev pub or_bad : {A : Type 0} → Option A → Result A Refusal
or_bad None = Err BadArguments
or_bad (Some x) = Ok x

-- what the query of a rectangle with two valid corners asks
abbrev pub rect_of : MetricKind → Cell × Cell → Option QueryView
rect_of metric corners = option_map (λ c. rect metric c.x0 c.y0 c.x1 c.y1) (corners_of corners)

-- what a query with valid points asks
abbrev pub about : (List Cell → QueryView) → Result (List Cell) Refusal → Result QueryView Refusal
about ask (Ok points) = Ok (ask points)
about ask (Err refusal) = Err refusal

-- what the words after the metric ask of a query
abbrev pub query_asked : QueryKind → MetricKind → List (List ℕ) → Result QueryView Refusal
query_asked kinds.At metric words =
    or_bad (option_map (λ cell. at metric cell) (only (points words)))
query_asked kinds.Rect metric words =
    or_bad (option_and_then (λ corners. rect_of metric corners) (pair (points words)))
query_asked kinds.Path metric words = about (path metric) (path_of (points words))
query_asked kinds.ClearOf metric words =
    elim (first_of number words) as (λ _. Result QueryView Refusal) [
      | None ↦ Err BadArguments
      | Some distance ↦ about (clear_of metric distance.0) (path_of (points distance.1))
    ]

-- the arguments of a query start with a metric
abbrev pub arguments_asked : QueryKind → List (List ℕ) → Result QueryView Refusal
arguments_asked kind words =
    elim (first_of metric_named words) as (λ _. Result QueryView Refusal)
    [ None ↦ Err BadArguments | Some metric ↦ query_asked kind metric.0 metric.1 ]
