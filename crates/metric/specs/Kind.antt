-- The metrics by name: this project's own rule.
use Rattle.std.specs.Prelude.{ℕ, List, Option, Some, None, bytes_eq, codes, if◌then◌else◌}
use Rattle.metric.specs.Distance.{euclid2, city, chess}
use Rattle.metric.specs.declared.kind.MetricKind.{MetricKind}
use Rattle.metric.specs.declared.kind.MetricKind.TheVariants.{Euclid2, City, Chess}

-- each metric has a name
abbrev pub metric_named : List ℕ → Option MetricKind
metric_named name =
    if bytes_eq name (codes "euclid2") then Some Euclid2
    else if bytes_eq name (codes "city") then Some City
    else if bytes_eq name (codes "chess") then Some Chess
    else None

-- each metric has its own distance
abbrev pub distance_of : MetricKind → ℕ → ℕ → ℕ
distance_of Euclid2 = euclid2
distance_of City = city
distance_of Chess = chess
