-- The metric and the edge that the numbers of a call stand for: this project's own rule.
use Rattle.std.specs.Prelude.{ℕ, zero, suc}
use Rattle.metric.specs.declared.edge.Edge.{Edge}
use Rattle.metric.specs.declared.edge.Edge.TheVariants.{Open, Wall}
use Rattle.metric.specs.declared.kind.MetricKind.{MetricKind}
use Rattle.metric.specs.declared.kind.MetricKind.TheVariants.{Euclid2, City, Chess}
use Rattle.metric.specs.Kind.{distance_of}

-- 0, 1 and 2 are metrics; a call with a larger number is refused
abbrev pub kind_numbered : ℕ → MetricKind
kind_numbered zero = Euclid2
kind_numbered (suc zero) = City
kind_numbered (suc (suc n)) = Chess

-- 0 and 1 are edges; a call with a larger number is refused
abbrev pub edge_numbered : ℕ → Edge
edge_numbered zero = Open
edge_numbered (suc n) = Wall

-- the distance of this number
abbrev pub distance_numbered : ℕ → ℕ → ℕ → ℕ
distance_numbered metric = distance_of (kind_numbered metric)
