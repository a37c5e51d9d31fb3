-- The command line: this project's own rule, in the words of `clap`.
use Rattle.std.specs.Prelude.{◌≡◌, ℕ, List, [], ◌∷◌, Some, None, IsSome, ◌⊎◌, codes, map, Result}
use Rattle.std.specs.Prelude.{Ok, Err, option_map, option_and_then, true, false}
use Rattle.std.specs.Borrow.{Bor}
use Rattle.clap.specs.Words.{App, Row, Rule, first_of, kind_of, takes, new_app, new_rule, one_of}
use Rattle.clap.specs.Words.{subcommand_of, with_rule, with_subcommand}
use Rattle.clap.specs.Simple.{on_top}
use Rattle.clap.specs.declared.builder.ArgAction.TheVariants.{SetTrue}
use Rattle.clap.specs.declared.error.Error.{Error}
use Rattle.clap.specs.declared.error.kind.ErrorKind.TheVariants.{OutOfMemory}
use Rattle.metric.specs.Edge.{edge_named}
use Rattle.metric.specs.Kind.{metric_named}
use Rattle.metric.specs.declared.edge.Edge.TheVariants.{Open}
use Rattle.metric.specs.declared.kind.MetricKind.TheVariants.{Euclid2}
use Rattle.command_line.specs.declared.arguments.AskOptions.{AskOptions}
use Rattle.command_line.specs.declared.arguments.DistOptions.{DistOptions}
use Rattle.command_line.specs.declared.arguments.ServeOptions.{ServeOptions}
use Rattle.command_line.specs.declared.arguments.Options.{Options}
use Rattle.command_line.specs.declared.arguments.Options.TheVariants.{Ask, Dist, Serve, Steps}
use Rattle.command_line.specs.declared.arguments.Fault.{Fault}
use Rattle.command_line.specs.declared.arguments.Fault.TheVariants.{Memory}
use Rattle.command_line.specs.ServeLine.{AreAskOptions, AreServeOptions, ask_app, default_rule}
use Rattle.command_line.specs.ServeLine.{in_range, serve_app}

-- the texts of some words are their bytes
abbrev pub texts_of : List (Bor (List ℕ)) → List (List ℕ)
texts_of words = map (λ word. word.now) words

-- the flag `--metric` has the default `euclid2`
abbrev pub metric_rule : Rule
metric_rule =
    record (new_rule (codes "metric")) {
      long = Some (codes "metric");
      value_names = 1;
      defaults = codes "euclid2" ∷ [];
    }

-- the flag `--nearest` takes no value
abbrev pub nearest_rule : Rule
nearest_rule =
    record (new_rule (codes "nearest")) { long = Some (codes "nearest"); action = Some SetTrue }

-- the flag `--query` has no default
abbrev pub query_rule : Rule
query_rule = record (new_rule (codes "query")) { long = Some (codes "query"); value_names = 1 }

-- the subcommand `dist` has these flags
abbrev pub dist_app : App
dist_app =
    with_rule
    (with_rule (with_rule (with_rule (with_rule (new_app (codes "dist")) metric_rule) nearest_rule)
    query_rule) (default_rule (codes "workers") (codes "1")))
    (default_rule (codes "edge") (codes "open"))

-- the subcommand `steps` has no flags
abbrev pub steps_app : App
steps_app = new_app (codes "steps")

-- the program has a version, and requires a subcommand
abbrev pub program_app : App
program_app =
    with_subcommand
    (with_subcommand
    (with_subcommand
    (with_subcommand (on_top (λ s. record s { has_version = true; subcommand_required = true })
    (new_app (codes "clearmap"))) dist_app.top) serve_app.top) ask_app.top) steps_app.top

-- the flags of `dist` are as the words give them, each with its default if it isn't given
pub record AreDistOptions (rows : List Row) (options : DistOptions) : Type 0 where
  pub metric : option_and_then metric_named (first_of (codes "metric") rows) ≡ Some options.metric
  pub set : one_of (codes "nearest") rows ≡ Some (codes "true") → options.nearest ≡ true
  pub unset : one_of (codes "nearest") rows ≡ Some (codes "false") → options.nearest ≡ false
  pub query : option_map (λ line. line.now) options.query ≡ first_of (codes "query") rows
  pub workers : in_range 1 16 (first_of (codes "workers") rows) ≡ Some options.workers.count
  pub edge : option_and_then edge_named (first_of (codes "edge") rows) ≡ Some options.edge

-- the flags of `dist` name an unknown metric, an unknown edge, or no number of workers
abbrev pub AreNoDistOptions : List Row → Type 0
AreNoDistOptions rows =
    (option_and_then metric_named (first_of (codes "metric") rows) ≡ None)
    ⊎ ((option_and_then edge_named (first_of (codes "edge") rows) ≡ None)
    ⊎ (in_range 1 16 (first_of (codes "workers") rows) ≡ None))

-- the options are those of `dist` without flags
pub record AreDefaultOptions (options : DistOptions) : Type 0 where
  pub metric : options.metric ≡ Euclid2
  pub edge : options.edge ≡ Open
  pub nearest : options.nearest ≡ false
  pub query : options.query ≡ None
  pub workers : options.workers.count ≡ 1

-- the program shall do `dist` without flags
abbrev pub IsDefaultDist : Options → Type 0
IsDefaultDist (Dist options) = AreDefaultOptions options
IsDefaultDist other = ⊥

-- the options are those of the subcommand that the words name
abbrev pub AreOptions : List (List ℕ) → Options → Type 0
AreOptions words (Dist options) =
    (rows : List Row) × (subcommand_of program_app words ≡ Some (codes "dist", rows))
    × AreDistOptions rows options
AreOptions words Steps =
    (rows : List Row) × (subcommand_of program_app words ≡ Some (codes "steps", rows))
AreOptions words (Serve options) =
    (rows : List Row) × (subcommand_of program_app words ≡ Some (codes "serve", rows))
    × AreServeOptions rows options
AreOptions words (Ask options) =
    (rows : List Row) × (subcommand_of program_app words ≡ Some (codes "ask", rows))
    × AreAskOptions rows options

-- the words name `dist`, a metric and an edge that exist, and a number of workers
pub record NameDist (words : List (List ℕ)) : Type 0 where
  pub rows : List Row
  pub named : subcommand_of program_app words ≡ Some (codes "dist", rows)
  pub metric : IsSome (option_and_then metric_named (first_of (codes "metric") rows))
  pub edge : IsSome (option_and_then edge_named (first_of (codes "edge") rows))
  pub workers : IsSome (in_range 1 16 (first_of (codes "workers") rows))

-- these words give the subcommand `steps`
pub record NameSteps (words : List (List ℕ)) : Type 0 where
  pub rows : List Row
  pub named : subcommand_of program_app words ≡ Some (codes "steps", rows)

-- the words name `serve`, with flags that are in their ranges
abbrev pub NameServe : List (List ℕ) → Type 0
NameServe words = (options : ServeOptions) × AreOptions words (Serve options)

-- these words give the subcommand `ask`, with a port
abbrev pub NameAsk : List (List ℕ) → Type 0
NameAsk words = (options : AskOptions) × AreOptions words (Ask options)

-- the program accepts these words, which have the form of its commands and flags for `clap`
abbrev pub AreTaken : List (List ℕ) → Type 0
AreTaken words = (takes program_app words ≡ true)
    × (NameDist words ⊎ (NameSteps words ⊎ (NameServe words ⊎ NameAsk words)))

-- an error of `clap` becomes this fault, and out of memory is a fault of its own
abbrev pub IsFaultOf : Error → Fault → Type 0
IsFaultOf error fault = kind_of error ≡ OutOfMemory → fault ≡ Memory

-- the words say these options; or they are refused, valid ones only when out of memory
abbrev pub IsSaidBy : List (List ℕ) → Result Options Fault → Type 0
IsSaidBy words (Ok options) = AreOptions words options
IsSaidBy words (Err fault) = AreTaken words → fault ≡ Memory
