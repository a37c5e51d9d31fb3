-- The command lines of `serve` and `ask`: this project's own rule, in the words of `clap`.
use Rattle.std.specs.Prelude.{◌≡◌, ℕ, ◌&&◌, nat_le, List, [], ◌∷◌, Option, Some, None, codes}
use Rattle.std.specs.Prelude.{option_and_then, true, if◌then◌else◌}
use Rattle.clap.specs.Words.{App, Row, Rule, first_of, new_app, new_rule, subcommand_rows_of}
use Rattle.clap.specs.Words.{found_of, rows_of, with_rule}
use Rattle.clap.specs.declared.parser.matches.ArgMatches.{ArgMatches}
use Rattle.events.specs.declared.setting.Setting.{Setting}
use Rattle.metric.specs.Edge.{edge_named}
use Rattle.words.specs.Numbers.{number}
use Rattle.command_line.specs.declared.arguments.AskOptions.{AskOptions}
use Rattle.command_line.specs.declared.arguments.ServeOptions.{ServeOptions}
use Rattle.command_line.specs.declared.arguments.Options.{Options}
use Rattle.command_line.specs.declared.arguments.Options.TheVariants.{Ask, Serve}

-- a required flag with one value
abbrev pub required_rule : List ℕ → Rule
required_rule name = record (new_rule name) { long = Some name; value_names = 1; required = true }

-- a flag of this name with one value and this default
abbrev pub default_rule : List ℕ → List ℕ → Rule
default_rule name value =
    record (new_rule name) { long = Some name; value_names = 1; defaults = value ∷ [] }

-- the subcommand `serve` has these flags
abbrev pub serve_app : App
serve_app =
    with_rule
    (with_rule
    (with_rule
    (with_rule
    (with_rule
    (with_rule (with_rule (new_app (codes "serve")) (required_rule (codes "connections")))
    (default_rule (codes "port") (codes "0")))
    (default_rule (codes "blocks") (codes "16384"))) (default_rule (codes "versions") (codes "8")))
    (default_rule (codes "log") (codes "100000"))) (default_rule (codes "workers") (codes "4")))
    (default_rule (codes "edge") (codes "open"))

-- the subcommand `ask` has this flag
abbrev pub ask_app : App
ask_app = with_rule (new_app (codes "ask")) (required_rule (codes "port"))

-- a number, if it is in its range
abbrev pub within : ℕ → ℕ → ℕ → Option ℕ
within least most n = if nat_le least n && nat_le n most then Some n else None

-- the number that a flag's value gives, if it is a number of the protocol in this range
abbrev pub in_range : ℕ → ℕ → Option (List ℕ) → Option ℕ
in_range least most value = option_and_then (within least most) (option_and_then number value)

-- the text that a flag has, as the words give it or by its default
abbrev pub flag_text : ArgMatches → List ℕ → Option (List ℕ)
flag_text flags name = first_of name (rows_of (found_of flags))

-- the flags of `serve` are as the words give them, each with its default if it isn't given
pub record AreServeOptions (rows : List Row) (options : ServeOptions) : Type 0 where
  pub connections : in_range 1 1000000 (first_of (codes "connections") rows)
      ≡ Some options.connections
  pub port : in_range 0 65535 (first_of (codes "port") rows) ≡ Some options.port
  pub blocks : in_range 0 4294967295 (first_of (codes "blocks") rows) ≡ Some options.blocks
  pub versions : in_range 0 4294967295 (first_of (codes "versions") rows) ≡ Some options.versions
  pub log : in_range 0 4294967295 (first_of (codes "log") rows) ≡ Some options.log
  pub workers : in_range 1 16 (first_of (codes "workers") rows) ≡ Some options.workers
  pub edge : option_and_then edge_named (first_of (codes "edge") rows) ≡ Some options.edge

-- the setting of the store is what the options ask for, with a session per worker
abbrev pub setting_served : ServeOptions → Setting
setting_served options =
    record {
      blocks = options.blocks;
      versions = options.versions;
      sessions = options.workers;
      log = options.log;
      edge = options.edge;
    }

-- the flag of `ask` as the words give it
pub record AreAskOptions (rows : List Row) (options : AskOptions) : Type 0 where
  pub port : in_range 1 65535 (first_of (codes "port") rows) ≡ Some options.port

-- the options are those of the subcommand that was matched, `serve` or `ask`
abbrev pub AreMatched : ArgMatches → Options → Type 0
AreMatched matches (Serve options) =
    (rows : List Row) × (subcommand_rows_of matches ≡ Some (codes "serve", rows))
    × AreServeOptions rows options
AreMatched matches (Ask options) =
    (rows : List Row) × (subcommand_rows_of matches ≡ Some (codes "ask", rows))
    × AreAskOptions rows options
AreMatched matches other = ⊥

-- no options are those of the subcommand that was matched, `serve` or `ask`
abbrev pub AreNoMatch : ArgMatches → Type 0
AreNoMatch matches = (options : Options) → AreMatched matches options → ⊥
