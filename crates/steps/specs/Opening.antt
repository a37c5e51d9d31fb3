-- What the first line of steps opens: this project's own rule. It is `OPEN`, the map's width and
-- height, and its setting: blocks, versions, sessions, log. The map is blank.
use Rattle.std.specs.Prelude.{ℕ, Bool, ◌&&◌, nat_le, false, List, [], ◌∷◌, Option, Some, None}
use Rattle.std.specs.Prelude.{Result, Ok, Err, bytes_eq, codes, option_map, if◌then◌else◌}
use Rattle.bits.specs.Cells.{cells_where}
use Rattle.bits.specs.Tiles.{tile_count}
use Rattle.metric.specs.declared.edge.Edge.TheVariants.{Open}
use Rattle.metric.specs.declared.refusal.Refusal.{Refusal}
use Rattle.metric.specs.declared.refusal.Refusal.TheVariants as refusals
use Rattle.events.specs.declared.setting.Setting.{Setting}
use Rattle.events.specs.Setting.{bad_field}
use Rattle.events.specs.Words.{Base}
use Rattle.words.specs.Numbers.{numbers}
use Rattle.words.specs.Words.{words}
use Rattle.steps.specs.declared.steps.opening.OpenLine.{OpenLine}

-- the setting that four numbers give a map with an open edge
abbrev pub setting_of : List ℕ → Option Setting
setting_of (blocks ∷ versions ∷ sessions ∷ log ∷ []) =
    Some record {
      blocks = blocks;
      versions = versions;
      sessions = sessions;
      log = log;
      edge = Open;
    }
setting_of other = None

-- a side of a map is 1 to 4096 cells long
abbrev pub is_map_side : ℕ → Bool
is_map_side n = nat_le 1 n && nat_le n 4096

-- the first two numbers of an opening are sides, and the others make a setting
abbrev pub opening_of : Option (List ℕ) → Option OpenLine
opening_of (Some (width ∷ height ∷ others)) =
    if is_map_side width && is_map_side height
    then option_map (λ setting. record { width = width; height = height; setting = setting })
    (setting_of others) else None
opening_of other = None

-- the opening that these words say
abbrev pub opening_words : List (List ℕ) → Option OpenLine
opening_words [] = None
opening_words (word ∷ others) =
    if bytes_eq word (codes "OPEN") then opening_of (numbers others) else None

-- the opening that a line says; none if it has another form, or a side that no map has
unfoldable pub opening_told : List ℕ → Option OpenLine
opening_told line = opening_words (words line)

-- what a world is opened with
abbrev pub base_opened : OpenLine → Base
base_opened opening =
    record {
      setting = opening.setting;
      opening = cells_where opening.width opening.height (λ x y. false);
    }

-- an opening, or why it is refused: a line that says none, or a setting that is out of its limits
abbrev pub judged : Option OpenLine → Result OpenLine Refusal
judged None = Err refusals.BadArguments
judged (Some opening) =
    elim (bad_field (tile_count (base_opened opening).opening) opening.setting) as
    (λ _. Result OpenLine Refusal) [
      | None ↦ Ok opening
      | Some field ↦ Err (refusals.BadSetting field)
    ]

-- the first of some lines opens the world; if there is none it is refused as one of another form
abbrev pub opened_by : List (List ℕ) → Result OpenLine Refusal
opened_by [] = Err refusals.BadArguments
opened_by (first ∷ later) = judged (opening_told first)

-- the later lines of a text are all but its first
abbrev pub later_lines : List (List ℕ) → List (List ℕ)
later_lines [] = []
later_lines (first ∷ later) = later
