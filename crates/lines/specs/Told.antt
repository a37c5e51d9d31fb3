-- What a command tells the keeper of the map to do: this project's own rule.
use Rattle.std.specs.Prelude.{ℕ, Bool, true, false, List, [], ◌∷◌, Option, Some, None, bytes_eq}
use Rattle.std.specs.Prelude.{codes, option_and_then, option_map, if◌then◌else◌}
use Rattle.events.specs.declared.command.Command.{Command}
use Rattle.events.specs.declared.command.Command.TheVariants as commands
use Rattle.lines.specs.declared.verb.CommandName.{CommandName}
use Rattle.lines.specs.declared.verb.CommandName.TheVariants as orders
use Rattle.lines.specs.Corners.{Corners, corners_of, seen_corners}
use Rattle.words.specs.Numbers.{points, pair}

-- the keeper is asked to set a rectangle, stamp, publish, revert, collect, or drop its entries
pub data CommandView : Type 0 where
  draw : Bool → Corners → CommandView
  stamp : CommandView
  publish : CommandView
  revert : CommandView
  collect : CommandView
  checkpoint : CommandView

-- what a command of the program asks
abbrev pub told_by : Command → CommandView
told_by (commands.Paint rect black) = draw black (seen_corners rect)
told_by (commands.Stamp x y bitmap) = stamp
told_by commands.Publish = publish
told_by commands.Revert = revert
told_by commands.Collect = collect
told_by commands.Checkpoint = checkpoint

-- each command to the keeper has a name in capital letters
abbrev pub order_named : List ℕ → Option CommandName
order_named word =
    if bytes_eq word (codes "PAINT") then Some orders.Paint
    else if bytes_eq word (codes "CLEAR") then Some orders.Clear
    else if bytes_eq word (codes "PUBLISH") then Some orders.Publish
    else if bytes_eq word (codes "REVERT") then Some orders.Revert
    else if bytes_eq word (codes "COLLECT") then Some orders.Collect
    else if bytes_eq word (codes "CHECKPOINT") then Some orders.Checkpoint
    else None

-- a command without arguments, if no words follow its name
abbrev pub alone : {A : Type 0} → A → List (List ℕ) → Option A
alone value [] = Some value
alone value (word ∷ words) = None

-- the rectangle of which the words after a name are the two corners
abbrev pub rect_told : List (List ℕ) → Option Corners
rect_told words = option_and_then corners_of (pair (points words))

-- what a command with the words after its name asks
abbrev pub order_told : CommandName → List (List ℕ) → Option CommandView
order_told orders.Paint words = option_map (draw true) (rect_told words)
order_told orders.Clear words = option_map (draw false) (rect_told words)
order_told orders.Publish words = alone publish words
order_told orders.Revert words = alone revert words
order_told orders.Collect words = alone collect words
order_told orders.Checkpoint words = alone checkpoint words
