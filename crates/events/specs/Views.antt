-- What the keeper and the readers know, and the state of a world: this project's own rule.
use Rattle.std.specs.Prelude.{ℕ, List, Option}
use Rattle.events.specs.declared.command.Command.{Command}
use Rattle.events.specs.declared.command.Entry.{Entry}
use Rattle.events.specs.declared.kept.Seen.{Seen}
use Rattle.events.specs.Story.{Story, opened, newest}
use Rattle.events.specs.Legal.{after}
use Rattle.events.specs.Blocks.{Blocks, opened_blocks, blocks_after}
use Rattle.events.specs.Words.{Base, tiles}

-- a current command, how many of its steps are done, and the readers' words that its scan has seen
pub record Hand : Type 0 where
  pub command : Command
  pub done : ℕ
  pub scanned : List ℕ

-- the keeper has the log, and the current command, if there is one
pub record Keeper : Type 0 where
  pub log : List Entry
  pub hand : Option Hand

-- a reader has seen some of the log, has announced something or nothing, and may hold a version
pub record Reader : Type 0 where
  pub seen : List Entry
  pub announced : Option Seen
  pub holds : Option ℕ

-- a world has what it was opened with, its words, its keeper, and its readers by number
pub record State : Type 0 where
  pub base : Base
  pub words : List ℕ
  pub keeper : Keeper
  pub readers : List Reader

-- what a log says of the map
unfoldable pub story : Base → List Entry → Story
story k log = after (opened k.opening) log

-- the blocks after a log
unfoldable pub blocks : Base → List Entry → Blocks
blocks k log = blocks_after (opened k.opening) (opened_blocks (tiles k) k.setting.blocks) log

-- the story of the map that the keeper's log tells
abbrev pub story_of : State → Story
story_of w = story w.base w.keeper.log

-- the blocks after the keeper's log
abbrev pub blocks_of_state : State → Blocks
blocks_of_state w = blocks w.base w.keeper.log

-- the version that a reader announces: the newest that it has seen
abbrev pub newest_seen : Base → Reader → ℕ
newest_seen k x = newest (story k x.seen)
