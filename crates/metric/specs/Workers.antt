-- How many workers share rows, and which rows each has: this project's own rule.
use Rattle.std.specs.Prelude.{ℕ, ◌+◌, ◌-◌, ◌*◌, ◌/◌, ◌≤◌}

-- a computation is shared by one to sixteen workers
pub record IsWorkers (count : ℕ) : Type 0 where
  pub some : 1 ≤ count
  pub few : count ≤ 16

-- the first row after `bands` bands from the top, if `count` bands share rows y0 to y1 - 1
abbrev pub row_behind : ℕ → ℕ → ℕ → ℕ → ℕ
row_behind y0 y1 count bands = y0 + bands * (y1 - y0) / count
