-- Readers at an opening, before their store has a name: this project's own rule.
use Rattle.std.specs.Prelude.{ℕ, List, map}
use Rattle.std.specs.List.{range_with_len}
use Rattle.shelf.specs.Store.{StoreId, readers_of}

-- a reader at an opening has a number and a store
pub record Newcomer : Type 0 where
  pub number : ℕ
  pub store : StoreId

-- a newcomer with this number in this store
abbrev pub newcomer : ℕ → StoreId → Newcomer
newcomer number store = record { number = number; store = store }

-- the first `count` readers of a store, by number
abbrev pub newcomers : StoreId → ℕ → List Newcomer
newcomers store count = map (λ n. newcomer n store) (range_with_len 0 count)

-- the readers of a store
abbrev pub all_newcomers : StoreId → List Newcomer
all_newcomers store = newcomers store (readers_of store)
