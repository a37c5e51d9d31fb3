-- The store of a seat: this project's own rule.
use Rattle.std.specs.Prelude.{ℕ, []}
use Rattle.atomic_table.specs.Seated.{TableId}
use Rattle.metric.specs.declared.edge.Edge.TheVariants.{Open}
use Rattle.events.specs.Story.{no_bitmap}
use Rattle.events.specs.Words.{Base}

-- a store: its table, and what it was opened with
pub record StoreId : Type 0 where
  pub table : TableId
  pub base : Base

-- how many readers a store has; their numbers are below this
abbrev pub readers_of : StoreId → ℕ
readers_of store = store.base.setting.sessions

-- the store that a name means until it is given to another
abbrev pub no_store : StoreId
no_store =
    record {
      table = record {
        words = 0;
        slots = 0;
        views_name = 0;
        atom = 0;
        block = 0;
        offset = 0;
        slot_names = [];
      };
      base = record {
        setting = record {
          blocks = 0;
          versions = 0;
          sessions = 0;
          log = 0;
          edge = Open;
        };
        opening = no_bitmap;
      };
    }
