-- What workers do with their sessions: this project's own rule.
use Rattle.std.specs.Prelude.{◌≡◌, ℕ, ◌<◌, List, [], ◌∷◌, length, Option, Some, slice_index_or}
use Rattle.shelf.specs.Store.{StoreId}
use Rattle.shelf.specs.Roles.{ReaderView}
use Rattle.line_io.specs.declared.end.End.{End}
use Rattle.proto.specs.Callers.{free}
use Rattle.proto.specs.Served.{IsServed}
use Rattle.metric.specs.Wire.{Wire}

-- a fresh stream was served with a session, from its first byte to its end
pub record IsStreamServed {S : Type 0} (fresh : S → Type 0) (wire : S → Wire) (store : StoreId)
    (stream : S) (old new : ReaderView) : Type 0 where
  pub is_fresh : fresh stream
  pub end : End
  pub wire_after : Wire
  pub served : IsServed store (Some end) (wire stream) (free old) wire_after (free new)

-- fresh streams were served with a session, in order
abbrev pub AreStreamsServed : {S : Type 0} → (S → Type 0) → (S → Wire) → StoreId → List S
    → ReaderView → ReaderView → Type 0
AreStreamsServed fresh wire store [] old new = new ≡ old
AreStreamsServed fresh wire store (stream ∷ streams) old new =
    (between : ReaderView) × IsStreamServed fresh wire store stream old between
    × AreStreamsServed fresh wire store streams between new

-- a worker has only served fresh streams with its session, each once
pub record HasWorked {S : Type 0} (fresh : S → Type 0) (wire : S → Wire) (store : StoreId)
    (old new : ReaderView) : Type 0 where
  pub streams : List S
  pub served : AreStreamsServed fresh wire store streams old new

-- two lists have the same length, and the elements at each index are related
abbrev pub AreRelated : {A B : Type 0} → (A → B → Type 0) → List A → List B → Type 0
AreRelated Relation [] [] = Unit {0}
AreRelated Relation (x ∷ xs) (y ∷ ys) = Relation x y × AreRelated Relation xs ys
AreRelated Relation xs ys = ⊥

-- both are there, and related
abbrev pub AreBoth : {A B : Type 0} → (A → B → Type 0) → Option A → Option B → Type 0
AreBoth Relation (Some x) (Some y) = Relation x y
AreBoth Relation x y = ⊥

-- the elements at each index of the first list are related to those of the second
abbrev pub AreEach : {A : Type 0} → (A → A → Type 0) → List A → List A → Type 0
AreEach {A = A} Relation xs ys =
    (i : ℕ) (d : A) → i < length xs → Relation (slice_index_or xs i d) (slice_index_or ys i d)
