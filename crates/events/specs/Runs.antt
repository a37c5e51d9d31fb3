-- Lists of events, and their answers: this project's own rule. An event that isn't enabled changes
-- nothing, and out of memory refuses only an order that is otherwise accepted.
use Rattle.std.specs.Prelude.{◌≡◌, ℕ, ◌+◌, ◌*◌, ◌<◌, ◌⊎◌, List, [], ◌∷◌, length, replicate}
use Rattle.std.specs.Prelude.{slice_get, slice_index, Option, Some, None, Result, Ok, Err}
use Rattle.bits.specs.Tiles.{row_word}
use Rattle.metric.specs.declared.refusal.Refusal.TheVariants.{Memory}
use Rattle.events.specs.declared.event.Event.{Event}
use Rattle.events.specs.declared.event.Event.TheVariants.{Load, Order}
use Rattle.events.specs.declared.event.StepReply.{StepReply}
use Rattle.events.specs.declared.event.StepReply.TheVariants as says
use Rattle.events.specs.declared.event.NotEnabled.{NotEnabled}
use Rattle.events.specs.Legal.{refused}
use Rattle.events.specs.Words.{Base, tiles, word_count, map_at, tile_at}
use Rattle.events.specs.Views.{Reader, State, story_of}
use Rattle.events.specs.Steps.{does}
use Rattle.events.specs.Safe.{IsBeginning, IsSafe, SparesLive}

-- an order that would be accepted, with no current command, may find no memory; nothing else may
abbrev pub MayLackMemory : State → Event → Type 0
MayLackMemory w (Order c) = (w.keeper.hand ≡ None) × (refused w.base.setting (story_of w) c ≡ None)
MayLackMemory w e = ⊥

-- an order finds no memory, and nothing has changed
pub record LacksMemory (old : State) (e : Event) (answer : StepReply) (stored : Option ℕ)
    (new : State) : Type 0 where
  pub order : MayLackMemory old e
  pub answer_is : answer ≡ says.Refused Memory
  pub stored_is : stored ≡ None
  pub same : new ≡ old

-- the event isn't enabled
pub record IsNotEnabled (old : State) (e : Event) (stored : Option ℕ) (new : State) : Type 0 where
  pub not_enabled : does old e ≡ None
  pub stored_is : stored ≡ None
  pub same : new ≡ old

-- an event has this answer, stores this word, and leaves this state
abbrev pub IsStep : State → Event → Result StepReply NotEnabled → Option ℕ → State → Type 0
IsStep old e (Err not_enabled) stored new = IsNotEnabled old e stored new
IsStep old e (Ok answer) stored new =
    (does old e ≡ Some record { state = new; answer = answer; stored = stored })
    ⊎ LacksMemory old e answer stored new

-- what a reader had seen is a prefix of what it has seen now
abbrev pub SeenGrows : State → State → Type 0
SeenGrows old new = (r : ℕ) (x y : Reader) → slice_get old.readers r ≡ Some x
    → slice_get new.readers r ≡ Some y → IsBeginning x.seen y.seen

-- after its load a reader has seen the whole log
abbrev pub SeesAll : Event → State → Type 0
SeesAll (Load r) new = (y : Reader) → slice_get new.readers r ≡ Some y → y.seen ≡ new.keeper.log
SeesAll e new = Unit {0}

-- after this step the whole theorem holds, and it has stored in no live block
pub record SafeStep (old : State) (e : Event) (answer : Result StepReply NotEnabled) (new : State) :
    Type 0 where
  pub stored : Option ℕ
  pub step : IsStep old e answer stored new
  pub safe : IsSafe new
  pub spares : SparesLive old stored
  pub grows : SeenGrows old new
  pub sees : SeesAll e new

-- the events are done in order, with these answers
abbrev pub IsRun : State → List Event → List (Result StepReply NotEnabled) → State → Type 0
IsRun old [] [] new = new ≡ old
IsRun old [] (a ∷ answers) new = ⊥
IsRun old (e ∷ events) [] new = ⊥
IsRun old (e ∷ events) (a ∷ answers) new =
    (mid : State) × SafeStep old e a mid × IsRun mid events answers new

-- the reader has seen the empty log, has announced nothing and holds nothing
abbrev pub fresh_reader : Reader
fresh_reader = record { seen = []; announced = None; holds = None }

-- at first NOW and the readers' words are 0, and slot 0 shows the bitmap, position k in block k
pub record AreOpeningWords (k : Base) (words : List ℕ) : Type 0 where
  pub sized : length words ≡ word_count k
  pub quiet : (n : ℕ) → n < 8 + 8 * k.setting.sessions → slice_index words n ≡ 0
  pub directory : (p : ℕ) → p < tiles k → slice_index words (map_at k 0 p) ≡ p
  pub rows : (p i : ℕ) → p < tiles k → i < 64
      → slice_index words (tile_at k p i) ≡ row_word k.opening p i

-- at first the words are those of the opening bitmap, version 0; other slots and blocks have any
pub record IsOpened (k : Base) (w : State) : Type 0 where
  pub base_is : w.base ≡ k
  pub keeper_is : w.keeper ≡ record { log = []; hand = None }
  pub readers_are : w.readers ≡ replicate k.setting.sessions fresh_reader
  pub words : AreOpeningWords k w.words
  pub safe : IsSafe w

-- a world was opened with this, and these events were done in it in order
pub record IsRunFrom (k : Base) (events : List Event) (answers : List (Result StepReply NotEnabled))
    (new : State) : Type 0 where
  pub start : State
  pub opened : IsOpened k start
  pub run : IsRun start events answers new
