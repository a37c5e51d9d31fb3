-- Whatever an event does keeps what holds of a world, and stores in no live block.
use Rattle.events.proofs.Names.{rules, ◌≡◌, ℕ, ◌<◌, Bool, true, false, if◌then◌else◌, refl, subst}
use Rattle.events.proofs.Names.{Option, Some, None, slice_get, nat_lt, is_some, cases_lt, Refusal}
use Rattle.events.proofs.Names.{nat_tests, Command, Event, Announce, Load, LookMap, LookTile}
use Rattle.events.proofs.Names.{Leave, Confirm, Order, Keep, StepReply, Seen, From, Exact, Hand}
use Rattle.events.proofs.Names.{refused, Reader, State, story_of, blocks_of_state, Outcome, load}
use Rattle.events.proofs.Names.{announce, look_map, look_tile, leave, to_confirm, confirm_held}
use Rattle.events.proofs.Names.{confirm, order, ordered, keep, steps_before, step_before, commit}
use Rattle.events.proofs.Names.{does, IsWhole}
use Rattle.events.proofs.steps.StepLemmas.{Keeps, nothing_stored, pin_stored, number_inside}
use Rattle.events.proofs.steps.StepLemmas.{in_hand, keeps-announce, keeps-confirm, keeps-leave}
use Rattle.events.proofs.steps.StepLemmas.{keeps-load, keeps-order, keeps-write, keeps-scan}
use Rattle.events.proofs.steps.StepLemmas.{keeps-commit}

-- what is done unless a test passes is done because the test fails
pub unless_true : (test : Bool) (a o : Outcome) → (if test then None else Some a) ≡ Some o
    → (test ≡ false) × (a ≡ o)
unless_true test a o is = search rules

-- what is done where a test passes is done because it passes
pub where_true : (test : Bool) (a o : Outcome) → (if test then Some a else None) ≡ Some o
    → (test ≡ true) × (a ≡ o)
where_true test a o is = search rules

-- nothing is there where there isn't something
none_there : {A : Type 0} (o : Option A) → is_some o ≡ false → o ≡ None
none_there o is = search rules

-- an announcement, where it is enabled, keeps what holds of a world
does-announce : (w : State) (r : ℕ) (found : Option Reader) (o : Outcome) → IsWhole w
    → slice_get w.readers r ≡ found → announce w r found ≡ Some o → Keeps w o
unfolding announce
does-announce w r None o whole there is = absurd (cc)
does-announce w r (Some x) o whole there is =
    let parts = unless_true (is_some x.announced) _ o is in
    subst (λ (a : Outcome). Keeps w a) parts.1
    record {
      whole = keeps-announce w r x whole there (none_there x.announced parts.0);
      spares = pin_stored w r (number_inside w r x whole there);
    }

-- a load, where it is enabled, keeps what holds of a world
does-load : (w : State) (r : ℕ) (found : Option Reader) (o : Outcome) → IsWhole w
    → slice_get w.readers r ≡ found → load w r found ≡ Some o → Keeps w o
unfolding load
does-load w r found o whole there is = search (rules, keeps-load, nothing_stored)

-- a leave, where it is enabled, keeps what holds of a world
does-leave : (w : State) (r : ℕ) (found : Option Reader) (o : Outcome) → IsWhole w
    → slice_get w.readers r ≡ found → leave w r found ≡ Some o → Keeps w o
unfolding leave
does-leave w r None o whole there is = absurd (cc)
does-leave w r (Some x) o whole there is =
    let parts = where_true (is_some x.announced) _ o is in
    subst (λ (a : Outcome). Keeps w a) parts.1
    record {
      whole = keeps-leave w r x whole there;
      spares = pin_stored w r (number_inside w r x whole there);
    }

-- an exact announcement, where it is enabled, keeps what holds of a world
does-confirm : (w : State) (r : ℕ) (found : Option Reader) (o : Outcome) → IsWhole w
    → slice_get w.readers r ≡ found → confirm w r found ≡ Some o → Keeps w o
unfolding confirm
does-confirm w r None o whole there is = absurd (cc)
does-confirm w r (Some x) o whole there is =
    by_hold w r x (to_confirm x.announced x.holds) o whole there refl is
  where
    same_outcome : (a o : Outcome) → ◌≡◌ {A = Option Outcome} (Some a) (Some o) → a ≡ o
    same_outcome a o is = cc

    held : (announced : Option Seen) (holds : Option ℕ) (v : ℕ)
        → to_confirm announced holds ≡ Some v → holds ≡ Some v
    held None holds v is = absurd (cc)
    held (Some (From a)) holds v is = is
    held (Some (Exact w)) holds v is = absurd (cc)

    by_hold : (w : State) (r : ℕ) (x : Reader) (to : Option ℕ) (o : Outcome) → IsWhole w
        → slice_get w.readers r ≡ Some x → to_confirm x.announced x.holds ≡ to
        → confirm_held w r x to ≡ Some o → Keeps w o
    by_hold w r x None o whole there found is = absurd (cc)
    by_hold w r x (Some v) o whole there found is =
        subst (λ (a : Outcome). Keeps w a) (same_outcome _ o is)
        record {
          whole = keeps-confirm w r x v whole there (held x.announced x.holds v found);
          spares = pin_stored w r (number_inside w r x whole there);
        }

-- an answer that changes nothing keeps what holds of a world
keeps-same : (w : State) (answer : StepReply) → IsWhole w
    → Keeps w record { state = w; answer = answer; stored = None }
keeps-same w answer whole = record { whole = whole; spares = nothing_stored w }

-- a look at a position, where it is enabled, keeps what holds of a world
does-look_map : (w : State) (p : ℕ) (held : Option ℕ) (o : Outcome) → IsWhole w
    → look_map w p held ≡ Some o → Keeps w o
unfolding look_map
does-look_map w p held o whole is = search (rules, where_true, keeps-same)

-- a look at a row of a block, where it is enabled, keeps what holds of a world
does-look_tile : (w : State) (b i : ℕ) (held : Option ℕ) (o : Outcome) → IsWhole w
    → look_tile w b i held ≡ Some o → Keeps w o
unfolding look_tile
does-look_tile w b i held o whole is = search (rules, where_true, keeps-same)

-- an order that is answered, refused or not, keeps what holds of a world
keeps-ordered : (w : State) (c : Command) (refusal : Option Refusal) → IsWhole w
    → refused w.base.setting (story_of w) c ≡ refusal → Keeps w (ordered w c refusal)
keeps-ordered w c refusal whole is = search (rules, keeps-order, nothing_stored, keeps-same)

-- an order, where it is enabled, keeps what holds of a world
does-order : (w : State) (c : Command) (hand : Option Hand) (o : Outcome) → IsWhole w
    → order w c hand ≡ Some o → Keeps w o
unfolding order
does-order w c hand o whole is = search (rules, keeps-ordered)

-- a step of the current command that isn't its last keeps what holds of a world
keeps-step : (w : State) (h : Hand) (c : Command) → IsWhole (in_hand w (Some h)) → h.command ≡ c
    → h.done < steps_before w.base (blocks_of_state w) c
    → Keeps (in_hand w (Some h)) (step_before w h c)
unfolding steps_before
keeps-step w h c whole is more = search (rules, keeps-write, keeps-scan)

-- the next step of the current command keeps what holds of a world
keeps-next : (w : State) (h : Hand) (o : Outcome) → IsWhole (in_hand w (Some h))
    → (if nat_lt h.done (steps_before w.base (blocks_of_state w) h.command)
    then Some (step_before w h h.command) else Some (commit w h)) ≡ Some o
    → Keeps (in_hand w (Some h)) o
keeps-next w h o whole is = search (rules, cases_lt, in_hand, keeps-step, keeps-commit, nat_tests)

-- a step of the keeper, where it is enabled, keeps what holds of a world
does-keep : (w : State) (hand : Option Hand) (o : Outcome) → IsWhole (in_hand w hand)
    → keep w hand ≡ Some o → Keeps (in_hand w hand) o
unfolding keep
does-keep w None o whole is = absurd (cc)
does-keep w (Some h) o whole is = keeps-next w h o whole is

-- an event that is enabled keeps what holds of a world, whatever it does
pub does-keeps : (w : State) (e : Event) (o : Outcome) → IsWhole w → does w e ≡ Some o → Keeps w o
unfolding does
does-keeps w (Announce r) o whole is = does-announce w r (slice_get w.readers r) o whole refl is
does-keeps w (Load r) o whole is = does-load w r (slice_get w.readers r) o whole refl is
does-keeps w (LookMap r p) o whole is = search (rules, does-look_map)
does-keeps w (LookTile r b i) o whole is = search (rules, does-look_tile)
does-keeps w (Leave r) o whole is = does-leave w r (slice_get w.readers r) o whole refl is
does-keeps w (Confirm r) o whole is = does-confirm w r (slice_get w.readers r) o whole refl is
does-keeps w (Order c) o whole is = does-order w c w.keeper.hand o whole is
does-keeps w Keep o whole is = does-keep w w.keeper.hand o whole is
