-- What readers have seen grows with each event, and to the whole log at a load.
use Rattle.map_core.proofs.Names.{arith, rules, ◌≡◌, ℕ, List, set, refl, ap, subst, sym, ◌∙◌, Some}
use Rattle.map_core.proofs.Names.{Option, None, slice_get, is_some, inl, inr, Refusal, Command}
use Rattle.map_core.proofs.Names.{Event, Load, Hand, Reader, State, Outcome, announce, load, leave}
use Rattle.map_core.proofs.Names.{look_map, look_tile, to_confirm, confirm_held, confirm, order}
use Rattle.map_core.proofs.Names.{ordered, keep, step_before, does, IsBeginning, IsWhole}
use Rattle.events.specs.Runs.{SeenGrows, SeesAll}
use Rattle.events.proofs.steps.DoesLemmas.{unless_true, where_true}
use Rattle.events.proofs.steps.StepLemmas.{slice_get-set}
use Rattle.events.proofs.logs.LogLemmas.{beginning_itself}

-- two readers that one place has are the same
one_there : (x y : Reader) → ◌≡◌ {A = Option Reader} (Some x) (Some y) → x ≡ y
one_there x y is = cc

-- where the readers stay, what they have seen stays
pub seen_stays : (old new : State) → new.readers ≡ old.readers → SeenGrows old new
seen_stays old new same r x y was is = search (rules, one_there, beginning_itself)

-- where one reader has another view, it has seen what it had, and more
seen_of_one : (readers : List Reader) (r : ℕ) (x y : Reader) → slice_get readers r ≡ Some x
    → IsBeginning x.seen y.seen
    → (q : ℕ) (a b : Reader) → slice_get readers q ≡ Some a → slice_get (set readers r y) q ≡ Some b
    → IsBeginning a.seen b.seen
seen_of_one readers r x y there more q a b was now =
    search (rules, slice_get-set, one_there, beginning_itself)

-- two outcomes of one event are the same
same_outcome : (a o : Outcome) → ◌≡◌ {A = Option Outcome} (Some a) (Some o) → a ≡ o
same_outcome a o is = cc

-- after an announcement each reader has seen what it had
grows-announce : (w : State) (r : ℕ) (found : Option Reader) (o : Outcome)
    → slice_get w.readers r ≡ found → announce w r found ≡ Some o → SeenGrows w o.state
unfolding announce
grows-announce w r None o there is = absurd (cc)
grows-announce w r (Some x) o there is =
    let parts = unless_true (is_some x.announced) _ o is in
    subst (λ (a : Outcome). SeenGrows w a.state) parts.1
    (seen_of_one w.readers r x _ there (beginning_itself x.seen))

-- after a load each reader has seen what it had, and the one that loads has seen the whole log
grows-load : (w : State) (r : ℕ) (found : Option Reader) (o : Outcome) → IsWhole w
    → slice_get w.readers r ≡ found → load w r found ≡ Some o → SeenGrows w o.state
    × SeesAll (Load r) o.state
unfolding load
grows-load w r None o whole there is = absurd (cc)
grows-load w r (Some x) o whole there is =
    subst (λ (a : Outcome). SeenGrows w a.state × SeesAll (Load r) a.state) (same_outcome _ o is) (
      seen_of_one w.readers r x _ there (whole.reader r x there).seen,
      λ y now. loaded w r _ y refl now,
    )
  where
    loaded : (w : State) (r : ℕ) (z y : Reader) → z.seen ≡ w.keeper.log
        → slice_get (set w.readers r z) r ≡ Some y → y.seen ≡ w.keeper.log
    loaded w r z y all now =
        elim (slice_get-set w.readers r z r y now) [
          | inl here ↦ ap (λ (v : Reader). v.seen) (sym here.1) ∙ all
          | inr other ↦ absurd (other.0 refl)
        ]

-- after a leave each reader has seen what it had
grows-leave : (w : State) (r : ℕ) (found : Option Reader) (o : Outcome)
    → slice_get w.readers r ≡ found → leave w r found ≡ Some o → SeenGrows w o.state
unfolding leave
grows-leave w r None o there is = absurd (cc)
grows-leave w r (Some x) o there is =
    let parts = where_true (is_some x.announced) _ o is in
    subst (λ (a : Outcome). SeenGrows w a.state) parts.1
    (seen_of_one w.readers r x _ there (beginning_itself x.seen))

-- after an exact announcement each reader has seen what it had
grows-confirm : (w : State) (r : ℕ) (found : Option Reader) (o : Outcome)
    → slice_get w.readers r ≡ found → confirm w r found ≡ Some o → SeenGrows w o.state
unfolding confirm
grows-confirm w r None o there is = absurd (cc)
grows-confirm w r (Some x) o there is = by_hold w r x (to_confirm x.announced x.holds) o there is
  where
    by_hold : (w : State) (r : ℕ) (x : Reader) (to : Option ℕ) (o : Outcome)
        → slice_get w.readers r ≡ Some x → confirm_held w r x to ≡ Some o → SeenGrows w o.state
    by_hold w r x None o there is = absurd (cc)
    by_hold w r x (Some v) o there is =
        subst (λ (a : Outcome). SeenGrows w a.state) (same_outcome _ o is)
        (seen_of_one w.readers r x _ there (beginning_itself x.seen))

-- a look at a position leaves the readers
stay-look_map : (w : State) (p : ℕ) (held : Option ℕ) (o : Outcome) → look_map w p held ≡ Some o
    → o.state.readers ≡ w.readers
unfolding look_map
stay-look_map w p held o is = search (rules, where_true)

-- a look at a row of a block leaves the readers
stay-look_tile : (w : State) (b i : ℕ) (held : Option ℕ) (o : Outcome)
    → look_tile w b i held ≡ Some o → o.state.readers ≡ w.readers
unfolding look_tile
stay-look_tile w b i held o is = search (rules, where_true)

-- an order that is answered, refused or not, leaves the readers
stay-ordered : (w : State) (c : Command) (refusal : Option Refusal)
    → (ordered w c refusal).state.readers ≡ w.readers
stay-ordered w c refusal = search rules

-- an order leaves the readers
stay-order : (w : State) (c : Command) (hand : Option Hand) (o : Outcome) → order w c hand ≡ Some o
    → o.state.readers ≡ w.readers
unfolding order
stay-order w c hand o is = search (rules, same_outcome, stay-ordered)

-- a step of the current command that isn't its last leaves the readers
stay-step : (w : State) (h : Hand) (c : Command) → (step_before w h c).state.readers ≡ w.readers
stay-step w h c = search rules

-- a step of the keeper leaves the readers
stay-keep : (w : State) (hand : Option Hand) (o : Outcome) → keep w hand ≡ Some o
    → o.state.readers ≡ w.readers
unfolding keep
stay-keep w hand o is = search (rules, same_outcome, stay-step)

-- after any event each reader has seen what it had, and one that has loaded has seen the whole log
pub does-grows : (w : State) (e : Event) (o : Outcome) → IsWhole w → does w e ≡ Some o
    → SeenGrows w o.state × SeesAll e o.state
unfolding does
does-grows w e o whole is =
    grind (
      arith,
      grows-announce,
      grows-load,
      seen_stays,
      stay-look_map,
      stay-look_tile,
      grows-leave,
      grows-confirm,
      stay-order,
      stay-keep,
    )

-- where a load isn't enabled there is no such reader
pub sees_none : (w : State) (e : Event) → does w e ≡ None → SeesAll e w
unfolding does load
sees_none w e none = search rules
