-- Each event keeps what holds of a world, and stores in no live block.
use Rattle.events.proofs.Names.{rules, ◌≡◌, ◌≢◌, ℕ, zero, suc, ◌<◌, ◌⊎◌, List, [], ◌∷◌, ◌++◌, set}
use Rattle.events.proofs.Names.{length, get_or, refl, subst, sym, ◌∙◌, arith, Option, Some, None}
use Rattle.events.proofs.Names.{slice_get, length-set, inl, inr, Entry, Command, Publish, Collect}
use Rattle.events.proofs.Names.{From, Exact, Story, newest, refused, told, Blocks, moved, Base}
use Rattle.events.proofs.Names.{now_at, pin_at, version_told, now_of, pin_word, Hand, State}
use Rattle.events.proofs.Names.{Keeper, Reader, story, blocks, story_of, blocks_of_state, Outcome}
use Rattle.events.proofs.Names.{newest_seen, with_word_stored, with_reader, next_hold, commit}
use Rattle.events.proofs.Names.{steps_before, entry_of, IsTidy, IsSeenKept, InHand, KeeperSound}
use Rattle.events.proofs.Names.{ReaderSound, IsWhole}
use Rattle.events.specs.Steps.{write, scan}
use Rattle.events.specs.Safe.{SparesLive}
use Rattle.events.proofs.shared_words.PlaceLemmas.{tile-pin, tile-now}
use Rattle.events.proofs.invariants.SafeLemmas.{live_kept}
use Rattle.events.proofs.accounts.SpareLemmas.{IsSpare, spare_write}
use Rattle.events.proofs.invariants.SoundCommit.{KeeperSound-commit, ReaderSound-commit}
use Rattle.events.proofs.invariants.SoundKeeper.{KeeperSound-order, ReaderSound-order, seen_kept}
use Rattle.events.proofs.invariants.SoundKeeper.{KeeperSound-write, ReaderSound-write}
use Rattle.events.proofs.invariants.SoundKeeper.{KeeperSound-scan, ReaderSound-scan}
use Rattle.events.proofs.invariants.SoundReader.{KeeperSound-frame, same_after_pin, other_reader}
use Rattle.events.proofs.invariants.SoundReader.{other_pin, ReaderSound-announce, version_of_now}
use Rattle.events.proofs.invariants.SoundReader.{ReaderSound-confirm, ReaderSound-leave}
use Rattle.events.proofs.invariants.SoundReader.{ReaderSound-load}
use Rattle.events.proofs.invariants.TidyLog.{IsTidy-legal, after-push, blocks_after-push}

-- an event keeps what holds of a world, and stores in no live block
pub record Keeps (w : State) (o : Outcome) : Type 0 where
  pub whole : IsWhole o.state
  pub spares : SparesLive w o.stored

-- what is in a list lies within it
slice_get-lt : {A : Type 0} (xs : List A) (i : ℕ) (x : A) → slice_get xs i ≡ Some x → i < length xs
slice_get-lt [] i x is = absurd (cc)
slice_get-lt (y ∷ ys) zero x is = omega arith
slice_get-lt (y ∷ ys) (suc i) x is = let rest = slice_get-lt ys i x is in omega arith

-- what is found after a write is what was written, or what was there at another place
pub slice_get-set : {A : Type 0} (xs : List A) (i : ℕ) (x : A) (j : ℕ) (y : A)
    → slice_get (set xs i x) j ≡ Some y → ((i ≡ j) × (x ≡ y))
    ⊎ ((j ≢ i) × (slice_get xs j ≡ Some y))
slice_get-set [] i x j y is = absurd (cc)
slice_get-set (z ∷ zs) zero x zero y is = inl (refl, cc)
slice_get-set (z ∷ zs) zero x (suc j) y is = inr (λ same. absurd (omega arith), is)
slice_get-set (z ∷ zs) (suc i) x zero y is = inr (λ same. absurd (omega arith), is)
slice_get-set (z ∷ zs) (suc i) x (suc j) y is = search (rules, slice_get-set zs i x j y is)

-- where nothing is stored, no live block is stored in
pub nothing_stored : (w : State) → SparesLive w None
nothing_stored w b i row live same = cc

-- a reader's word is no live block's
pub pin_stored : (w : State) (r : ℕ) → r < w.base.setting.sessions → SparesLive w (Some (pin_at r))
pin_stored w r inside b i row live same = tile-pin w.base b i r inside (cc)

-- NOW is no live block's
now_stored : (w : State) → SparesLive w (Some now_at)
now_stored w b i row live same = tile-now w.base b i (cc)

-- a place where no kept version is read is no live block's
spare_stored : (w : State) (at : ℕ) → IsWhole w → IsSpare w.base (story_of w) (blocks_of_state w) at
    → SparesLive w (Some at)
spare_stored w at whole spare b i row live same = search (rules, live_kept)

-- a whole world's story and blocks are tidy
pub tidy_of : (w : State) → IsWhole w → IsTidy w.base (story_of w) (blocks_of_state w)
tidy_of w whole = IsTidy-legal w.base w.keeper.log whole.ready whole.keeper.legal

-- a world in which reader r has stored its word, and has another view, is whole
whole_pin : (w : State) (r word : ℕ) (x y : Reader) → IsWhole w → slice_get w.readers r ≡ Some x
    → ReaderSound w.base (story_of w) (set w.words (pin_at r) word) w.keeper r y
    → IsWhole (with_word_stored (with_reader w r y) (pin_at r) word)
whole_pin w r word x y whole there sound =
    let within = slice_get-lt w.readers r x there in
    let count = whole.readers in
    let inside : r < w.base.setting.sessions = omega arith in
    record {
      ready = whole.ready;
      keeper = search (rules, KeeperSound-frame, same_after_pin);
      readers = length-set w.readers r y ∙ whole.readers;
      reader = λ q z is.
          elim (slice_get-set w.readers r y q z is) [
            | inl here ↦ search rules
            | inr other ↦ other_reader w.base (story_of w) w.words
                (set w.words (pin_at r) word) w.keeper q z (other_pin w.words r q word other.0)
                (whole.reader q z other.1)
          ];
    }

-- a reader's number is one of the setting's
pub number_inside : (w : State) (r : ℕ) (x : Reader) → IsWhole w → slice_get w.readers r ≡ Some x
    → r < w.base.setting.sessions
number_inside w r x whole there = search (rules, slice_get-lt)

-- an announcement keeps what holds of a world
pub keeps-announce : (w : State) (r : ℕ) (x : Reader) → IsWhole w → slice_get w.readers r ≡ Some x
    → x.announced ≡ None
    → IsWhole
    (with_word_stored
    (with_reader w r record x { announced = Some (From (newest_seen w.base x)) }) (pin_at r)
    (pin_word (Some (From (newest_seen w.base x)))))
keeps-announce w r x whole there none =
    whole_pin w r (pin_word (Some (From (newest_seen w.base x)))) x
    record x { announced = Some (From (newest_seen w.base x)) } whole there
    (ReaderSound-announce w.base w.keeper.log w.words w.keeper.hand r x whole.keeper.sized
    (number_inside w r x whole there) (whole.reader r x there) none)

-- an exact announcement keeps what holds of a world
pub keeps-confirm : (w : State) (r : ℕ) (x : Reader) (v : ℕ) → IsWhole w
    → slice_get w.readers r ≡ Some x → x.holds ≡ Some v
    → IsWhole (with_word_stored (with_reader w r record x { announced = Some (Exact v) }) (pin_at r)
    (pin_word (Some (Exact v))))
keeps-confirm w r x v whole there held =
    whole_pin w r (pin_word (Some (Exact v))) x record x { announced = Some (Exact v) } whole there
    (ReaderSound-confirm w.base (story_of w) w.words w.keeper r x v whole.keeper.sized
    (number_inside w r x whole there) (whole.reader r x there) held)

-- a leave keeps what holds of a world
pub keeps-leave : (w : State) (r : ℕ) (x : Reader) → IsWhole w → slice_get w.readers r ≡ Some x
    → IsWhole (with_word_stored (with_reader w r record x { announced = None; holds = None })
    (pin_at r) (pin_word None))
keeps-leave w r x whole there =
    whole_pin w r (pin_word None) x record x { announced = None; holds = None } whole there
    (ReaderSound-leave w.base (story_of w) w.words w.keeper r x whole.keeper.sized
    (number_inside w r x whole there) (whole.reader r x there))

-- a load keeps what holds of a world
pub keeps-load : (w : State) (r : ℕ) (x : Reader) → IsWhole w → slice_get w.readers r ≡ Some x
    → IsWhole (with_reader w r record x {
      seen = w.keeper.log;
      holds = next_hold x (version_told (get_or w.words now_at 0));
    })
keeps-load w r x whole there =
    let version : newest (story_of w) ≡ version_told (get_or w.words now_at 0) =
    search (rules, version_of_now) in
    let loaded = ReaderSound-load w.base w.keeper.log (blocks_of_state w) w.words w.keeper.hand r x
    (tidy_of w whole) (whole.reader r x there) in
    let sound = subst (λ (n : ℕ). ReaderSound w.base
    (story_of w) w.words w.keeper r record x { seen = w.keeper.log; holds = next_hold x n })
    version loaded in
    record {
      ready = whole.ready;
      keeper = whole.keeper;
      readers = length-set w.readers r _ ∙ whole.readers;
      reader = λ q z is.
          elim (slice_get-set w.readers r _ q z is) [
            | inl here ↦ search rules
            | inr other ↦ whole.reader q z other.1
          ];
    }

-- the world has this current command, and is otherwise as it was
abbrev pub in_hand : State → Option Hand → State
in_hand w hand = record w { keeper = record { log = w.keeper.log; hand = hand } }

-- an order that is accepted keeps what holds of a world
pub keeps-order : (w : State) (c : Command) → IsWhole w
    → refused w.base.setting (story_of w) c ≡ None
    → IsWhole (in_hand w (Some record { command = c; done = 0; scanned = [] }))
keeps-order w c whole accepted = record {
  ready = whole.ready;
  keeper = search (rules, KeeperSound-order);
  readers = whole.readers;
  reader = λ r x there. ReaderSound-order w.base
      (story_of w) w.words w.keeper.log w.keeper.hand c r x (whole.reader r x there);
}

-- a step of a publish keeps what holds of a world
pub keeps-write : (w : State) (h : Hand) → IsWhole (in_hand w (Some h)) → h.command ≡ Publish
    → h.done < steps_before w.base (blocks_of_state w) Publish
    → Keeps (in_hand w (Some h)) (write w h)
keeps-write w h whole publish more =
    let k = w.base in
    let s = story_of w in
    let m = blocks_of_state w in
    let tidy : IsTidy k s m = tidy_of (in_hand w (Some h)) whole in
    let inhand : InHand k s m w.words h = whole.keeper.hand in
    let accepted : refused k.setting s Publish ≡ None = search rules in
    record {
      whole = record {
        ready = whole.ready;
        keeper = search (rules, KeeperSound-write);
        readers = whole.readers;
        reader = λ r x there. ReaderSound-write k s m w.words w.keeper.log h r x whole.ready tidy
            accepted more (number_inside (in_hand w (Some h)) r x whole there)
            (whole.reader r x there);
      };
      spares = search (rules, spare_stored, spare_write);
    }

-- a list has something at each place within it
pub there_is : {A : Type 0} (xs : List A) (i : ℕ) → i < length xs
    → (x : A) × (slice_get xs i ≡ Some x)
there_is [] i h = absurd (omega arith)
there_is (y ∷ ys) zero h = (y, refl)
there_is (y ∷ ys) (suc i) h = there_is ys i (omega arith)

-- what the next word of a scan announces exactly is kept
word_kept : (w : State) (h : Hand) → IsWhole (in_hand w (Some h))
    → h.done < steps_before w.base (blocks_of_state w) Collect
    → IsSeenKept (story_of w) (get_or w.words (pin_at h.done) 0)
unfolding steps_before
word_kept w h whole more =
    let count = whole.readers in
    let x = there_is w.readers h.done (omega arith) in
    seen_kept w.base (story_of w) w.words record { log = w.keeper.log; hand = Some h } h.done x.0
    (whole.reader h.done x.0 x.1)

-- a step of a collect keeps what holds of a world
pub keeps-scan : (w : State) (h : Hand) → IsWhole (in_hand w (Some h)) → h.command ≡ Collect
    → h.done < steps_before w.base (blocks_of_state w) Collect
    → Keeps (in_hand w (Some h)) (scan w h)
keeps-scan w h whole collect more =
    let k = w.base in
    let s = story_of w in
    let m = blocks_of_state w in
    let inhand : InHand k s m w.words h = whole.keeper.hand in
    record {
      whole = record {
        ready = whole.ready;
        keeper = search (rules, KeeperSound-scan, word_kept);
        readers = whole.readers;
        reader = λ r x there. ReaderSound-scan k s w.words w.keeper.log h r x inhand.scans
            (whole.reader r x there);
      };
      spares = nothing_stored (in_hand w (Some h));
    }

-- the story of a log with one more entry is what that entry makes of the log's story
pub story-push : (k : Base) (log : List Entry) (e : Entry)
    → story k (log ++ e ∷ []) ≡ told (story k log) e.command e.reply
unfolding story
story-push k log e = after-push _ log e

-- the blocks of a log with one more entry are what that entry makes of the log's blocks
pub blocks-push : (k : Base) (log : List Entry) (e : Entry)
    → blocks k (log ++ e ∷ []) ≡ moved (story k log) e.command e.reply (blocks k log)
unfolding story blocks
blocks-push k log e = blocks_after-push _ _ log e

-- the last step of a command keeps what holds of a world
pub keeps-commit : (w : State) (h : Hand) → IsWhole (in_hand w (Some h))
    → h.done ≡ steps_before w.base (blocks_of_state w) h.command
    → Keeps (in_hand w (Some h)) (commit w h)
keeps-commit w h whole all =
    let k = w.base in
    let log = w.keeper.log in
    let s = story_of w in
    let m = blocks_of_state w in
    let e : Entry = entry_of s h in
    let tidy : IsTidy k s m = tidy_of (in_hand w (Some h)) whole in
    let inhand : InHand k s m w.words h = whole.keeper.hand in
    let words = set w.words now_at (now_of (told s e.command e.reply)) in
    let after : Keeper = record { log = log ++ e ∷ []; hand = None } in
    record {
      whole = record {
        ready = whole.ready;
        keeper =
            subst (λ (t : Story). KeeperSound k t (blocks k (log ++ e ∷ [])) words after)
            (sym (story-push k log e))
            (subst (λ (n : Blocks). KeeperSound k (told s e.command e.reply) n words after)
            (sym (blocks-push k log e))
            (KeeperSound-commit k log w.words h tidy whole.keeper all));
        readers = whole.readers;
        reader = λ r x there.
            subst (λ (t : Story). ReaderSound k t words after r x) (sym (story-push k log e))
            (ReaderSound-commit k log w.words h r x
            (number_inside (in_hand w (Some h)) r x whole there) inhand all
            (whole.reader r x there));
      };
      spares = now_stored (in_hand w (Some h));
    }
