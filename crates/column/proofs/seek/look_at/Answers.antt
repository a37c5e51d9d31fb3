-- A row of the frame is an obstacle in each column, and one of the map where the map has one.
use Rattle.std.proofs.Common.{◌≡◌, ◌≢◌, ℕ, ◌+◌, ◌-◌, ◌*◌, ◌/◌, ◌%◌, ◌<◌, ◌==◌, ◌∙◌, inl, inr, List}
use Rattle.std.proofs.Common.{length, get_or, bit_and, arith, refl, sym, rules}
use Rattle.std.proofs.lemmas.Bool.{cases_eq}
use Rattle.bits.specs.Cells.{has}
use Rattle.column.specs.Capped.{capped}
use Rattle.column.specs.Marks.{first_marked, is_marked}
use Rattle.column.proofs.Caps.{cap_not, has-cap, has-capped}
use Rattle.column.proofs.Marking.{new_missing, new_marked, none_marked}
use Rattle.column.proofs.seek.look_at.Goals as goal
use Rattle.column.proofs.seek.look_at.Goals.{After-row_words-row, Joined-new-ne0, then-new-ne0}
use Rattle.column.proofs.seek.look_at.Goals.{else-new-ne0}

pub returns-then-is_cap-clause-seen : goal.returns-then-is_cap-clause-seen
returns-then-is_cap-clause-seen c = λ x column.
    let cap = rw (c.height.ensures.height) at (sym c.is_cap.ensures ∙ c.if-is_cap.true) in
    rw (has-cap c.args.edge c.args.bitmap.now x c.args.y column c.requires.row cap)
    (c.mark_all.ensures.marked x (rw (c.requires.width) column))

-- the words tell the obstacles of the row
told : (c : After-row_words-row) (x : ℕ) → x < c.args.bitmap.now.width
    → has (capped c.args.edge c.args.bitmap.now) x c.args.y
    ≡ is_marked c.row_words-row.result.now x
told c x column =
    let free = rw (c.height.ensures.height) at (sym c.is_cap.ensures ∙ c.if-is_cap.false) in
    let own = cap_not c.args.edge c.args.bitmap.now.height c.args.y free c.requires.row in
    rw (has-capped c.args.edge c.args.bitmap.now x c.args.y column own.0 own.1) (search rules)

pub returns-then-not-has_new-clause-seen : goal.returns-then-not-has_new-clause-seen
returns-then-not-has_new-clause-seen c = λ x column.
    rw (told (goal.at.returns-then-not-has_new-clause-seen c).After-row_words-row x column)
    (none_marked _ (get_or c.args.missing.now (x / 64) 0) (x % 64) _ c.args.y
    (c.requires.missing x (rw (c.requires.width) column))
    (c.has_new.ensures c.if-not-has_new.true (x / 64) (search rules)))

-- the columns of one word are marked where they are missing, and all others stay
record IsWordMarked (words masks left : List ℕ) (y index : ℕ) (old new : List ℕ) : Type 0 where
  missing : (x : ℕ) → x / 64 ≡ index → x < length old
      → is_marked left x ≡ (get_or new x 0 == 65535)
  marked : (x : ℕ) → x / 64 ≡ index → x < length old
      → get_or new x 0 ≡ first_marked (is_marked words x) y (get_or old x 0)
  kept : (k : ℕ) → k ≢ index → get_or left k 0 ≡ get_or masks k 0
  others : (x : ℕ) → x / 64 ≢ index → get_or new x 0 ≡ get_or old x 0

-- a word's obstacles are marked where their columns are missing
word_marked : (c : Joined-new-ne0)
    → IsWordMarked c.row_words-row.result.now c.words.missing c.if-new-ne0.missing c.args.y
    c.words.index c.words.entries c.if-new-ne0.entries
word_marked c = elim c.if-new-ne0.branch [
  | then-new-ne0 w ↦
      let word : ℕ = get_or c.row_words-row.result.now c.words.index 0 in
      let mask : ℕ = get_or c.words.missing c.words.index 0 in
      let left : get_or c.if-new-ne0.missing c.words.index 0
      ≡ bit_and mask (18446744073709551615 - word) = rw w.missing-is (search rules) in
      rw w.entries-is (record {
        missing = λ x here within.
            let place : c.words.index * 64 + x % 64 ≡ x = omega (arith, here) in
            rw (here, left) (new_missing word mask (x % 64) (get_or c.words.entries x 0)
            (get_or w.mark_word.new.row x 0) c.args.y
            (omega (arith, c.type_inv.row c.words.index)) (omega arith) (search rules)
            (rw here at (c.words.invariant.missing x within))
            (rw place at (w.mark_word.ensures.marked (x % 64) (omega arith)
            (omega (arith, place, within)))));
        marked = λ x here within.
            let place : c.words.index * 64 + x % 64 ≡ x = omega (arith, here) in
            rw here (new_marked word mask (x % 64) (get_or c.words.entries x 0)
            (get_or w.mark_word.new.row x 0) c.args.y
            (rw here at (c.words.invariant.missing x within))
            (rw place at (w.mark_word.ensures.marked (x % 64) (omega arith)
            (omega (arith, place, within)))));
        kept = λ k apart. rw w.missing-is (search rules);
        others = λ x apart. w.mark_word.ensures.others x (search rules);
      })
  | else-new-ne0 w ↦ rw (w.missing-is, w.entries-is) (record {
    missing = λ x here within. c.words.invariant.missing x within;
    marked = λ x here within.
        none_marked _ (get_or c.words.missing (x / 64) 0) (x % 64) _ c.args.y
        (c.words.invariant.missing x within) (rw here w.if-new-ne0.false);
    kept = λ k apart. refl;
    others = λ x apart. refl;
  })
]

pub words-preserved : goal.words-preserved
words-preserved c =
    let now = word_marked c in
    let long = c.if-new-ne0.auto.entries in
    let same = c.words.auto.entries in
    record {
      missing = λ x within. elim (cases_eq (x / 64) c.words.index) [
        | inl here ↦ now.missing x here (omega (arith, long, within))
        | inr apart ↦ rw (now.kept (x / 64) apart, now.others x apart)
            (c.words.invariant.missing x (omega (arith, long, within)))
      ];
      marked = λ x below within. elim (cases_eq (x / 64) c.words.index) [
        | inl here ↦ rw (c.words.invariant.others x (omega (arith, here)))
            at (now.marked x here (omega (arith, same, within)))
        | inr apart ↦ now.others x apart
            ∙ c.words.invariant.marked x (omega (arith, below, apart)) within
      ];
      others = λ x behind. now.others x (λ here. omega (arith, behind, here))
          ∙ c.words.invariant.others x (omega (arith, behind));
    }

pub returns-clause-seen : goal.returns-clause-seen
returns-clause-seen c = λ x column.
    rw (told (goal.at.returns-clause-seen c).After-row_words-row x column) (search rules)
