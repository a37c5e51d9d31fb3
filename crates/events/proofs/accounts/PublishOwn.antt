-- The draft's own blocks are given to the next version, position by position.
use Rattle.events.proofs.Names.{rules, length-append, ◌≡◌, ℕ, zero, suc, true, false, ◌+◌, ◌<◌}
use Rattle.events.proofs.Names.{◌≤◌, List, [], ◌∷◌, ◌++◌, length, drop, get_or, set, refl, ap}
use Rattle.events.proofs.Names.{sym, ◌∙◌, arith, Option, Some, None, is_some, drop_more, drop_all}
use Rattle.events.proofs.Names.{RetiredBlock, own_list, came_with, came_after, retired_by}
use Rattle.std.proofs.Common.{append_assoc}
use Rattle.events.proofs.accounts.GiveBack.{cleared, get_or-cleared, set-cleared}

-- the positions before the i-th have come with the version with which they come after a publish
abbrev pub came_to : ℕ → ℕ → List (Option ℕ) → List ℕ → List ℕ
came_to zero newest own came = came
came_to (suc i) newest [] came = came
came_to (suc i) newest (o ∷ own) [] = []
came_to (suc i) newest (o ∷ own) (c ∷ came) = came_with newest o c ∷ came_to i newest own came

-- the draft's own blocks at the positions before the i-th are given to the next version
pub record IsGiven (newest : ℕ) (directory : List ℕ) (own : List (Option ℕ)) (came : List ℕ)
    (retired : List RetiredBlock) (room i : ℕ) (own_now : List (Option ℕ)) (came_now : List ℕ)
    (retired_now : List RetiredBlock) : Type 0 where
  pub own_is : own_now ≡ cleared i own
  pub came_is : came_now ≡ came_to i newest own came
  pub retired_is : retired_now ++ retired_by newest i (drop i own) (drop i came) (drop i directory)
      ≡ retired ++ retired_by newest 0 own came directory
  pub fits : length retired_now + length (own_list (drop i own)) ≤ room

-- a position that isn't reached yet has come as before
get_or-came_to : (i newest : ℕ) (own : List (Option ℕ)) (came : List ℕ) (d : ℕ)
    → get_or (came_to i newest own came) i d ≡ get_or came i d
get_or-came_to zero newest own came d = refl
get_or-came_to (suc i) newest [] came d = refl
get_or-came_to (suc i) newest (o ∷ own) [] d = refl
get_or-came_to (suc i) newest (o ∷ own) (c ∷ came) d = get_or-came_to i newest own came d

-- a position that has an own block comes with the next version once it is reached
set-came_to : (i newest : ℕ) (own : List (Option ℕ)) (came : List ℕ) (o : Option ℕ) (b : ℕ)
    → i < length own → length came ≡ length own → get_or own i o ≡ Some b
    → set (came_to i newest own came) i (newest + 1) ≡ came_to (suc i) newest own came
set-came_to i newest [] came o b h long is = absurd (omega arith)
set-came_to i newest (x ∷ own) [] o b h long is = absurd (omega arith)
set-came_to zero newest (x ∷ own) (c ∷ came) o b h long is = search rules
set-came_to (suc i) newest (x ∷ own) (c ∷ came) o b h long is =
    search (rules, set-came_to i newest own came o b (omega arith) (omega arith) is)

-- a position that has no own block has come as before once it is reached
came_to_same : (i newest : ℕ) (own : List (Option ℕ)) (came : List ℕ) (o : Option ℕ)
    → i < length own → length came ≡ length own → get_or own i o ≡ None
    → came_to i newest own came ≡ came_to (suc i) newest own came
came_to_same i newest [] came o h long is = absurd (omega arith)
came_to_same i newest (x ∷ own) [] o h long is = absurd (omega arith)
came_to_same zero newest (x ∷ own) (c ∷ came) o h long is = search rules
came_to_same (suc i) newest (x ∷ own) (c ∷ came) o h long is =
    search (rules, came_to_same i newest own came o (omega arith) (omega arith) is)

-- clearing a position that has no own block leaves the list as it is
cleared_same : (i : ℕ) (own : List (Option ℕ)) (o : Option ℕ) → i < length own
    → get_or own i o ≡ None → cleared i own ≡ cleared (suc i) own
cleared_same i [] o h is = absurd (omega arith)
cleared_same zero (x ∷ own) o h is = ap (λ (y : Option ℕ). y ∷ own) is
cleared_same (suc i) (x ∷ own) o h is = search (rules, cleared_same i own o (omega arith) is)

-- once each position is reached, each has come as it has after a publish
came_to-all : (newest : ℕ) (own : List (Option ℕ)) (came : List ℕ) → length came ≡ length own
    → came_to (length own) newest own came ≡ came_after newest own came
came_to-all newest [] [] long = refl
came_to-all newest [] (c ∷ came) long = absurd (omega arith)
came_to-all newest (o ∷ own) [] long = absurd (omega arith)
came_to-all newest (o ∷ own) (c ∷ came) long =
    ap (λ (cs : List ℕ). came_with newest o c ∷ cs) (came_to-all newest own came (omega arith))

-- the lists have this at a position, where the positions before it are given
pub record IsAt (newest : ℕ) (directory : List ℕ) (own : List (Option ℕ)) (came : List ℕ) (i : ℕ)
    (own_now : List (Option ℕ)) (o : Option ℕ) : Type 0 where
  pub inside : i < length own
  pub long : length came ≡ length own
  pub directory_long : length directory ≡ length own
  pub read : o ≡ get_or own_now i None

module _ {newest : ℕ} {directory : List ℕ} {own : List (Option ℕ)} {came : List ℕ}
    {retired : List RetiredBlock} {room i : ℕ} {own_now : List (Option ℕ)} {came_now : List ℕ}
    {retired_now : List RetiredBlock}
    (given : IsGiven newest directory own came retired room i own_now came_now retired_now) where
  -- the next position is given too where a test finds no block there, and nothing is retired
  pub given_past : (o : Option ℕ) → IsAt newest directory own came i own_now o → is_some o ≡ false
      → IsGiven newest directory own came retired room (i + 1) own_now came_now retired_now
  given_past (Some b) at is = absurd (cc)
  given_past None at is =
      let inside = at.inside in
      let long = at.long in
      let directory_long = at.directory_long in
      let none : get_or own i None ≡ None = sym (get_or-cleared i own None)
      ∙ (ap (λ (os : List (Option ℕ)). get_or os i None) (sym given.own_is) ∙ sym at.read) in
      let here : drop i own ≡ None ∷ drop (i + 1) own = drop_more own i None inside
      ∙ ap (λ (x : Option ℕ). x ∷ drop (i + 1) own) none in
      let came_here : drop i came ≡ get_or came i 0 ∷ drop (i + 1) came =
      drop_more came i 0 (omega arith) in
      let directory_here : drop i directory ≡ get_or directory i 0 ∷ drop (i + 1) directory =
      drop_more directory i 0 (omega arith) in
      let rest : retired_by newest i (drop i own) (drop i came) (drop i directory)
      ≡ retired_by newest (i + 1) (drop (i + 1) own) (drop (i + 1) came) (drop (i + 1) directory) =
      rw (here, came_here, directory_here) in
      let fits = given.fits in
      let counted = ap (λ (os : List (Option ℕ)). length (own_list os)) here in
      let on : suc i ≡ i + 1 = omega arith in
      record {
        own_is = given.own_is
            ∙ (cleared_same i own None inside none ∙ ap (λ (n : ℕ). cleared n own) on);
        came_is = given.came_is
            ∙ (came_to_same i newest own came None inside long none
            ∙ ap (λ (n : ℕ). came_to n newest own came) on);
        retired_is = ap (λ (rs : List RetiredBlock). retired_now ++ rs) (sym rest)
            ∙ given.retired_is;
        fits = omega arith;
      }

  -- where a test finds a block at the next position, it is given and the block that it replaces is
  -- retired
  pub given_more : (o : Option ℕ) (block first : ℕ) → IsAt newest directory own came i own_now o
      → is_some o ≡ true → block ≡ get_or directory i 0 → first ≡ get_or came_now i 0
      → IsGiven newest directory own came retired room (i + 1) (set own_now i None)
      (set came_now i (newest + 1))
      (retired_now ++ record { block = block; position = i; first = first; last = newest } ∷ [])
  given_more None block first at is block_is first_is = absurd (cc)
  given_more (Some b) block first at is block_is first_is =
      let inside = at.inside in
      let long = at.long in
      let directory_long = at.directory_long in
      let some : get_or own i None ≡ Some b = sym (get_or-cleared i own None)
      ∙ (ap (λ (os : List (Option ℕ)). get_or os i None) (sym given.own_is) ∙ sym at.read) in
      let here : drop i own ≡ Some b ∷ drop (i + 1) own = drop_more own i None inside
      ∙ ap (λ (x : Option ℕ). x ∷ drop (i + 1) own) some in
      let came_first : get_or came i 0 ≡ first = sym (get_or-came_to i newest own came 0)
      ∙ (ap (λ (cs : List ℕ). get_or cs i 0) (sym given.came_is) ∙ sym first_is) in
      let came_here : drop i came ≡ first ∷ drop (i + 1) came = drop_more came i 0 (omega arith)
      ∙ ap (λ (c : ℕ). c ∷ drop (i + 1) came) came_first in
      let directory_here : drop i directory ≡ block ∷ drop (i + 1) directory =
      drop_more directory i 0 (omega arith)
      ∙ ap (λ (c : ℕ). c ∷ drop (i + 1) directory) (sym block_is) in
      let new : RetiredBlock =
      record { block = block; position = i; first = first; last = newest } in
      let later : List RetiredBlock = retired_by newest (i + 1) (drop (i + 1) own)
      (drop (i + 1) came) (drop (i + 1) directory) in
      let rest : retired_by newest i (drop i own) (drop i came) (drop i directory) ≡ new ∷ later =
      rw (here, came_here, directory_here) in
      let fits = given.fits in
      let counted = ap (λ (os : List (Option ℕ)). length (own_list os)) here in
      let on : suc i ≡ i + 1 = omega arith in
      record {
        own_is = ap (λ (os : List (Option ℕ)). set os i None) given.own_is
            ∙ (set-cleared i own inside ∙ ap (λ (n : ℕ). cleared n own) on);
        came_is = ap (λ (cs : List ℕ). set cs i (newest + 1)) given.came_is
            ∙ (set-came_to i newest own came None b inside long some
            ∙ ap (λ (n : ℕ). came_to n newest own came) on);
        retired_is = append_assoc retired_now (new ∷ []) later
            ∙ (ap (λ (rs : List RetiredBlock). retired_now ++ rs) (sym rest) ∙ given.retired_is);
        fits = omega (arith, length-append retired_now (new ∷ []));
      }

  -- where a test finds a block at the next position, there is room for the one that it replaces
  pub given_fits : (o : Option ℕ) → i < length own → o ≡ get_or own_now i None → is_some o ≡ true
      → length retired_now < room
  given_fits None inside read is = absurd (cc)
  given_fits (Some b) inside read is = search (rules, get_or-cleared, drop_more)

  -- once each position is given, each has come as after a publish, and the replaced blocks are
  -- retired
  pub given_all : length came ≡ length own → i ≡ length own
      → (came_now ≡ came_after newest own came)
      × (retired_now ≡ retired ++ retired_by newest 0 own came directory)
  given_all long all = search (rules, drop_all, came_to-all)
