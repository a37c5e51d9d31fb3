-- A block comes out of a region's row of blocks, and goes back. Assumes `Logic`.
use Rattle.std.proofs.Common.{◌≡◌, ℕ, zero, suc, ◌+◌, ◌*◌, ◌<◌, List, [], ◌∷◌, length, get_or, set}
use Rattle.std.proofs.Common.{replicate, refl, sym, subst, arith}
use Rattle.arena.specs.Blocks.{Content, out, bare, held, IsHeld}
use native.Mathlib.Nat.{not-suc-le-zero, le_of_suc-le-suc}
use seplogic.Ra.Ura.{Ura}
use base.Fraction.{full_share}
use base.Logic.{SProp, ent, sep, never, never_e, emp∗}
use base.Fml.{Fml, ftrue, fsep, fat, froom}
use mir.Val.{Val}
use prog.Model.{Model}
use types.Logic.{Logic, sem}
use types.Kit.{‵, raw, ◌⊛◌, some, ◌$◌, ◌∵◌, !, qed, by, move, keep, drop, use1, use2, split, pick}
use types.Kit.{rewrite, fsplit, frame, done}
use contract.Monad.{fact, fact_i}
use denote.Index.{place, place_is}
use denote.Laws.{Is, shows}
use denote.Steps.{peeks}
use denote.Memory.{part_at}
use borrow.Table.OneValue.{part_out}
use mir.Syntax.{ty_array}
use Rattle.arena.specs.Ownership.{block_ty, block_row, block_at, blocks_from}

-- a block that is out isn't one with words
none_some : {ws : List ℕ} → out ≡ held ws → ⊥
none_some {ws} e = subst Is_none e tt
  where
    Is_none : Content → Type 0
    Is_none out = Unit {0}
    Is_none bare = Unit {0}
    Is_none (held vs) = ⊥

-- a number at which a block has words is below the count of blocks
pub some_inside : (cs : List Content) (k : ℕ) (ws : List ℕ) → get_or cs k out ≡ held ws
    → k < length cs
some_inside [] k ws e = absurd (none_some e)
some_inside (c ∷ cs) zero ws e = omega arith
some_inside (c ∷ cs) (suc k) ws e = let below = some_inside cs k ws e in omega arith

-- a block that is out isn't one that holds nothing yet
out_bare : out ≡ bare → ⊥
out_bare e = subst Is_out e tt
  where
    Is_out : Content → Type 0
    Is_out out = Unit {0}
    Is_out bare = ⊥
    Is_out (held vs) = ⊥

-- a number at which a block holds nothing yet is below the count of blocks
pub bare_inside : (cs : List Content) (k : ℕ) → get_or cs k out ≡ bare → k < length cs
bare_inside [] k e = absurd (out_bare e)
bare_inside (c ∷ cs) zero e = omega arith
bare_inside (c ∷ cs) (suc k) e = let below = bare_inside cs k e in omega arith

-- all blocks of the row but its k-th are owned
abbrev pub besides : ℕ → ℕ → List Content → ℕ → Fml
besides b o [] k = ftrue
besides b o (c ∷ cs) zero = blocks_from b (o + 512) cs
besides b o (c ∷ cs) (suc k) = fsep (block_at b o c) (besides b (o + 512) cs k)

module _ {M : Type 1} {𝓤 : Ura M} (𝓛 : Logic 𝓤) (b : ℕ) where
  open 𝓛 use {H}

  abbrev ◌⊢◌ : SProp 𝓤 → SProp 𝓤 → Type 1
  P ⊢ Q = ent 𝓤 P Q

  abbrev ◌∗◌ : SProp 𝓤 → SProp 𝓤 → SProp 𝓤
  P ∗ Q = sep 𝓤 P Q

  abbrev ⟦◌⟧ : Fml → SProp 𝓤
  ⟦ P ⟧ = sem 𝓛 P

  infix 26 ◌⊢◌
  infixr 35 ◌∗◌
  -- a row of blocks splits into its k-th block and the others
  takes : (cs : List Content) (k o : ℕ) → k < length cs → ⟦ blocks_from b o cs ⟧
      ⊢ ⟦ block_at b (place 512 o k) (get_or cs k out) ⟧ ∗ ⟦ besides b o cs k ⟧
  takes [] k o l = absurd (not-suc-le-zero l)
  takes (c ∷ cs) zero o l = qed 𝓛 (‵ (blocks_from b o (c ∷ cs)) ∷ []) ∵ fsplit ! $ done !
  takes (c ∷ cs) (suc k) o l =
      qed 𝓛 (‵ (blocks_from b o (c ∷ cs)) ∷ []) ∵ fsplit ! $ move ! (1 ∷ []) $
      use1 𝓛 (‵ (block_at b (place 512 (o + 512) k) (get_or cs k out)) ⊛ ‵
      (besides b (o + 512) cs k)) (takes cs k (o + 512) (le_of_suc-le-suc l)) $ split ! $ frame !
      $ move ! (1 ∷ 0 ∷ []) $ done !

  -- a block that is put at its place among the others makes a row of blocks
  puts : (cs : List Content) (k : ℕ) (c : Content) (o : ℕ) → k < length cs
      → ⟦ block_at b (place 512 o k) c ⟧ ∗ ⟦ besides b o cs k ⟧ ⊢ ⟦ blocks_from b o (set cs k c) ⟧
  puts [] k c o l = absurd (not-suc-le-zero l)
  puts (d ∷ cs) zero c o l = grind arith
  puts (d ∷ cs) (suc k) c o l =
      qed 𝓛 (‵ (block_at b (place 512 (o + 512) k) c) ∷ ‵ (besides b o (d ∷ cs) (suc k)) ∷ [])
      ∵ move ! (1 ∷ []) $ fsplit ! $ move ! (2 ∷ 1 ∷ []) $
      use2 𝓛 (‵ (blocks_from b (o + 512) (set cs k c))) (puts cs k c (o + 512) (le_of_suc-le-suc l))
      $ move ! (1 ∷ 0 ∷ []) $ done !

  -- what owns a block's words is room for a block
  roomy : (ws : List ℕ) (o : ℕ) → ⟦ part_at block_row full_share ws b o ⟧ ⊢ H.room block_ty b o
  roomy ws o = qed 𝓛 (‵ (part_at block_row full_share ws b o) ∷ []) ∵
      use1 𝓛
      (some (λ (u : Val). ‵ (fat full_share block_ty b o u) ⊛ ‵ (block_row.own_val ws (u ∷ []))))
      (part_out 𝓛 block_row refl full_share ws b o)
      $ pick ! (λ u. split ! $ keep ! (0 ∷ []) $ by ! (𝓛.laws.at_room block_ty b o u))

  -- a block has 64 words
  pub sized : (ws : List ℕ) (o : ℕ) → ⟦ part_at block_row full_share ws b o ⟧
      ⊢ fact 𝓤 (length ws ≡ 64)
  sized ws o = qed 𝓛 (‵ (part_at block_row full_share ws b o) ∷ []) ∵
      use1 𝓛
      (some (λ (u : Val). ‵ (fat full_share block_ty b o u) ⊛ ‵ (block_row.own_val ws (u ∷ []))))
      (part_out 𝓛 block_row refl full_share ws b o) $ pick ! (λ u. split ! $ drop ! $
      peeks ! block_row (Is block_row) (shows 𝓛 block_row) ws (u ∷ [])
      (λ p. by ! (fact_i 𝓤 (length ws ≡ 64) _ p.1.0.1)))

  -- a block that is owned is not also in the row
  out_of : Model 𝓤 H → (c : Content) (ws : List ℕ) (o : ℕ)
      → ⟦ part_at block_row full_share ws b o ⟧ ∗ ⟦ block_at b o c ⟧ ⊢ fact 𝓤 (c ≡ out)
  out_of 𝓜 out ws o = fact_i 𝓤 (out ≡ out) _ refl
  out_of 𝓜 bare ws o =
      qed 𝓛 (‵ (part_at block_row full_share ws b o) ∷ ‵ (froom block_ty b o) ∷ [])
      ∵ use1 𝓛 (raw (H.room block_ty b o)) (roomy ws o) $
      use2 𝓛 (raw (never 𝓤)) (𝓜.room-room block_ty block_ty b o o o (omega arith, omega arith)
      (omega arith, omega arith)) $ by ! (never_e 𝓤 _)
  out_of 𝓜 (held vs) ws o =
      qed 𝓛 (‵ (part_at block_row full_share ws b o) ∷ ‵ (part_at block_row full_share vs b o) ∷ [])
      ∵
      use1 𝓛 (raw (H.room block_ty b o)) (roomy ws o) $ move ! (1 ∷ [])
      $ use1 𝓛 (raw (H.room block_ty b o)) (roomy vs o) $
      use2 𝓛 (raw (never 𝓤)) (𝓜.room-room block_ty block_ty b o o o (omega arith, omega arith)
      (omega arith, omega arith)) $ by ! (never_e 𝓤 _)

  module _ (cs : List Content) (k o : ℕ) (l : k < length cs) where
    -- a block with words comes out of the row, and its place is marked as out
    pub block_out : (ws : List ℕ) → get_or cs k out ≡ held ws → ⟦ blocks_from b o cs ⟧
        ⊢ ⟦ part_at block_row full_share ws b (k * 512 + o) ⟧ ∗ ⟦ blocks_from b o (set cs k out) ⟧
    block_out ws is = qed 𝓛 (‵ (blocks_from b o cs) ∷ []) ∵
        use1 𝓛 (‵ (block_at b (place 512 o k) (get_or cs k out)) ⊛ ‵ (besides b o cs k))
        (takes cs k o l) $ split ! $
        rewrite ! 0 (λ (c : Content). ‵ (block_at b (place 512 o k) c)) is refl
        $ rewrite ! 0 (λ (d : ℕ). ‵ (part_at block_row full_share ws b d)) (place_is 512 o k) refl
        $ frame ! $
        use1 𝓛 (‵ ftrue ⊛ ‵ (besides b o cs k)) (emp∗ 𝓤 _) $ split ! $ by ! (puts cs k out o l)

    -- a block that holds nothing yet comes out of the row as room, and the others stay
    pub bare_out : get_or cs k out ≡ bare → ⟦ blocks_from b o cs ⟧
        ⊢ ⟦ froom block_ty b (k * 512 + o) ⟧ ∗ ⟦ besides b o cs k ⟧
    bare_out is = qed 𝓛 (‵ (blocks_from b o cs) ∷ []) ∵
        use1 𝓛 (‵ (block_at b (place 512 o k) (get_or cs k out)) ⊛ ‵ (besides b o cs k))
        (takes cs k o l) $ split ! $
        rewrite ! 0 (λ (c : Content). ‵ (block_at b (place 512 o k) c)) is refl
        $ rewrite ! 0 (λ (d : ℕ). ‵ (froom block_ty b d)) (place_is 512 o k) refl $ done !

    -- a block with words that is put at its place among the others makes a row of blocks
    pub filled : (ws : List ℕ)
        → ⟦ part_at block_row full_share ws b (k * 512 + o) ⟧ ∗ ⟦ besides b o cs k ⟧
        ⊢ ⟦ blocks_from b o (set cs k (held ws)) ⟧
    filled ws = qed 𝓛 (‵ (part_at block_row full_share ws b (k * 512 + o))
        ∷ ‵ (besides b o cs k) ∷ []) ∵
        rewrite ! 0 (λ (d : ℕ). ‵ (part_at block_row full_share ws b d))
        (sym (place_is 512 o k)) refl $ by ! (puts cs k (held ws) o l)

    -- a block with words goes back into the row
    pub block_in : (ws : List ℕ)
        → ⟦ part_at block_row full_share ws b (k * 512 + o) ⟧ ∗ ⟦ blocks_from b o cs ⟧
        ⊢ ⟦ blocks_from b o (set cs k (held ws)) ⟧
    block_in ws = qed 𝓛 (‵ (part_at block_row full_share ws b (k * 512 + o))
        ∷ ‵ (blocks_from b o cs) ∷ []) ∵ move ! (1 ∷ []) $
        use1 𝓛 (‵ (block_at b (place 512 o k) (get_or cs k out)) ⊛ ‵ (besides b o cs k))
        (takes cs k o l) $ split ! $ drop ! $ move ! (1 ∷ 0 ∷ []) $
        rewrite ! 0 (λ (d : ℕ). ‵ (part_at block_row full_share ws b d))
        (sym (place_is 512 o k)) refl $ by ! (puts cs k (held ws) o l)

    -- a block that is owned next to the row is out of the row
    pub was_out : Model 𝓤 H → (ws : List ℕ)
        → ⟦ part_at block_row full_share ws b (k * 512 + o) ⟧ ∗ ⟦ blocks_from b o cs ⟧
        ⊢ fact 𝓤 (get_or cs k out ≡ out)
    was_out 𝓜 ws = qed 𝓛 (‵ (part_at block_row full_share ws b (k * 512 + o))
        ∷ ‵ (blocks_from b o cs) ∷ []) ∵ move ! (1 ∷ []) $
        use1 𝓛 (‵ (block_at b (place 512 o k) (get_or cs k out)) ⊛ ‵ (besides b o cs k))
        (takes cs k o l) $ split ! $ keep ! (2 ∷ 0 ∷ []) $
        rewrite ! 0 (λ (d : ℕ). ‵ (part_at block_row full_share ws b d))
        (sym (place_is 512 o k)) refl $ by ! (out_of 𝓜 (get_or cs k out) ws (place 512 o k))

  -- the room that an allocator gives is a row of blocks that hold nothing yet
  pub all_bare : (n o : ℕ) → H.room (ty_array block_ty n) b o
      ⊢ ⟦ blocks_from b o (replicate n bare) ⟧
  all_bare zero o = qed 𝓛 (‵ (froom (ty_array block_ty 0) b o) ∷ []) ∵ keep ! [] $ done !
  all_bare (suc n) o = qed 𝓛 (‵ (froom (ty_array block_ty (suc n)) b o) ∷ []) ∵
      use1 𝓛 (‵ (froom block_ty b o) ⊛ ‵ (froom (ty_array block_ty n) b (o + 512)))
      (𝓛.laws.room_uncons block_ty n b o) $ split ! $ frame ! $ by ! (all_bare n (o + 512))

  -- a row of blocks of which each is in is room for that many blocks
  pub all_room : (cs : List Content) (o : ℕ)
      → ((k : ℕ) (d : Content) → k < length cs → IsHeld (get_or cs k d)) → ⟦ blocks_from b o cs ⟧
      ⊢ H.room (ty_array block_ty (length cs)) b o
  all_room [] o all = 𝓛.laws.room_nil block_ty b o
  all_room (out ∷ cs) o all = absurd (all 0 out (let up : 0 < suc (length cs) = omega arith in up))
  all_room (bare ∷ cs) o all = qed 𝓛 (‵ (froom block_ty b o) ∷ ‵ (blocks_from b (o + 512) cs) ∷ [])
      ∵ move ! (1 ∷ []) $
      use1 𝓛 (‵ (froom (ty_array block_ty (length cs)) b (o + 512)))
      (all_room cs (o + 512) (λ k d l. all (suc k) d
      (let up : suc k < suc (length cs) = omega arith in up))) $ move ! (1 ∷ [])
      $ by ! (𝓛.laws.room_cons block_ty (length cs) b o)
  all_room (held ws ∷ cs) o all = qed 𝓛
      (‵ (part_at block_row full_share ws b o) ∷ ‵ (blocks_from b (o + 512) cs) ∷ []) ∵
      use1 𝓛 (‵ (froom block_ty b o)) (roomy ws o) $ move ! (1 ∷ []) $
      use1 𝓛 (‵ (froom (ty_array block_ty (length cs)) b (o + 512)))
      (all_room cs (o + 512) (λ k d l. all (suc k) d
      (let up : suc k < suc (length cs) = omega arith in up))) $ move ! (1 ∷ [])
      $ by ! (𝓛.laws.room_cons block_ty (length cs) b o)
