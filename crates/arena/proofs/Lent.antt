-- What a `&` to a tile shows. Assumes `Logic`.
use Rattle.std.proofs.Common.{ℕ, ◌+◌, ◌^◌, ◌<◌, List, [], ◌∷◌, refl}
use seplogic.Ra.Ura.{Ura}
use base.Logic.{ent, sep}
use base.Fml.{Lft, Share, fhide, fat, flft}
use mir.Syntax.{w32, ty_int}
use mir.Val.{Val, vint}
use denote.Builtin.{u32}
use denote.Copied.{uint_Copied}
use denote.Steps.{looks, shuts}
use types.Logic.{Logic, sem}
use types.Kit.{Goal, Soaks, Step, step, Seq, Item, ‵, ◌⊛◌, ◌$◌, ◌∵◌, !, qed, move, keep, drop, use1}
use types.Kit.{split, rewrite, fsplit, fjoin, feq_l, feq_i, flt_l, flt_i, done}
use denote.RattleType.{RattleType}
use denote.Memory.{hidden_shr, cell_at, part_at}
use denote.Opens.{Shut, unhide}
use denote.RawPtr.{RawPtr}
use denote.Struct.Struct.{Struct}
use denote.Struct.Owning.{shape}
use denote.Struct.Lending.{lent_at, lent_out}
use Rattle.arena.specs.Ownership.{block_row}
use Rattle.arena.specs.declared.region.Tile.{Tile}
use Rattle.arena.specs.contracts.region.Tile as C

-- the fields of a tile are a type of their own
abbrev Words : RattleType
Words = Struct (shape C.the_type)

-- a `&` to a tile shows the address of its block, and the words that are lent with it
pub shown : {M : Type 1} {𝓤 : Ura M} (𝓛 : Logic 𝓤) (κ : Lft) (d : Tile) (b o : ℕ)
    → ent 𝓤 (sem 𝓛 (hidden_shr C.the_row κ d b o))
    (sep 𝓤 (sem 𝓛 (hidden_shr RawPtr κ d.at b (o + 0))) (sem 𝓛 (lent_at block_row d.at d.words κ)))
shown 𝓛 κ d b o = qed 𝓛 (‵ (hidden_shr C.the_row κ d b o) ∷ []) ∵
    use1 𝓛 (‵ (hidden_shr Words κ (d.at, (d.number, tt)) b o) ⊛ ‵ (fhide (C.the_lent d d.at κ)))
    (lent_out 𝓛 C.struct C.the_codes C.the_heap C.the_lent κ d b o) $ split ! $
    unhide ! $ fsplit ! $ fsplit ! $ keep ! (0 ∷ 3 ∷ []) $ done !

-- a `&` to a tile shows its number
pub shown_number : {M : Type 1} {𝓤 : Ura M} (𝓛 : Logic 𝓤) (κ : Lft) (d : Tile) (b o : ℕ)
    → ent 𝓤 (sem 𝓛 (hidden_shr C.the_row κ d b o)) (sem 𝓛 (hidden_shr u32 κ d.number b (o + 8)))
shown_number 𝓛 κ d b o = qed 𝓛 (‵ (hidden_shr C.the_row κ d b o) ∷ []) ∵
    use1 𝓛 (‵ (hidden_shr Words κ (d.at, (d.number, tt)) b o) ⊛ ‵ (fhide (C.the_lent d d.at κ)))
    (lent_out 𝓛 C.struct C.the_codes C.the_heap C.the_lent κ d b o) $ split ! $
    unhide ! $ fsplit ! $ fsplit ! $ move ! (1 ∷ []) $ fsplit ! $ keep ! (0 ∷ []) $ done !

module _ {M : Type 1} {𝓤 : Ura M} {𝓛 : Logic 𝓤} {K : Type 0} {Γ : List (Item 𝓤)}
    {G : Goal 𝓤 𝓛.H} where
  -- a `u32` that a `&` refers to is read: [the word; the way back]
  pub half_in : K → Soaks G → {κ : Lft} {q : Share} (n b at : ℕ)
      → ((q' : Share) → n < 2 ^ 32
      → Seq K 𝓛 (‵ (fat q' (ty_int w32) b at (vint w32 n)) ∷ Shut 𝓛 κ q (part_at u32 q' n b at)
      ∷ Γ) G) → Seq K 𝓛 (‵ (hidden_shr u32 κ n b at) ∷ ‵ (flft κ q) ∷ Γ) G
  half_in t z n b at k =
      looks t z u32 (uint_Copied 𝓛 w32).opens n b at
      (λ q' vs. move t (1 ∷ []) $ fsplit t $ feq_l t (λ e. flt_l t (λ fn.
      rewrite t 0 (λ (us : List Val). ‵ (cell_at q' u32.mir us b at)) e refl $ move t (2 ∷ [])
      $ drop t $ k q' fn)))

  -- a `u32` that was looked at goes back to its `&`
  pub half_out : K → Soaks G → {κ : Lft} {q q' : Share} (n b at : ℕ) → n < 2 ^ 32
      → Step K 𝓛 (‵ (flft κ q) ∷ Γ) G
      (‵ (fat q' (ty_int w32) b at (vint w32 n)) ∷ Shut 𝓛 κ q (part_at u32 q' n b at) ∷ Γ) G
  half_out t z {q' = q'} n b at fn = step (λ s.
      flt_i t n (2 ^ 32) fn $ feq_i t (List Val) (vint w32 n ∷ []) (vint w32 n ∷ []) refl $ fjoin t
      $ move t (1 ∷ 0 ∷ []) $ shuts t z u32 q' n (vint w32 n ∷ []) b at $ s)
