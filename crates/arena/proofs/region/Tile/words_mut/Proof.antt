-- `words_mut` lends the words, and the tile follows them. Assumes `Logic`.
use Rattle.std.proofs.Common.{◌≡◌, ℕ, ◌+◌, ◌*◌, List, [], ◌∷◌, length, refl, sym, ap, ◌∙◌}
use seplogic.Ra.Ura.{Ura}
use mir.Syntax.{Fn, named}
use mir.Val.{Val, vptr}
use base.Fraction.{full_share}
use base.Logic.{SProp, ent, sep, id⊢}
use base.Fml.{GName, Fml, ftrue, fsep, flft}
use prog.Wp.{Env}
use contract.Running.{tables}
use types.Logic.{Logic, sem}
use types.Kit.{‵, raw, ◌⊛◌, some, later, at_ret, ◌$◌, ◌∵◌, !, qed, move, keep, use1, drop, split}
use types.Kit.{split3, join, pick, rewrite, fsplit, fsplit3, fjoin, fpack, group, frame, await}
use types.Kit.{suffices, done}
use types.Part.{whole, sub, look_in}
use types.Run.{hop, stop, fld, addr, of_opd, first, blocks, exec, returns, enter}
use types.ByLocal.{alloc_all, pass_all, free_all, look_at, get, through, sets, sets_last, env}
use denote.RattleType.{owns}
use denote.Memory.{part_at, part_of, mem, cell_at}
use denote.RawPtr.{Ptr, block_ptr, lies_at}
use denote.Laws.{shows}
use denote.Ref.{MutRef, mut_vals, mut_Tells}
use denote.Signature.{types_at, plain, mut_ref_to}
use denote.Steps.{opens, peeks, nothing}
use denote.Exit.{no}
use denote.Follow.{follows, Part, lends_Part}
use denote.Triple.Walked.{says, Stays, stay_dropped, walk_of, ends_at, Goes-spent_ref}
use Rattle.core.proofs.alloc.Shapes.{after}
use Rattle.std.proofs.raw_atomic.Walks.{proved}
use Rattle.arena.specs.Blocks.{Home}
use Rattle.arena.specs.Ownership.{block_row}
use Rattle.arena.specs.Lending.{with_words}
use Rattle.arena.specs.declared.region.Tile.{Tile}
use Rattle.arena.proofs.Parts.{sized}
use Rattle.arena.proofs.Walks.{learns}
use Rattle.arena.proofs.Values.{tile_val, tile_own, tile_told}
use Rattle.arena.specs.contracts.region.Tile.{the_row as T}
use Rattle.arena.specs.contracts.region.Tile.words_mut.{ended, clauses}
use Rattle.arena.specs.contracts.region.Tile.words_mut.Key.{name as #self}
use Rattle.arena.proofs.region.Tile.words_mut.Statement.{statement}
use Rattle.arena.proofs.region.Tile.words_mut.Code as compiled

module _ {M : Type 1} {𝓤 : Ura M} (𝓛 : Logic 𝓤) (h : Tile) (rb ro b o : ℕ) where
  abbrev word : List Val
  word = tile_val (block_ptr b o) h.number ∷ []

  -- all of the tile but its words
  abbrev Rest : Fml
  Rest = fsep (tile_own h.at h.number word) (cell_at full_share T.mir word rb ro)

  back : h.at ≡ block_ptr b o → (w : List ℕ)
      → ent 𝓤 (sep 𝓤 (sem 𝓛 ((mem block_row).own_at w b o)) (sem 𝓛 Rest))
      (sem 𝓛 ((mem T).own_at (with_words h w) rb ro))
  unfolding part_of
  back here w = qed 𝓛 (‵ (part_at block_row full_share w b o) ∷ ‵ Rest ∷ []) ∵ move ! (1 ∷ [])
      $ fsplit ! $ move ! (0 ∷ 2 ∷ []) $
      rewrite ! 1 (λ (p : Ptr). ‵ (lies_at block_row full_share p w)) (sym here) refl $ fjoin !
      $ move ! (1 ∷ 0 ∷ []) $ fjoin ! $
      fpack ! (List Val) (λ us. fsep (cell_at full_share T.mir us rb ro)
      (T.own_val (with_words h w) us)) word $ done !

-- the machine code of `words_mut` does what its contract says
pub words_mut_spec : {M : Type 1} → statement M
words_mut_spec 𝓤 𝓛 𝓜 𝓡 wired =
    let H = 𝓛.H in
    let c = clauses 𝓛 𝓜.mem 𝓡.returns in
    let fn : Fn = compiled.function in
    let stays : Stays ended.signature.params ended.kept =
    (stay_dropped (mut_ref_to (0 ∷ []) tt (plain (λ _. T))) no, tt) in
    let C = (tables 𝓤 H 𝓜 𝓡 𝓡.env).C in
    let Λ = (tables 𝓤 H 𝓜 𝓡 𝓡.env).Λ in
    proved 𝓛 ended stays c 𝓜 𝓡 (Goes-spent_ref 𝓛 1 (0 ∷ []) tt (plain (λ _. T)), tt) #self
    fn (compiled.unfolded 𝓤 H 𝓜 𝓡 wired)
    (λ κs. (mut_vals, tt)) (λ κs. (mut_Tells (named 0) κs.0 T, tt)) (λ κs qs bounds a g are.
    let κ = κs.0 in let q = qs.0 in
    let rb = a.0.ref_ptr.0 in let ro = a.0.ref_ptr.1 in let γ = a.0.ghost_name in let t = a.0.now in
    let h : Home = t.home in
    let b = h.block in let o = t.number * 512 + h.start in
    let here : t.at ≡ block_ptr b o = t.placed.0 in
    let y : (walk_of 𝓛 ended stays c).Ghost = ((κs, qs, bounds, a, (mut_vals a.0, tt)), g) in
    let Post : Val → SProp 𝓤 = (walk_of 𝓛 ended stays c).post y in
    qed 𝓛
    (((‵ (flft κ q) ⊛ ‵ ftrue) ⊛ ‵
    (owns (types_at ended.signature.params κs) a (mut_vals a.0, tt))) ∷ ‵ ftrue ∷ []) ∵
    move ! (1 ∷ []) $ drop ! $
    enter ! C Λ fn (vptr rb ro ∷ []) Post
    $ alloc_all ! (λ l. pass_all ! refl ((tt, tt), tt) $ let En : Env 𝓤 𝓛.H = env fn.locals l in
    split ! $ move ! (1 ∷ []) $ fsplit ! $ fsplit3 ! $ drop ! $ move ! (3 ∷ []) $ split !
    $ move ! (2 ∷ 3 ∷ 0 ∷ []) $
    opens ! tt T rb ro (λ us. move ! (1 ∷ []) $ peeks ! T _ (shows 𝓛 T) t us (λ is. fsplit ! $
    let told : us ≡ word 𝓛 t rb ro b o = (tile_told t.at t.number us is.0).0
    ∙ ap (λ (p : Ptr). tile_val p t.number ∷ []) here in
    rewrite ! 0 (λ (ws : List Val). ‵ (tile_own t.at t.number ws)) told refl
    $ rewrite ! 2 (λ (ws : List Val). ‵ (cell_at full_share T.mir ws rb ro)) told refl $
    rewrite ! 1 (λ (p : Ptr). ‵ (lies_at block_row full_share p t.words)) here refl $
    -- [what the fields own; the words; the tile's cell; the open borrow; obs; auth]
    move ! (1 ∷ []) $ learns ! 1 (length t.words ≡ 64) (sized 𝓛 b t.words o)
    (λ long. move ! (1 ∷ []) $
    first ! $ blocks ! $
    sets_last !
    (addr ! (through ! refl (fld ! refl (hop ! (look_in ! 2 (sub ! 0 refl (whole !))) (stop !)))))
    refl (tt, tt) $
    exec ! C Λ En (after 1 fn.body) (at_ret En Post) $
    sets ! (of_opd ! (get ! refl)) refl (tt, tt) $
    move ! (0 ∷ 2 ∷ []) $ fjoin ! $ move ! (2 ∷ 3 ∷ 4 ∷ 1 ∷ 0 ∷ []) $ group ! 5 $
    use1 𝓛
    (later
    (some (λ (γ' : GName). raw
    (Part 𝓛 T block_row (with_words t) (named 0) κ q rb ro b o γ (sem 𝓛 (Rest 𝓛 t rb ro b o))
    (back 𝓛 t rb ro b o here) t.words γ'))))
    (lends_Part 𝓛 T block_row (with_words t) (named 0) κ q rb ro b o γ (sem 𝓛 (Rest 𝓛 t rb ro b o))
    (back 𝓛 t rb ro b o here) (T.coded.code t) (T.coded.code t) t.words) $ await ! tt
    $ pick ! (λ γ'.
    returns ! (look_at ! 0 refl) $ free_all ! refl $
    keep ! (0 ∷ [])
    $ use1 𝓛
    (‵ ((MutRef (named 0) κ block_row).own_val
    (record { ref_ptr = (b, o); ghost_name = γ'; now = t.words }) (vptr b o ∷ [])) ⊛ ‵
    (flft κ q) ⊛ ‵ (follows T block_row γ γ' (with_words t))) (id⊢ 𝓤 _) $ split3 ! $
    suffices ! _ (ends_at 𝓛 ended stays c y (vptr b o)
    (record { ref_ptr = (b, o); ghost_name = γ'; now = t.words }) (tt, tt) (tt, tt)) $
    nothing ! $ nothing ! $ fjoin ! $ join ! $ nothing ! $ move ! (2 ∷ 0 ∷ []) $ join ! $ join !
    $ frame ! $ says ! (refl, long) $ done !))))))
