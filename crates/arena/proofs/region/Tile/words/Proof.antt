-- `words` returns the `&` to the words that a `&` to the tile holds. Assumes `Logic`.
use Rattle.std.proofs.Common.{◌≡◌, ◌+◌, ◌*◌, List, [], ◌∷◌, refl}
use mir.Syntax.{Fn, named}
use mir.Val.{Val, vptr}
use base.Logic.{SProp}
use base.Fml.{ftrue, flft}
use prog.Wp.{Env}
use contract.Running.{tables}
use types.Kit.{‵, ◌⊛◌, at_ret, ◌$◌, ◌∵◌, !, qed, move, keep, use1, drop, split, join, rewrite}
use types.Kit.{fsplit, fjoin, feq_i, suffices, done}
use types.Run.{look, hop, stop, fld, addr, of_opd, first, blocks, exec, returns, enter}
use types.ByLocal.{alloc_all, pass_all, free_all, look_at, get, through, sets, sets_last, env}
use denote.RattleType.{owns}
use denote.Memory.{hidden_shr}
use denote.RawPtr.{Ptr, RawPtr, block_ptr}
use denote.Ref.{shr_vals, shr_Tells}
use denote.Signature.{types_at}
use denote.Steps.{nothing}
use denote.Struct.Lending.{lent_at}
use denote.Triple.Walked.{says, Stays, stay_dropped, walk_of, ends_at, Goes-dropped}
use Rattle.core.proofs.alloc.Shapes.{after}
use Rattle.core.proofs.slots.Lent.{pointer_in, pointer_out}
use Rattle.std.proofs.raw_atomic.Walks.{proved}
use Rattle.arena.specs.Blocks.{Home}
use Rattle.arena.specs.Ownership.{block_row}
use Rattle.arena.proofs.Lent.{shown}
use Rattle.arena.proofs.Walks.{slot_at}
use Rattle.arena.specs.contracts.region.Tile as tile
use Rattle.arena.specs.contracts.region.Tile.words.{ended, clauses}
use Rattle.arena.specs.contracts.region.Tile.words.Key.{name as #self}
use Rattle.arena.proofs.region.Tile.words.Statement.{statement}
use Rattle.arena.proofs.region.Tile.words.Code as compiled

-- the machine code of `words` does what its contract says
pub words_spec : {M : Type 1} → statement M
words_spec 𝓤 𝓛 𝓜 𝓡 wired =
    let H = 𝓛.H in
    let c = clauses 𝓛 𝓜.mem 𝓡.returns in
    let fn : Fn = compiled.function in
    let stays : Stays ended.signature.params ended.kept =
    (stay_dropped (slot_at 0 ended.signature.params) ended.kept.0, tt) in
    let C = (tables 𝓤 H 𝓜 𝓡 𝓡.env).C in
    let Λ = (tables 𝓤 H 𝓜 𝓡 𝓡.env).Λ in
    proved 𝓛 ended stays c 𝓜 𝓡
    (Goes-dropped 𝓛 1 (slot_at 0 ended.signature.params) ended.kept.0 (λ κs x f. refl), tt) #self
    fn (compiled.unfolded 𝓤 H 𝓜 𝓡 wired)
    (λ κs. (shr_vals, tt)) (λ κs. (shr_Tells (named 0) κs.0 tile.the_row, tt))
    (λ κs qs bounds a g are.
    let κ = κs.0 in let q = qs.0 in
    let rb = a.0.ref_ptr.0 in let ro = a.0.ref_ptr.1 in let t = a.0.now in
    let h : Home = t.home in
    let b = h.block in let o = t.number * 512 + h.start in
    let here : t.at ≡ block_ptr b o = t.placed.0 in
    let y : (walk_of 𝓛 ended stays c).Ghost = ((κs, qs, bounds, a, (shr_vals a.0, tt)), g) in
    let Post : Val → SProp 𝓤 = (walk_of 𝓛 ended stays c).post y in
    qed 𝓛
    (((‵ (flft κ q) ⊛ ‵ ftrue) ⊛ ‵
    (owns (types_at ended.signature.params κs) a (shr_vals a.0, tt))) ∷ ‵ ftrue ∷ []) ∵
    move ! (1 ∷ []) $ drop ! $ split ! $ split ! $ move ! (2 ∷ []) $ fsplit ! $ fsplit ! $ drop ! $
    use1 𝓛 (‵ (hidden_shr RawPtr κ t.at rb (ro + 0)) ⊛ ‵ (lent_at block_row t.at t.words κ))
    (shown 𝓛 κ t rb ro) $ split ! $ move ! (1 ∷ []) $
    rewrite ! 0 (λ (p : Ptr). ‵ (lent_at block_row p t.words κ)) here refl $ fsplit ! $ drop ! $
    -- [the words that a `&` refers to; the pointer that one refers to; ..]
    keep ! (1 ∷ 3 ∷ 0 ∷ []) $
    enter ! C Λ fn (vptr rb ro ∷ []) Post
    $ alloc_all ! (λ l. pass_all ! refl ((tt, tt), tt) $ let En : Env 𝓤 𝓛.H = env fn.locals l in
    first ! $ blocks ! $ pointer_in ! tt t.at b o here rb (ro + 0) (λ q'.
    sets_last ! (addr ! (through ! refl (fld ! refl (hop ! (look ! 0 refl) (stop !))))) refl
    (tt, tt) $
    exec ! C Λ En (after 1 fn.body) (at_ret En Post) $
    pointer_out ! tt t.at b o here rb (ro + 0) $
    sets ! (of_opd ! (get ! refl)) refl (tt, tt) $
    returns ! (look_at ! 0 refl) $ free_all ! refl $
    suffices ! _ (ends_at 𝓛 ended stays c y (vptr b o) (record { ref_ptr = (b, o); now = t.words })
    (tt, tt) (tt, tt)) $ says ! refl $
    move ! (1 ∷ []) $ feq_i ! (List Val) (vptr b o ∷ []) (vptr b o ∷ []) refl $ fjoin ! $ nothing !
    $ nothing ! $ fjoin ! $ move ! (2 ∷ []) $ nothing ! $ move ! (1 ∷ 0 ∷ []) $ join ! $ done !)))
