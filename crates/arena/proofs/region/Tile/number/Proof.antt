-- `number` reads the field of the tile that a `&` refers to. Assumes `Logic`.
use Rattle.std.proofs.Common.{◌≡◌, ◌+◌, ◌*◌, ◌^◌, List, [], ◌∷◌, refl}
use mir.Syntax.{Fn, named, w32}
use mir.Val.{Val, vptr, vint}
use denote.Builtin.{u32}
use base.Logic.{SProp}
use base.Fml.{ftrue, flft}
use prog.Wp.{Env}
use contract.Running.{tables}
use types.Kit.{‵, ◌⊛◌, ◌$◌, ◌∵◌, !, qed, move, keep, use1, drop, split, join, fsplit, fjoin, feq_i}
use types.Kit.{flt_i, suffices, done}
use types.Run.{look, stop, fld, of_opd, load, returns, enter}
use types.ByLocal.{alloc_all, pass_all, free_all, look_at, through, sets, env}
use denote.RattleType.{owns}
use denote.Memory.{hidden_shr}
use denote.RawPtr.{block_ptr}
use denote.Ref.{shr_vals, shr_Tells}
use denote.Signature.{types_at}
use denote.Steps.{nothing}
use denote.Triple.Walked.{says, Stays, stay_dropped, walk_of, ends_at, Goes-dropped}
use Rattle.std.proofs.raw_atomic.Walks.{proved}
use Rattle.arena.specs.Blocks.{Home}
use Rattle.arena.proofs.Lent.{shown_number, half_in, half_out}
use Rattle.arena.proofs.Walks.{slot_at}
use Rattle.arena.specs.contracts.region.Tile as tile
use Rattle.arena.specs.contracts.region.Tile.number.{ended, clauses}
use Rattle.arena.specs.contracts.region.Tile.number.Key.{name as #self}
use Rattle.arena.proofs.region.Tile.number.Statement.{statement}
use Rattle.arena.proofs.region.Tile.number.Code as compiled

-- the machine code of `number` does what its contract says
pub number_spec : {M : Type 1} → statement M
number_spec 𝓤 𝓛 𝓜 𝓡 wired =
    let H = 𝓛.H in
    let c = clauses 𝓛 𝓜.mem 𝓡.returns in
    let fn : Fn = compiled.function in
    let stays : Stays ended.signature.params ended.kept =
    (stay_dropped (slot_at 0 ended.signature.params) ended.kept.0, tt) in
    let C = (tables 𝓤 H 𝓜 𝓡 𝓡.env).C in
    let Λ = (tables 𝓤 H 𝓜 𝓡 𝓡.env).Λ in
    proved 𝓛 ended stays c 𝓜 𝓡
    (Goes-dropped 𝓛 1 (slot_at 0 ended.signature.params) ended.kept.0 (λ κs x f. refl), tt) #self
    fn (compiled.unfolded 𝓤 H 𝓜 𝓡 wired)
    (λ κs. (shr_vals, tt)) (λ κs. (shr_Tells (named 0) κs.0 tile.the_row, tt))
    (λ κs qs bounds a g are.
    let κ = κs.0 in let q = qs.0 in
    let rb = a.0.ref_ptr.0 in let ro = a.0.ref_ptr.1 in let t = a.0.now in
    let h : Home = t.home in
    let b = h.block in let o = t.number * 512 + h.start in
    let here : t.at ≡ block_ptr b o = t.placed.0 in
    let y : (walk_of 𝓛 ended stays c).Ghost = ((κs, qs, bounds, a, (shr_vals a.0, tt)), g) in
    let Post : Val → SProp 𝓤 = (walk_of 𝓛 ended stays c).post y in
    qed 𝓛
    (((‵ (flft κ q) ⊛ ‵ ftrue) ⊛ ‵
    (owns (types_at ended.signature.params κs) a (shr_vals a.0, tt))) ∷ ‵ ftrue ∷ []) ∵
    move ! (1 ∷ []) $ drop ! $ split ! $ split ! $ move ! (2 ∷ []) $ fsplit ! $ fsplit ! $ drop ! $
    use1 𝓛 (‵ (hidden_shr u32 κ t.number rb (ro + 8))) (shown_number 𝓛 κ t rb ro)
    $ keep ! (0 ∷ 2 ∷ []) $
    enter ! C Λ fn (vptr rb ro ∷ []) Post
    $ alloc_all ! (λ l. pass_all ! refl ((tt, tt), tt) $ let En : Env 𝓤 𝓛.H = env fn.locals l in
    half_in ! tt t.number rb (ro + 8) (λ q' fits.
    sets ! (of_opd ! (load ! (through ! refl (fld ! refl (stop !))) (look ! 0 refl))) refl
    (tt, record { fits = fits }) $
    half_out ! tt t.number rb (ro + 8) fits $
    returns ! (look_at ! 0 refl) $ free_all ! refl $
    suffices ! _ (ends_at 𝓛 ended stays c y (vint w32 t.number) t.number (tt, tt) (tt, tt))
    $ says ! refl $
    flt_i ! t.number (2 ^ 32) fits
    $ feq_i ! (List Val) (vint w32 t.number ∷ []) (vint w32 t.number ∷ []) refl $ fjoin !
    $ nothing ! $ nothing ! $ fjoin ! $ move ! (2 ∷ []) $ nothing ! $ move ! (1 ∷ 0 ∷ []) $ join !
    $ done !)))
