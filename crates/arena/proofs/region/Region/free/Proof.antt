-- `free` gives the allocator its memory and its token. Assumes `Logic`.
use Rattle.std.proofs.Common.{◌≡◌, ℕ, ◌*◌, List, [], ◌∷◌, ◌++◌, refl, ap, ◌∙◌, arith, lit<}
use mir.Syntax.{Ty, Fn, Args, a_type, dcons, dnil, place, w32, ty_array}
use mir.Val.{Val, vptr, vunit, vint}
use mir.MapTy.{inst_fn}
use base.Logic.{SProp, id⊢}
use base.Fml.{Lft, Share, ftrue, flft, froom}
use prog.Capped.{capped_is}
use prog.Wp.{Env, WpFn}
use contract.BorrowLft.{◌⊑◌, ⊑_trans}
use contract.Monad.{fact}
use contract.Running.{tables}
use types.Kit.{‵, raw, ◌⊛◌, given, later, prop, settles, at_ret, ◌$◌, ◌∵◌, !, qed, by, move, drop}
use types.Kit.{use1, use3, split, split3, join, learn, rewrite, regoal, fsplit, fsplit3, fjoin}
use types.Kit.{feq_i, await}
use types.Part.{whole, sub}
use types.Run.{stop, fld, lit, unit_lit, of_opd, no_more, and_then, first, blocks, exec, returns}
use types.Run.{enter, un, bin}
use types.ByLocal.{alloc_all, pass_all, free_all, look_at, get, get_in, sets, lands_last, env}
use denote.RattleType.{RattleType, owns}
use denote.RawPtr.{Ptr, block_ptr}
use denote.Param.{param, bounded}
use denote.Signature.{types_at}
use denote.Steps.{nothing, heard}
use denote.Triple.Entry.{alive}
use denote.Triple.Call.{calls_at_last}
use denote.Triple.Walked.{Stays, stay_dropped, walk_of, Goes-dropped}
use Rattle.core.proofs.alloc.Calls.{Al, seen, Goes-blank, Gives, at_gives, Gives-goes, Gives-Gives}
use Rattle.core.proofs.alloc.Shapes.{after}
use Rattle.core.proofs.atomic.Steps.{fm}
use Rattle.std.proofs.raw_atomic.Walks.{proved_at, leaves}
use Rattle.arena.proofs.Walks.{slot_at, then_runs, out_of_block}
use Rattle.arena.proofs.Values.{region_val, region_told, lease_val, lease_told}
use Rattle.arena.specs.Blocks.{Home, IsHeld}
use Rattle.arena.specs.Ownership.{block_ty, region_ty}
use Rattle.arena.proofs.Parts.{all_room}
use Rattle.std.specs.List.{All}
use Rattle.std.proofs.Common.{◌^◌, ◌<◌, length, sym}
use Rattle.arena.specs.contracts.region.Region.free.{ended, clauses}
use Rattle.arena.specs.contracts.region.Region.free.Key.{name as #self}
use Rattle.arena.proofs.region.Region.free.Statement.{statement}
use Rattle.arena.proofs.region.Region.free.Code as compiled

-- the machine code of `free` does what its contract says
pub free_spec : {M : Type 1} → statement M
free_spec 𝓤 𝓛 𝓜 𝓡 wired A L g d dd met md =
    let H = 𝓛.H in
    let En₀ = ended A g d dd in
    let c₀ = clauses A g d dd 𝓛 𝓜.mem 𝓡.returns in
    let args : Args = bounded (a_type ∷ []) (A, tt) (dcons d (dcons dd dnil)) in
    let fn : Fn = inst_fn args compiled.function in
    let stays : Stays En₀.signature.params En₀.kept = (
      stay_dropped (slot_at 0 En₀.signature.params) En₀.kept.0,
      (
        stay_dropped (slot_at 1 En₀.signature.params) En₀.kept.1.0,
        (
          stay_dropped (slot_at 2 En₀.signature.params) En₀.kept.1.1.0,
          (stay_dropped (slot_at 3 En₀.signature.params) En₀.kept.1.1.1.0, tt),
        ),
      ),
    ) in
    let c = c₀ in
    let C = (tables 𝓤 H 𝓜 𝓡 𝓡.env).C in
    let Λ = (tables 𝓤 H 𝓜 𝓡 𝓡.env).Λ in
    proved_at 𝓛 En₀ stays c 𝓜 𝓡 (
      Goes-blank 𝓛 2 (slot_at 0 En₀.signature.params) En₀.kept.0 (λ κs x f. tt),
      (
        Goes-blank 𝓛 2 (slot_at 1 En₀.signature.params) En₀.kept.1.0 (λ κs x f. tt),
        (
          Goes-dropped 𝓛 2 (slot_at 2 En₀.signature.params) En₀.kept.1.1.0 (λ κs x f. refl),
          (Goes-dropped 𝓛 2 (slot_at 3 En₀.signature.params) En₀.kept.1.1.1.0 (λ κs x f. refl), tt),
        ),
      ),
    )
    (#self args) fn (compiled.unfolded 𝓤 H 𝓜 𝓡 wired (A, tt) d dd) (λ z are.
    let Post : Val → SProp 𝓤 = (walk_of 𝓛 En₀ stays c).post z in
    let a = z.0.3 in
    let vss = z.0.4 in
    let Y : Al = record { row = A; laws = L; g = g; d = d; drops = dd } in
    let κ : Lft = z.0.0.0 in
    let q : Share = z.0.1.0 in
    let Z : RattleType = param 0 A in
    let x = a.0 in
    let k = a.1.0 in
    let h = a.1.1.0.now in
    let handle = a.1.1.0.ref_ptr in
    let n = a.1.1.1.0 in
    let f32 : n < 2 ^ 32 = are.1.1.1.0.1 in
    let home : Home = x.home in
    let b = home.block in let o = home.start in
    let base : Ptr = block_ptr b o in
    let told : vss.0 ≡ region_val base ∷ [] = (region_told x.base vss.0 are.0.0).0
    ∙ ap (λ (p : Ptr). region_val p ∷ []) x.placed.0 in
    let τ : Ty = ty_array block_ty n in
    let First : Type 0 = (k.alloc ≡ h) × (k.home ≡ home) × (n ≡ home.count) in
    let Second : Type 0 = All IsHeld x.blocks in
    qed 𝓛 ((raw (alive 𝓛 En₀.signature z.0.0 z.0.1) ⊛ ‵
    (owns (types_at En₀.signature.params z.0.0) a vss))
    ∷ (raw (fact 𝓤 (z.0.0.1.0 ⊑ A.lives)) ⊛ raw (fact 𝓤 First) ⊛ raw (fact 𝓤 Second)) ∷ []) ∵
    move ! (1 ∷ []) $ split3 !
    $ heard ! (z.0.0.1.0 ⊑ A.lives)
    (λ le. heard ! First (λ asked. heard ! Second (λ all. split ! $ move ! (1 ∷ []) $
    let few = x.placed.1 in let counted = x.counted in let same = asked.2 in
    let count : length x.blocks ≡ n = omega arith in
    let f64 : n < 2 ^ 64 = omega arith in let far : n * 512 < 2 ^ 64 = omega arith in
    fsplit3 ! $ fsplit ! $ drop !
    $ use1 𝓛 (‵ (froom (ty_array block_ty (length x.blocks)) b o)) (all_room 𝓛 b x.blocks o all)
    $ rewrite ! 0 (λ (m : ℕ). ‵ (froom (ty_array block_ty m) b o)) count refl $
    move ! (1 ∷ []) $ fsplit ! $ drop ! $
    rewrite ! 0 (λ (u : A.Denot × Home).
    ‵ (g.dealloc_token u.0 (region_ty u.1) (block_ptr u.1.block u.1.start)))
    (λ i. (asked.0 i, asked.1 i)) refl $
    rewrite ! 0 (λ (m : ℕ). ‵ (g.dealloc_token h (ty_array block_ty m) base)) (sym same) refl $
    move ! (2 ∷ []) $ fsplit ! $ fsplit ! $ drop ! $ move ! (1 ∷ []) $ drop !
    $ use1 𝓛 (‵ (seen Y κ handle h)) (id⊢ 𝓤 _) $ move ! (3 ∷ [])
    $ use1 𝓛 (‵ (flft κ q) ⊛ ‵ (flft z.0.0.1.0 z.0.1.1.0) ⊛ ‵ ftrue) (id⊢ 𝓤 _) $ split !
    $ move ! (2 ∷ 0 ∷ []) $ join ! $ move ! (3 ∷ 2 ∷ []) $
    let y = at_gives Y 𝓛 𝓜.mem 𝓡.returns κ q handle h b o (n * 512) 8 τ in
    regoal ! (λ (us : List Val). prop (WpFn 𝓤 H C Λ fn us Post))
    (λ i. told i ++ ((lease_told vss.1.0 are.1.0.0).0 i
    ++ (are.1.1.0.0 i ++ (are.1.1.1.0.0 i ++ [])))) refl $
    enter ! C Λ fn (region_val base ∷ lease_val ∷ vptr handle.0 handle.1 ∷ vint w32 n ∷ []) Post $
    alloc_all ! (λ l. pass_all ! refl (
      (tt, (tt, tt)),
      ((tt, (tt, tt)), ((tt, tt), ((tt, record { fits = f32 }), tt))),
    )
    $ let En : Env 𝓤 𝓛.H = env fn.locals l in
    sets ! (of_opd ! (get_in ! (fld ! refl (stop !)) (sub ! 0 refl (whole !)))) refl (tt, tt) $
    first ! $ blocks ! $
    sets ! (of_opd ! (get ! refl)) refl (tt, tt) $
    sets ! (un ! (get ! refl) (record { fits = f64 })) refl (tt, record { fits = f64 }) $
    sets ! (bin ! (get ! refl) (lit ! tt) (record { fits = far })) refl (tt, record { fits = far })
    $
    use3 𝓛 (raw ((Gives Y 𝓛 𝓜.mem 𝓡.returns).pre y))
    (Gives-goes Y 𝓛 𝓜.mem 𝓡.returns κ q handle h (⊑_trans κ z.0.0.1.0 A.lives z.0.2.0 le) b o
    (n * 512) 8 τ (capped_is (n * 512) far) refl far (lit< tt)) $
    calls_at_last ! (fm 𝓛 𝓜 𝓡) (Gives Y 𝓛 𝓜.mem 𝓡.returns) (met.deallocate dd) y
    (and_then ! (get ! refl) (and_then ! (get ! refl)
    (and_then ! (get ! refl) (and_then ! (lit ! tt) (no_more !))))) (λ v.
    use1 𝓛 (later (given (v ≡ vunit) (‵ (flft κ q))))
    (Gives-Gives Y 𝓛 𝓜.mem 𝓡.returns κ q handle h b o (n * 512) 8 τ v) $ await ! tt
    $ learn ! (λ e. join !
    $ regoal ! (λ (u : Val). settles En (place 6 []) u
    (out_of_block 𝓛 (then_runs 𝓛 C Λ En (after 2 fn.body) (at_ret En Post)))) (e) refl
    $ lands_last ! refl (tt, tt) $
    exec ! C Λ En (after 2 fn.body) (at_ret En Post) $
    sets ! (of_opd ! (unit_lit !)) refl (tt, tt) $
    returns ! (look_at ! 0 refl) $ free_all ! refl $
    feq_i ! (List Val) (vunit ∷ []) (vunit ∷ []) refl $ nothing ! $ nothing ! $ nothing ! $ fjoin !
    $ nothing ! $ fjoin ! $ nothing ! $ fjoin ! $ nothing ! $ fjoin !
    $ move ! (3 ∷ 0 ∷ 2 ∷ 1 ∷ []) $
    by ! (leaves 𝓛 En₀ stays c z (vunit) (tt) (tt, (tt, (tt, (tt, tt))))
    (tt, (tt, (tt, (tt, tt))))))))))))
