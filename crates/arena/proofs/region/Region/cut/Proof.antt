-- `cut` lets a block go, as a tile. Assumes `Logic`.
use Rattle.std.proofs.Common.{◌≡◌, ℕ, ◌^◌, ◌+◌, ◌*◌, ◌<◌, List, [], ◌∷◌, ◌++◌, refl, ap, ◌∙◌}
use Rattle.std.proofs.Common.{length, get_or, set, length-set, arith}
use Rattle.arena.specs.Blocks.{out, held, Home}
use mir.Syntax.{Fn, w32}
use mir.Val.{Val, vint}
use base.Fraction.{full_share}
use base.Logic.{SProp, emp}
use prog.Wp.{Env, WpFn}
use contract.Monad.{fact, fact_i}
use contract.Running.{tables}
use types.Kit.{‵, raw, ◌⊛◌, prop, ◌$◌, ◌∵◌, !, qed, by, move, drop, use0, use1, use2, split, join}
use types.Kit.{at_ret, regoal, fsplit, fjoin}
use types.Part.{whole, sub, agg}
use types.Run.{stop, fld, lit, un, bin, of_opd, no_more, and_then, first, blocks, exec, returns}
use types.Run.{enter}
use types.ByLocal.{alloc_all, pass_all, free_all, look_at, get, get_in, sets, sets_last, env}
use denote.RattleType.{owns}
use denote.RawPtr.{Ptr, block_ptr}
use denote.Memory.{part_at}
use denote.Signature.{types_at}
use denote.Steps.{nothing, heard}
use denote.Triple.Entry.{alive}
use denote.Triple.Walked.{Stays, stay_dropped, walk_of, Goes-dropped}
use Rattle.core.proofs.alloc.Calls.{Goes-blank}
use Rattle.std.proofs.raw_atomic.Walks.{proved_at, leaves}
use Rattle.arena.specs.Ownership.{block_row, blocks_from}
use Rattle.arena.proofs.Values.{region_val, region_own, region_told, region_made, tile_val}
use Rattle.arena.proofs.Values.{tile_own, tile_made}
use Rattle.arena.proofs.Parts.{block_out, some_inside}
use Rattle.arena.proofs.Walks.{slot_at}
use Rattle.arena.specs.contracts.region.Region as region
use Rattle.arena.specs.contracts.region.Tile as tile
use Rattle.std_alloc.proofs.Pairs.{pair_of, pair_val}
use Rattle.core.proofs.alloc.Shapes.{after}
use denote.Struct.Tuple.{Tuple}
use Rattle.arena.specs.contracts.region.Region.cut.{ended, clauses}
use Rattle.arena.specs.contracts.region.Region.cut.Key.{name as #self}
use Rattle.arena.proofs.region.Region.cut.Statement.{statement}
use Rattle.arena.proofs.region.Region.cut.Code as compiled

-- the machine code of `cut` does what its contract says
pub cut_spec : {M : Type 1} → statement M
cut_spec 𝓤 𝓛 𝓜 𝓡 wired =
    let H = 𝓛.H in
    let En₀ = ended in
    let c = clauses 𝓛 𝓜.mem 𝓡.returns in
    let fn : Fn = compiled.function in
    let stays : Stays En₀.signature.params En₀.kept = (
      stay_dropped (slot_at 0 En₀.signature.params) En₀.kept.0,
      (stay_dropped (slot_at 1 En₀.signature.params) En₀.kept.1.0, tt),
    ) in
    let C = (tables 𝓤 H 𝓜 𝓡 𝓡.env).C in
    let Λ = (tables 𝓤 H 𝓜 𝓡 𝓡.env).Λ in
    proved_at 𝓛 En₀ stays c 𝓜 𝓡 (
      Goes-blank 𝓛 0 (slot_at 0 En₀.signature.params) En₀.kept.0 (λ κs x f. tt),
      (Goes-dropped 𝓛 0 (slot_at 1 En₀.signature.params) En₀.kept.1.0 (λ κs x f. refl), tt),
    ) #self
    fn (compiled.unfolded 𝓤 H 𝓜 𝓡 wired) (λ z are.
    let Post : Val → SProp 𝓤 = (walk_of 𝓛 En₀ stays c).post z in
    let a = z.0.3 in
    let vss = z.0.4 in
    let r = a.0 in
    let n = a.1.0 in
    let fn32 : n < 2 ^ 32 = are.1.0.1 in
    let h : Home = r.home in
    let b = h.block in
    let base : Ptr = block_ptr b h.start in
    let Asked : Type 0 = (ws : List ℕ) × (get_or r.blocks n out ≡ held ws) in
    let told : vss.0 ≡ region_val base ∷ [] = (region_told r.base vss.0 are.0.0).0
    ∙ ap (λ (p : Ptr). region_val p ∷ []) r.placed.0 in
    qed 𝓛 ((raw (alive 𝓛 En₀.signature z.0.0 z.0.1) ⊛ ‵
    (owns (types_at En₀.signature.params z.0.0) a vss)) ∷ raw (fact 𝓤 Asked) ∷ [])
    ∵ move ! (1 ∷ []) $ heard ! Asked (λ asked. split ! $ move ! (1 ∷ []) $
    let ws = asked.0 in
    let inside : n < length r.blocks = some_inside r.blocks n ws asked.1 in
    let same = r.counted in
    let few = r.placed.1 in
    let at : Ptr = block_ptr b (n * 512 + h.start) in
    let f64 : n < 2 ^ 64 = omega arith in let far : n * 512 < 2 ^ 64 = omega arith in
    fsplit ! $ fsplit ! $ drop ! $ move ! (1 ∷ []) $ drop ! $
    use1 𝓛 (‵ (part_at block_row full_share ws b (n * 512 + h.start)) ⊛ ‵
    (blocks_from b h.start (set r.blocks n out)))
    (block_out 𝓛 b r.blocks n h.start inside ws asked.1) $ split ! $
    -- [the block; the other blocks; the rest]
    regoal ! (λ (us : List Val). prop (WpFn 𝓤 H C Λ fn us Post))
    (λ i. told i ++ (are.1.0.0 i ++ [])) refl $
    enter ! C Λ fn (region_val base ∷ vint w32 n ∷ []) Post $
    alloc_all ! (λ l. pass_all ! refl ((tt, (tt, tt)), ((tt, record { fits = fn32 }), tt))
    $ let En : Env 𝓤 𝓛.H = env fn.locals l in
    sets ! (of_opd ! (get_in ! (fld ! refl (stop !)) (sub ! 0 refl (whole !)))) refl (tt, tt) $
    first ! $ blocks ! $
    sets ! (un ! (get ! refl) (record { fits = f64 })) refl (tt, record { fits = f64 }) $
    sets ! (bin ! (get ! refl) (lit ! tt) (record { fits = far })) refl (tt, record { fits = far })
    $
    sets_last ! (bin ! (get ! refl) (get ! refl) tt) refl (tt, tt) $
    exec ! C Λ En (after 2 fn.body) (at_ret En Post) $
    sets ! (of_opd ! (get ! refl)) refl (tt, tt) $
    sets ! (agg ! (and_then ! (get ! refl) (no_more !))) refl (tt, (tt, tt)) $
    sets ! (agg ! (and_then ! (get ! refl) (and_then ! (get ! refl) (no_more !)))) refl
    (tt, (tt, (record { fits = fn32 }, tt))) $
    sets ! (agg ! (and_then ! (get ! refl) (and_then ! (get ! refl) (no_more !)))) refl
    (tt, ((tt, tt), ((tt, (record { fits = fn32 }, tt)), tt))) $
    returns ! (look_at ! 0 refl) $ free_all ! refl $
    let y : (region.the_row).Denot =
    record {
      base = base;
      home = h;
      blocks = set r.blocks n out;
      placed = (refl, few);
      counted = length-set r.blocks n out ∙ same;
    } in
    let t : (tile.the_row).Denot =
    record { at = at; number = n; home = h; words = ws; placed = (refl, omega arith) } in
    use0 𝓛 (‵ (tile_own at n (tile_val at n ∷ []))) (tile_made 𝓛 at n fn32) $ fjoin !
    $ move ! (1 ∷ []) $
    use0 𝓛 (‵ (region_own base (region_val base ∷ []))) (region_made 𝓛 base) $ fjoin ! $
    use2 𝓛
    (‵ ((Tuple (region.the_row ∷ tile.the_row ∷ [])).own_val (y, t)
    (pair_val (region_val base) (tile_val at n) ∷ [])))
    (pair_of 𝓛 region.the_row tile.the_row y t (region_val base) (tile_val at n)) $
    use0 𝓛 (raw (fact 𝓤 (get_or r.blocks n out ≡ held ws)))
    (fact_i 𝓤 (get_or r.blocks n out ≡ held ws) (emp 𝓤) asked.1) $
    use0 𝓛 (raw (fact 𝓤 ((h ≡ h) × (n ≡ n)))) (fact_i 𝓤 ((h ≡ h) × (n ≡ n)) (emp 𝓤) (refl, refl))
    $ join ! $
    use0 𝓛 (raw (fact 𝓤 ((h ≡ h) × (y.blocks ≡ y.blocks))))
    (fact_i 𝓤 ((h ≡ h) × (y.blocks ≡ y.blocks)) (emp 𝓤) (refl, refl)) $ join ! $
    nothing ! $ nothing ! $ fjoin ! $ nothing ! $ fjoin ! $ move ! (3 ∷ 0 ∷ 2 ∷ 1 ∷ []) $
    by ! (leaves 𝓛 En₀ stays c z (pair_val (region_val base) (tile_val at n)) (y, t) (tt, (tt, tt))
    (tt, (tt, tt))))))
