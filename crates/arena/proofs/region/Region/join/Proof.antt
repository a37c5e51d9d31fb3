-- `join` takes a block back. Assumes `Logic`.
use Rattle.std.proofs.Common.{◌≡◌, ◌+◌, ◌*◌, ◌<◌, List, [], ◌∷◌, ◌++◌, refl, ap, ◌∙◌, length}
use Rattle.std.proofs.Common.{get_or, set, length-set, subst, arith}
use Rattle.arena.specs.Blocks.{out, held, Home}
use mir.Syntax.{Fn}
use mir.Val.{Val}
use base.Fraction.{full_share}
use base.Logic.{SProp, emp}
use prog.Wp.{WpFn}
use contract.Monad.{fact, fact_i}
use contract.Running.{tables}
use types.Kit.{‵, raw, ◌⊛◌, prop, ◌$◌, ◌∵◌, !, qed, by, move, use0, use2, keep, drop, rewrite}
use types.Kit.{split, join, regoal, fsplit, fjoin}
use types.Part.{whole, sub, agg}
use types.Run.{stop, fld, of_opd, no_more, and_then, returns, enter}
use types.ByLocal.{alloc_all, pass_all, free_all, look_at, get, get_in, sets}
use denote.RattleType.{owns}
use denote.RawPtr.{Ptr, block_ptr}
use denote.Signature.{types_at}
use denote.Steps.{nothing, heard}
use denote.Triple.Entry.{alive}
use denote.Triple.Walked.{Stays, stay_dropped, walk_of}
use Rattle.core.proofs.alloc.Calls.{Goes-blank}
use Rattle.std.proofs.raw_atomic.Walks.{proved_at, leaves}
use Rattle.std.specs.Ptr.{lies_at}
use Rattle.arena.specs.Ownership.{block_row, blocks_from}
use Rattle.arena.proofs.Values.{region_val, region_own, region_told, region_made, tile_val}
use Rattle.arena.proofs.Values.{tile_told}
use Rattle.arena.proofs.Parts.{block_in, was_out}
use Rattle.arena.proofs.Walks.{slot_at, learns}
use Rattle.arena.specs.contracts.region.Region as region
use Rattle.arena.specs.contracts.region.Region.join.{ended, clauses}
use Rattle.arena.specs.contracts.region.Region.join.Key.{name as #self}
use Rattle.arena.proofs.region.Region.join.Statement.{statement}
use Rattle.arena.proofs.region.Region.join.Code as compiled

-- the machine code of `join` does what its contract says
pub join_spec : {M : Type 1} → statement M
join_spec 𝓤 𝓛 𝓜 𝓡 wired =
    let H = 𝓛.H in
    let En₀ = ended in
    let c = clauses 𝓛 𝓜.mem 𝓡.returns in
    let fn : Fn = compiled.function in
    let stays : Stays En₀.signature.params En₀.kept = (
      stay_dropped (slot_at 0 En₀.signature.params) En₀.kept.0,
      (stay_dropped (slot_at 1 En₀.signature.params) En₀.kept.1.0, tt),
    ) in
    let C = (tables 𝓤 H 𝓜 𝓡 𝓡.env).C in
    let Λ = (tables 𝓤 H 𝓜 𝓡 𝓡.env).Λ in
    proved_at 𝓛 En₀ stays c 𝓜 𝓡 (
      Goes-blank 𝓛 0 (slot_at 0 En₀.signature.params) En₀.kept.0 (λ κs x f. tt),
      (Goes-blank 𝓛 0 (slot_at 1 En₀.signature.params) En₀.kept.1.0 (λ κs x f. tt), tt),
    ) #self
    fn (compiled.unfolded 𝓤 H 𝓜 𝓡 wired) (λ z are.
    let Post : Val → SProp 𝓤 = (walk_of 𝓛 En₀ stays c).post z in
    let a = z.0.3 in
    let vss = z.0.4 in
    let r = a.0 in
    let t = a.1.0 in
    let h : Home = r.home in
    let b = h.block in
    let base : Ptr = block_ptr b h.start in
    let n = t.number in
    let Asked : Type 0 = t.home ≡ h in
    let told : vss.0 ≡ region_val base ∷ [] = (region_told r.base vss.0 are.0.0).0
    ∙ ap (λ (p : Ptr). region_val p ∷ []) r.placed.0 in
    let told2 = tile_told t.at n vss.1.0 are.1.0.0 in
    qed 𝓛 ((raw (alive 𝓛 En₀.signature z.0.0 z.0.1) ⊛ ‵
    (owns (types_at En₀.signature.params z.0.0) a vss)) ∷ raw (fact 𝓤 Asked) ∷ [])
    ∵ move ! (1 ∷ []) $ heard ! Asked (λ asked. split ! $ move ! (1 ∷ []) $
    let here : t.at ≡ block_ptr b (n * 512 + h.start) = t.placed.0
    ∙ ap (λ (u : Home). block_ptr u.block (n * 512 + u.start)) asked in
    let under : n < h.count = subst (λ (u : Home). n < u.count) asked t.placed.1 in
    let same = r.counted in
    let inside : n < length r.blocks = omega arith in
    let ws = t.words in
    fsplit ! $ fsplit ! $ drop ! $ move ! (1 ∷ []) $ fsplit ! $ fsplit ! $ drop !
    $ keep ! (0 ∷ 2 ∷ 3 ∷ []) $
    rewrite ! 0 (λ (p : Ptr). ‵ (lies_at block_row full_share p ws)) here refl $
    -- [the tile's block; the region's blocks; the rest]
    learns ! 2 (get_or r.blocks n out ≡ out) (was_out 𝓛 b r.blocks n h.start inside 𝓜 ws) (λ gone.
    use2 𝓛 (‵ (blocks_from b h.start (set r.blocks n (held ws))))
    (block_in 𝓛 b r.blocks n h.start inside ws) $
    regoal ! (λ (us : List Val). prop (WpFn 𝓤 H C Λ fn us Post))
    (λ i. told i ++ ((told2.0 ∙ ap (λ (p : Ptr). tile_val p n ∷ []) here) i ++ [])) refl $
    enter ! C Λ fn (region_val base ∷ tile_val (block_ptr b (n * 512 + h.start)) n ∷ []) Post $
    alloc_all ! (λ l. pass_all ! refl (
      (tt, (tt, tt)),
      ((tt, (tt, (record { fits = told2.1 }, tt))), tt),
    ) $
    sets ! (of_opd ! (get_in ! (fld ! refl (stop !)) (sub ! 0 refl (whole !)))) refl (tt, tt) $
    sets ! (agg ! (and_then ! (get ! refl) (no_more !))) refl (tt, (tt, tt)) $
    returns ! (look_at ! 0 refl) $ free_all ! refl $
    let y : (region.the_row).Denot =
    record {
      base = base;
      home = h;
      blocks = set r.blocks n (held ws);
      placed = (refl, r.placed.1);
      counted = length-set r.blocks n (held ws) ∙ same;
    } in
    use0 𝓛 (‵ (region_own base (region_val base ∷ []))) (region_made 𝓛 base) $ fjoin ! $
    use0 𝓛 (raw (fact 𝓤 (get_or r.blocks n out ≡ out)))
    (fact_i 𝓤 (get_or r.blocks n out ≡ out) (emp 𝓤) gone) $
    use0 𝓛 (raw (fact 𝓤 ((h ≡ h) × (y.blocks ≡ y.blocks))))
    (fact_i 𝓤 ((h ≡ h) × (y.blocks ≡ y.blocks)) (emp 𝓤) (refl, refl)) $ join ! $
    nothing ! $ nothing ! $ fjoin ! $ nothing ! $ fjoin ! $ move ! (3 ∷ 0 ∷ 2 ∷ 1 ∷ []) $
    by ! (leaves 𝓛 En₀ stays c z (region_val base) y (tt, (tt, tt)) (tt, (tt, tt)))))))
