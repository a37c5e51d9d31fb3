-- The block becomes the front of the free list, and its first word holds the number of the front
-- before it.
use Rattle.std.proofs.Common.{◌≡◌, ◌<◌, ◌+◌, ℕ, length, sym, ap, subst, ◌∙◌, arith}
use Rattle.std.proofs.lemmas.List.{get_or-set_same}
use Rattle.arena.specs.Blocks.{Home}
use Rattle.arena.specs.Chain.{Pool, IsArena}
use Rattle.arena.proofs.Chains.{give_whole}
use Rattle.arena.proofs.arena.Arena.give.Goals as goal

pub invariant_of-self : goal.invariant_of-self
invariant_of-self c =
    let post = c.replace_with.ensures in let value = c.words_mut.ensures.value in
    let home : c.args.tile.home ≡ c.self.inside.region.home = c.requires
    ∙ sym (ap (λ (p : Pool). p.home) c.self.view_is) in
    let below : c.args.tile.number < length c.self.inside.region.blocks =
    subst (λ (n : ℕ). c.args.tile.number < n)
    (ap (λ (h : Home). h.count) home ∙ sym c.self.inside.region.counted) c.args.tile.placed.1 in
    let long : 0 < length c.words_mut.result.now =
    subst (λ (n : ℕ). 0 < n) (sym value.1) (omega arith) in
    let links = get_or-set_same c.words_mut.result.now 0 c.from.result 0 long ∙ c.from.ensures in (
      subst (λ (k : ℕ). IsArena c.replace_with.new.dest.blocks k (c.self.inside.free + 1))
          (sym c.number-number.ensures)
          (give_whole _ _ _ c.self.invariant.0 c.args.tile.number _ below post.1 links _
          (c.self.inside.free + 1) post.0.1 (omega arith)),
      (
        c.self.invariant.1.0 ∙ sym post.0.0,
        c.self.invariant.1.1
            ∙ ap (λ (h : Home). h.count) (sym post.0.0),
      ),
      c.self.invariant.2,
    )
