-- The front block leaves the free list, and the number in its first word is the new front.
use Rattle.std.proofs.Common.{◌^◌, ◌<◌, ◌-◌, ℕ, List, ◌∷◌, get_or, sym, ap, subst, ◌∙◌}
use Rattle.arena.specs.Blocks.{Home}
use Rattle.arena.specs.Chain.{Pool, chain, IsArena}
use Rattle.arena.proofs.Chains.{take_whole, take_gives, take_fits}
use Rattle.arena.proofs.arena.Arena.take.Goals as goal

pub overflow_cast-self : goal.overflow_cast-self
overflow_cast-self c = let post = c.replace_with-tile.ensures in
    record {
      fits = subst (λ (ws : List ℕ). get_or ws 0 0 < 2 ^ 32) (sym c.words.ensures)
          (take_fits _ _ _ c.self.invariant.0 c.if-self-eq0.false _ post.1.1);
    }

pub invariant_of-self : goal.invariant_of-self
invariant_of-self c = let post = c.replace_with-tile.ensures in (
  subst (λ (ws : List ℕ). IsArena c.replace_with-tile.new.dest.blocks (get_or ws 0 0)
      (c.self.inside.free - 1)) (sym c.words.ensures)
      (take_whole _ _ _ c.self.invariant.0 c.if-self-eq0.false _ post.1.1 _ post.0.1),
  (
    c.self.invariant.1.0 ∙ sym post.0.0,
    c.self.invariant.1.1
        ∙ ap (λ (h : Home). h.count) (sym post.0.0),
  ),
  c.self.invariant.2,
)

pub returns : goal.returns
returns c =
    let post = c.replace_with-tile.ensures in let view = c.self.view_is in (
      post.1.0.0 ∙ ap (λ (p : Pool). p.home) view,
      post.0.0 ∙ ap (λ (p : Pool). p.home) view,
      sym (ap (λ (p : Pool). p.free) view)
          ∙ take_gives _ _ _ c.self.invariant.0 c.if-self-eq0.false _ post.1.1 _ post.0.1
          ∙ (λ i. sym post.1.0.1 i ∷ chain c.replace_with-tile.new.dest.blocks
          (get_or (sym c.words.ensures i) 0 0) (c.self.inside.free - 1)),
    )
