-- Words that are 0 have no obstacle.
use Rattle.std.proofs.Common.{◌≡◌, length, vec_len, ◌∙◌, rules}
use Rattle.bits.proofs.BandLemmas.{IsKept-none}
use Rattle.bits.proofs.bitmap.Bitmap.clear.Goals as goal

pub invariant_of-self : goal.invariant_of-self
invariant_of-self c =
    let len : vec_len c.self.inside.words ≡ length c.self.inside.words.items = search rules in
    IsKept-none c.self.inside.width c.self.inside.height
    (vec_len c.self.inside.words) _ _ c.self.invariant.stored.width_is
    c.self.invariant.stored.height_is
    (c.fill.ensures.items (λ y is. is)) (len ∙ c.self.invariant.stored.as_many)
