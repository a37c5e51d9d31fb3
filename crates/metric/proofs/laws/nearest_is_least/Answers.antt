-- The least key has the least distance.
use Rattle.std.proofs.Common.{◌≡◌, true}
use Rattle.metric.proofs.NearestLemmas.{IsNear-least}
use Rattle.metric.proofs.laws.nearest_is_least.Goals as goal

pub returns : goal.returns
returns c = λ distance test x y near nearest.
    IsNear-least distance (λ a b. test a b ≡ true) x y near nearest
