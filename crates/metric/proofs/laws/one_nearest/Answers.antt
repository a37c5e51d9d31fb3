-- Two nearest obstacles have keys of which each is at most the other.
use Rattle.std.proofs.Common.{◌≡◌, true}
use Rattle.metric.proofs.NearestLemmas.{IsNear-one}
use Rattle.metric.proofs.laws.one_nearest.Goals as goal

pub returns : goal.returns
returns c = λ distance test x y p q one other.
    IsNear-one distance (λ a b. test a b ≡ true) x y p q one other
