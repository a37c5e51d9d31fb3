-- Two nearest obstacles have keys of which each is at most the other.
use Rattle.metric.proofs.NearestLemmas.{IsNear-one}
use Rattle.bits.specs.Edges.{IsBlocked}
use Rattle.bits.proofs.laws.one_nearest.Goals as goal

pub returns : goal.returns
returns c = λ distance cells edge x y p q one other.
    IsNear-one distance (IsBlocked cells edge) x y p q one other
