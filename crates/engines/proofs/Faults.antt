-- The fault of a read that stopped.
use Rattle.std.proofs.Common.{◌≡◌, subst}
use Rattle.metric.specs.declared.fault.PbmFault.{PbmFault}
use Rattle.pbm.specs.declared.window.ImageStop.{ImageStop}
use Rattle.pbm.specs.declared.window.ImageStop.TheVariants.{Fault}
use Rattle.pbm.specs.Windows.{IsFaultOf}

-- what holds of the fault of a stop holds of the fault that the stop is
pub IsFaultOf-fault : (stop : ImageStop) (fault : PbmFault) (P : PbmFault → Type 0)
    → stop ≡ Fault fault → IsFaultOf stop P → P fault
IsFaultOf-fault stop fault P is holds =
    let of : IsFaultOf (Fault fault) P = subst (λ (s : ImageStop). IsFaultOf s P) is holds in of
