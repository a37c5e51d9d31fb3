-- A header that was read has sides that a bitmap may have, and none asks for memory.
use Rattle.std.proofs.Common.{◌≡◌}
use Rattle.std.proofs.lemmas.Result.{err_from_is_err_and}
use Rattle.metric.specs.declared.fault.PbmFault.TheVariants.{Memory}
use Rattle.pbm.proofs.Headers.{header-read, header-memory}
use Rattle.pbm.proofs.image.read_front.Goals as goal

pub returns-in_err-header-clause-memory : goal.returns-in_err-header-clause-memory
returns-in_err-header-clause-memory c = λ is.
    let p = err_from_is_err_and c.from_residual.result c.from_residual.ensures.1 in
    let same : c.in_err-header.field-0.0 ≡ Memory = cc (p.1, p.2, is) in
    absurd (header-memory c.args.bytes.now c.in_err-header.field-0.0 c.in_err-header.ensures same)

pub blank-requires-clause-width : goal.blank-requires-clause-width
blank-requires-clause-width c = (header-read c.args.bytes.now _ c.in_ok-header.ensures).width_side

pub blank-requires-clause-height : goal.blank-requires-clause-height
blank-requires-clause-height c = (header-read c.args.bytes.now _ c.in_ok-header.ensures).height_side
