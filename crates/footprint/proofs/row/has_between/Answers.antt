-- A mask of ones from the first place on.
use Rattle.std.proofs.Common.{◌≤◌, ◌-◌, ◌^◌, arith}
use Rattle.std.specs.Int.Bits.{and_lt}
use Rattle.std.proofs.lemmas.Nat.{pow_pos}
use Rattle.std.proofs.lemmas.Nat.Bits.{ones_shl}
use Rattle.footprint.proofs.Words.{found_between}
use Rattle.footprint.proofs.row.has_between.Goals as goal

pub returns : goal.returns
returns c =
    let some = pow_pos c.args.from in
    let few : c.args.from ≤ 64 = omega arith in
    rw (ones_shl 64 c.args.from few)
    (found_between c.low_bits.result c.args.word c.args.from c.args.end
    (and_lt 64 c.low_bits.result (2 ^ 64 - 2 ^ c.args.from) c.low_bits.type_inv
    (omega arith)) c.low_bits.ensures.kept c.low_bits.ensures.cleared)
