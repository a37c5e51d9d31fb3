-- The bytes of this turn join those that were read before them.
use Rattle.std.proofs.Common.{◌++◌, arith, length-append}
use Rattle.line_io.proofs.Wires.{read_on}
use Rattle.line_io.proofs.counted.skip.Goals as goal

pub passes-preserved : goal.passes-preserved
passes-preserved g c =
    let passed = c.in_ok-left.ensures.passed in
    let bytes = c.passes.invariant.bytes in
    let before = c.passes.invariant.as_many in
    let within = c.in_ok-left.ensures.within in
    record {
      bytes = bytes ++ passed.bytes;
      read = read_on 0 _ _ _ bytes passed.bytes c.passes.invariant.read passed.read;
      as_many = omega (arith, before, within, passed.as_many, length-append bytes passed.bytes);
    }
