-- A write that is made to fail leaves a prefix of the bytes: the first half of them, or none.
use Rattle.std.proofs.Common.{◌/◌, length, is_ok}
use Rattle.memory_streams.proofs.Fronts.{AppendsFront-tried}
use Rattle.memory_streams.proofs.memory.MemorySinkSink.write_all.Goals as goal

pub returns-then-fails-clause-front : goal.returns-then-fails-clause-front
returns-then-fails-clause-front c =
    rw (← c.self.view_is) (AppendsFront-tried c.self.inside.bytes.items c.args.bytes.now _
    (length c.args.bytes.now / 2)
    (is_ok c.extend_from_slice.result) c.extend_from_slice.ensures.items)
