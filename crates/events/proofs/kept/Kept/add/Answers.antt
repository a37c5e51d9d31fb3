-- The least free slot is one of 64.
use Rattle.std.proofs.Common.{arith}
use Rattle.events.proofs.logs.KeptLemmas.{first_free-le}
use Rattle.events.proofs.kept.Kept.add.Goals as goal

pub bounds-self-slot : goal.bounds-self-slot
bounds-self-slot c =
    omega (arith, c.next_slot-slot.ensures, c.requires.room, first_free-le c.args.self.now.slots)
