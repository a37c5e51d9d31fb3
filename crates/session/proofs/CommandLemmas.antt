-- A command leaves what a seat has announced and holds.
use Rattle.std.proofs.Common.{◌≡◌, ap, ◌∙◌}
use Rattle.std.specs.Prelude.{Result}
use Rattle.metric.specs.declared.refusal.Refusal.{Refusal}
use Rattle.events.specs.declared.command.Command.{Command}
use Rattle.events.specs.declared.command.Reply.{Reply}
use Rattle.shelf.specs.Store.{StoreId}
use Rattle.shelf.specs.Roles.{ReaderView}
use Rattle.desk.specs.Desks.{DeskView, IsApplied}
use Rattle.copies.specs.Copies.{RoomView}
use Rattle.session.specs.Sessions.{IsSession}

-- the seat has announced what it had, and holds what it did
pub record HoldsStill (x y : ReaderView) : Type 0 where
  pub announced : y.announced ≡ x.announced
  pub holds : y.holds ≡ x.holds

-- however a command is answered, its seat has announced what it had, and holds what it did
pub applied_still : (store : StoreId) (d e : DeskView) (x y : ReaderView) (c : Command)
    (answer : Result Reply Refusal) → IsApplied store d x c answer e y → HoldsStill x y
applied_still store d e x y c answer applied =
    record {
      announced = ap (λ (q : ReaderView). q.announced) applied.stays;
      holds = ap (λ (q : ReaderView). q.holds) applied.stays;
    }

-- a session that has announced and holds what it did is still one
pub session_holds : (store : StoreId) (x y : ReaderView) (room : RoomView) → IsSession store x room
    → HoldsStill x y → IsSession store y room
session_holds store x y room session still = record {
  quiet = still.announced ∙ session.quiet;
  free = still.holds ∙ session.free;
  ready = session.ready;
  width_is = session.width_is;
  height_is = session.height_is;
}
