-- What a window on a source has read and what has been taken from it: this project's own rule. A
-- source may or may not show its bytes. So a clause about later bytes says that some were taken
-- from the source, and what is read whatever bytes follow them.
use Rattle.std.specs.Prelude.{◌≡◌, ◌≢◌, ℕ, ◌+◌, ◌≤◌, true, List, [], ◌++◌, length, drop, vec_len}
use Rattle.std.specs.Prelude.{Option, Result, Ok, Err, IsOk}
use Rattle.metric.specs.Stream.{Takes, AreAll}
use Rattle.metric.specs.declared.fault.PbmFault.{PbmFault}
use Rattle.metric.specs.declared.fault.PbmFault.TheVariants as faults
use Rattle.bits.specs.Cells.{Cells}
use Rattle.pbm.specs.Faults.{header, image}
use Rattle.pbm.specs.Image.{Reads}
use Rattle.pbm.specs.declared.window.ImageStop.{ImageStop}
use Rattle.pbm.specs.declared.window.ImageStop.TheVariants.{Failed, Memory, Fault}
use Rattle.pbm.specs.declared.window.Window.{Window}

-- the bytes that a window has read and that haven't been taken
abbrev pub unread : Window → List ℕ
unread window = drop window.start window.bytes.items

-- no more bytes are taken than were read, and a source whose end was met has none left
pub record IsOpen (window : Window) (rest : Option (List ℕ)) : Type 0 where
  pub inside : window.start ≤ vec_len window.bytes
  pub ended : window.ended ≡ true → AreAll rest []

-- bytes were taken from the source, and whatever follows, this holds of what was left and is left
pub record Follows (rest : Option (List ℕ)) (before : List ℕ) (left : Option (List ℕ))
    (after : List ℕ) (P : List ℕ → List ℕ → Type 0) : Type 0 where
  pub block : List ℕ
  pub taken : Takes rest block left
  pub holds : (more : List ℕ) → P (before ++ (block ++ more)) (after ++ more)

-- this holds of the bytes before followed by all bytes that may still come
pub record Meets (rest : Option (List ℕ)) (before : List ℕ) (P : List ℕ → Type 0) : Type 0 where
  pub bytes : List ℕ
  pub all : AreAll rest bytes
  pub holds : P (before ++ bytes)

-- more bytes were read, or none, and nothing was taken
abbrev pub ReadsOn : Option (List ℕ) → Window → Option (List ℕ) → Window → Type 0
ReadsOn rest before left after =
    Follows rest (unread before) left (unread after) (λ all more. all ≡ more)

-- these cells are read from the front of all bytes that may still come
abbrev pub MeetsCells : (List ℕ → Result (Cells × List ℕ) PbmFault) → Option (List ℕ) → Window
    → Cells → Type 0
MeetsCells reads rest window cells =
    Meets rest (unread window) (λ all. (left : List ℕ) × (reads all ≡ Ok (cells, left)))

-- the first bytes are taken, and whatever follows, this holds of all bytes and of those left
pub record Stands (taken : ℕ) (bytes : List ℕ) (P : List ℕ → List ℕ → Type 0) : Type 0 where
  pub inside : taken ≤ length bytes
  pub holds : (more : List ℕ) → P (bytes ++ more) (drop taken bytes ++ more)

-- this holds of the fault; nothing is said if a read failed, or without memory for the bytes read
abbrev pub IsFaultOf : ImageStop → (PbmFault → Type 0) → Type 0
IsFaultOf Failed P = Unit {0}
IsFaultOf (Memory refused) P = Unit {0}
IsFaultOf (Fault fault) P = P fault

-- the fault is met where all bytes that may still come are read
abbrev pub MeetsFault : {T : Type 0} → (List ℕ → Result T PbmFault) → Option (List ℕ) → Window
    → ImageStop → Type 0
MeetsFault reads rest window stop =
    IsFaultOf stop (λ fault. Meets rest (unread window) (λ all. reads all ≡ Err fault))

-- a failed read is counted, and nothing else
abbrev pub CountsReads : {T : Type 0} → ℕ → Result T ImageStop → ℕ → Type 0
CountsReads before (Ok value) after = after ≡ before
CountsReads before (Err Failed) after = after ≡ before + 1
CountsReads before (Err (Memory refused)) after = after ≡ before
CountsReads before (Err (Fault fault)) after = after ≡ before

-- nothing of the source is left if an image or a fault was found
abbrev pub IsPassed : {T : Type 0} → Result T ImageStop → Option (List ℕ) → Type 0
IsPassed (Ok value) left = AreAll left []
IsPassed (Err Failed) left = Unit {0}
IsPassed (Err (Memory refused)) left = Unit {0}
IsPassed (Err (Fault fault)) left = AreAll left []

-- this is the bytes' first fault; or the header is valid, and there was no memory for the bitmap
pub record IsStopped (bytes : List ℕ) (fault : PbmFault) : Type 0 where
  pub first : fault ≢ faults.Memory → image bytes ≡ Err fault
  pub memory : fault ≡ faults.Memory → IsOk (header bytes)

-- all bytes that the source may have had left read as an image of this bitmap
pub record HasImage (rest : Option (List ℕ)) (cells : Cells) : Type 0 where
  pub bytes : List ℕ
  pub all : AreAll rest bytes
  pub taken : ℕ
  pub reads : Reads bytes taken cells

-- all bytes the source may have had left have this first fault, or no memory for their bitmap
pub record HasFault (rest : Option (List ℕ)) (fault : PbmFault) : Type 0 where
  pub bytes : List ℕ
  pub all : AreAll rest bytes
  pub first : fault ≢ faults.Memory → image bytes ≡ Err fault
  pub none : fault ≢ faults.Memory → (n : ℕ) (cells : Cells) → Reads bytes n cells → ⊥
  pub memory : fault ≡ faults.Memory → IsOk (header bytes)
