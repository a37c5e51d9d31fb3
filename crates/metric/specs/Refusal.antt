-- The lines of refusals: this project's own rule. `ERR`, the refusal's number, its name and its
-- details, separated by single blanks.
use Rattle.std.specs.Prelude.{ℕ, List, [], ◌∷◌, ◌++◌, codes}
use Rattle.std.specs.Fmt.{decimal}
use Rattle.metric.specs.Fault.{fault_name, field_name}
use Rattle.metric.specs.declared.fault.PbmFault.{PbmFault}
use Rattle.metric.specs.declared.fault.PbmFault.TheVariants as faults
use Rattle.metric.specs.declared.refusal.Refusal.{Refusal}
use Rattle.metric.specs.declared.refusal.Refusal.TheVariants as refusals

-- a refusal starts with `ERR`, its number and its name; a refused image without memory is refusal 5
abbrev pub refusal_title : Refusal → List ℕ
refusal_title refusals.OutOfRange = codes "ERR 1 OutOfRange"
refusal_title (refusals.BlocksFull needed free) = codes "ERR 2 BlocksFull"
refusal_title refusals.VersionsFull = codes "ERR 3 VersionsFull"
refusal_title refusals.LogFull = codes "ERR 4 LogFull"
refusal_title refusals.Memory = codes "ERR 5 Memory"
refusal_title refusals.NotPinned = codes "ERR 6 NotPinned"
refusal_title refusals.AlreadyPinned = codes "ERR 7 AlreadyPinned"
refusal_title refusals.BadPath = codes "ERR 8 BadPath"
refusal_title (refusals.Crooked index) = codes "ERR 9 Crooked"
refusal_title refusals.UnknownCommand = codes "ERR 11 UnknownCommand"
refusal_title refusals.BadArguments = codes "ERR 12 BadArguments"
refusal_title refusals.LineTooLong = codes "ERR 13 LineTooLong"
refusal_title refusals.TooMuchData = codes "ERR 14 TooMuchData"
refusal_title (refusals.BadImage faults.Memory) = codes "ERR 5 Memory"
refusal_title (refusals.BadImage fault) = codes "ERR 15 BadImage"
refusal_title (refusals.BadSetting field) = codes "ERR 16 BadSetting"
refusal_title refusals.PlacesUsed = codes "ERR 17 PlacesUsed"

-- the details of a refusal follow word by word, each after a blank
abbrev pub refusal_details : Refusal → List ℕ
refusal_details (refusals.BlocksFull needed free) = (32 ∷ decimal needed) ++ (32 ∷ decimal free)
refusal_details (refusals.Crooked index) = 32 ∷ decimal index
refusal_details (refusals.BadImage faults.Memory) = []
refusal_details (refusals.BadImage fault) = 32 ∷ fault_name fault
refusal_details (refusals.BadSetting field) = 32 ∷ field_name field
refusal_details other = []

-- the line of a refusal, without its LF
abbrev pub refusal_text : Refusal → List ℕ
refusal_text refusal = refusal_title refusal ++ refusal_details refusal

-- the line of a refused image; that of out of memory if there was no memory for it
abbrev pub image_text : PbmFault → List ℕ
image_text fault = refusal_text (refusals.BadImage fault)
