-- The names of faults and of settings, as a refusal spells them: this project's own rule.
use Rattle.std.specs.Prelude.{ℕ, List, codes}
use Rattle.metric.specs.declared.fault.PbmFault.{PbmFault}
use Rattle.metric.specs.declared.fault.PbmFault.TheVariants as faults
use Rattle.metric.specs.declared.refusal.Field.{Field}
use Rattle.metric.specs.declared.refusal.Field.TheVariants as fields

-- each fault of an image has a name
abbrev pub fault_name : PbmFault → List ℕ
fault_name faults.BadMagic = codes "BadMagic"
fault_name faults.MissingSpace = codes "MissingSpace"
fault_name faults.BadComment = codes "BadComment"
fault_name faults.BadNumber = codes "BadNumber"
fault_name faults.ZeroSize = codes "ZeroSize"
fault_name faults.TooLarge = codes "TooLarge"
fault_name faults.BadPixel = codes "BadPixel"
fault_name faults.Truncated = codes "Truncated"
fault_name faults.JunkNotSpaced = codes "JunkNotSpaced"
fault_name faults.Memory = codes "Memory"

-- each field of a setting has a name
abbrev pub field_name : Field → List ℕ
field_name fields.Blocks = codes "Blocks"
field_name fields.Versions = codes "Versions"
field_name fields.Sessions = codes "Sessions"
field_name fields.Log = codes "Log"
