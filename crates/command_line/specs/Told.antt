-- What is written where words are refused: this project's own rule.
use Rattle.std.specs.Prelude.{◌≡◌, ◌≢◌, ℕ, List, [], ◌∷◌, ◌++◌, ◌⊎◌, Option}
use Rattle.clap.specs.Words.{kind_of}
use Rattle.clap.specs.declared.error.kind.ErrorKind.TheVariants.{DisplayHelp, DisplayVersion}
use Rattle.metric.specs.Refusal.{refusal_text}
use Rattle.metric.specs.declared.refusal.Refusal.TheVariants as refusals
use Rattle.metric.specs.Stream.{Appends, AppendsFront}
use Rattle.command_line.specs.declared.arguments.Fault.{Fault}
use Rattle.command_line.specs.declared.arguments.Fault.TheVariants.{Words, Memory}

-- refused words end with status 0 if they ask for help or the version, 1 when out of memory, else 2
abbrev pub IsStatusOf : Fault → ℕ → Type 0
IsStatusOf (Words error) status =
    ((kind_of error ≡ DisplayHelp) ⊎ (kind_of error ≡ DisplayVersion) → status ≡ 0)
    × (kind_of error ≢ DisplayHelp → kind_of error ≢ DisplayVersion → status ≡ 2)
IsStatusOf Memory status = status ≡ 1
IsStatusOf fault status = status ≡ 2

-- a text is written: that of a mistake to standard error, any other to standard output
pub record IsWrittenBy (status : ℕ) (text : List ℕ)
    (before after errors_before errors_after : Option (List ℕ)) : Type 0 where
  pub mistake : status ≡ 2 → Appends errors_before text errors_after × (after ≡ before)
  pub other : status ≢ 2 → Appends before text after × (errors_after ≡ errors_before)

-- the line for out of memory is written
pub record IsMemoryTold (before after errors_before errors_after : Option (List ℕ)) (status : ℕ) :
    Type 0 where
  pub status_is : status ≡ 1
  pub line : Appends before (refusal_text refusals.Memory ++ 10 ∷ []) after
  pub no_mistake : errors_after ≡ errors_before

-- a text for refused words is written, or there is no memory for it
abbrev pub IsFaultTold : Fault → Option (List ℕ) → Option (List ℕ) → Option (List ℕ)
    → Option (List ℕ) → ℕ → Type 0
IsFaultTold fault before after errors_before errors_after status =
    ((text : List ℕ) × (fault ≢ Memory) × IsStatusOf fault status
    × IsWrittenBy status text before after errors_before errors_after)
    ⊎ IsMemoryTold before after errors_before errors_after status

-- a prefix of a text was written
pub record Begins (before after : Option (List ℕ)) : Type 0 where
  pub text : List ℕ
  pub written : AppendsFront before text after
