-- What a contract sees of a byte stream: this project's own rule. A stream may show its bytes, as
-- `Some` of the bytes left to read or written, or none, as `None`. A stream that shows none stays
-- so.
use Rattle.std.specs.Prelude.{◌≡◌, ◌≢◌, ℕ, ◌+◌, ◌<◌, ◌≤◌, ◌^◌, List, [], ◌∷◌, ◌++◌, length, take}
use Rattle.std.specs.Prelude.{slice_index, Option, Some, None, Result, Ok, Err}

-- what is left after one byte is taken from the front, or after the end is met
abbrev pub TakesByte : Option (List ℕ) → Option ℕ → Option (List ℕ) → Type 0
TakesByte None byte rest = rest ≡ None
TakesByte (Some []) byte rest = (byte ≡ None) × (rest ≡ Some [])
TakesByte (Some (b ∷ bytes)) byte rest = (byte ≡ Some b) × (rest ≡ Some bytes)

-- the bytes are appended to those written before
abbrev pub Appends : Option (List ℕ) → List ℕ → Option (List ℕ) → Type 0
Appends None bytes after = after ≡ None
Appends (Some before) bytes after = after ≡ Some (before ++ bytes)

-- a prefix of the bytes is appended to those written before
pub record AppendsFront (before : Option (List ℕ)) (bytes : List ℕ) (after : Option (List ℕ)) :
    Type 0 where
  pub front : List ℕ
  pub back : List ℕ
  pub whole : bytes ≡ front ++ back
  pub appended : Appends before front after

-- a failed call is counted, and no other
abbrev pub Counts : {T E : Type 0} → ℕ → Result T E → ℕ → Type 0
Counts before (Ok value) after = after ≡ before
Counts before (Err fault) after = after ≡ before + 1

-- another failed call can be counted
abbrev pub CanFail : ℕ → Type 0
CanFail count = count + 1 < 2 ^ 64

-- the bytes are taken from the front of those left
abbrev pub Takes : Option (List ℕ) → List ℕ → Option (List ℕ) → Type 0
Takes None bytes rest = rest ≡ None
Takes (Some told) bytes rest = (left : List ℕ) × (rest ≡ Some left) × (told ≡ bytes ++ left)

-- the stream has exactly these bytes left to read
abbrev pub AreAll : Option (List ℕ) → List ℕ → Type 0
AreAll None bytes = Unit {0}
AreAll (Some told) bytes = bytes ≡ told

-- the block's first bytes are taken from those left; none only at the end or if the block is empty
pub record TakesBlock (rest : Option (List ℕ)) (count : ℕ) (block : List ℕ)
    (left : Option (List ℕ)) : Type 0 where
  pub fits : count ≤ length block
  pub taken : Takes rest (take count block) left
  pub ended : count ≡ 0 → block ≢ [] → AreAll rest []

-- none of the first bytes of the block but the last is this one
abbrev pub StopsAt : ℕ → ℕ → List ℕ → Type 0
StopsAt stop count block = (k : ℕ) → k + 1 < count → slice_index block k ≢ stop
