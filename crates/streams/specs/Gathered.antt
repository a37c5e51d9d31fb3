-- Bytes read from a stream into a buffer: this project's own rule.
use Rattle.std.specs.Prelude.{◌≡◌, ◌≤◌, ◌<◌, ℕ, List, [], ◌∷◌, ◌++◌, length, Option}
use Rattle.metric.specs.Stream.{AreAll, Takes}
use Rattle.streams.specs.Counted.{IsAtMostCounted, IsUnended}

-- what was read is in a buffer, after its earlier bytes
pub record Gathers (unread : Option (List ℕ)) (before after : List ℕ) (left : Option (List ℕ)) :
    Type 0 where
  pub bytes : List ℕ
  pub taken : Takes unread bytes left
  pub after_is : after ≡ before ++ bytes

-- all that the stream had left is in a buffer, after its earlier bytes
pub record GathersAll (unread : Option (List ℕ)) (before after : List ℕ) (left : Option (List ℕ)) :
    Type 0 where
  pub gathered : Gathers unread before after left
  pub ended : AreAll left []

-- a line with its LF is in a buffer, after its earlier bytes
pub record PutsLine (before after : List ℕ) : Type 0 where
  pub line : List ℕ
  pub unended : IsUnended line
  pub after_is : after ≡ before ++ (line ++ 10 ∷ [])

-- bytes in which no line ends are in a buffer, after its earlier bytes
pub record PutsUnended (before after : List ℕ) : Type 0 where
  pub part : List ℕ
  pub unended : IsUnended part
  pub after_is : after ≡ before ++ part

-- a buffer has this many more bytes, after its earlier ones
pub record PutsCount (count : ℕ) (before after : List ℕ) : Type 0 where
  pub part : List ℕ
  pub many : length part ≡ count
  pub after_is : after ≡ before ++ part

-- fewer bytes than this are in a buffer, after its earlier ones
pub record PutsFewer (count : ℕ) (before after : List ℕ) : Type 0 where
  pub part : List ℕ
  pub few : length part < count
  pub after_is : after ≡ before ++ part

-- at most this many bytes were taken
pub record TakesFew (count : ℕ) (unread left : Option (List ℕ)) : Type 0 where
  pub bytes : List ℕ
  pub few : length bytes ≤ count
  pub taken : Takes unread bytes left

-- at most a line with its LF and the bytes that it counts were taken
pub record TakesAtMost (counts : List ℕ → ℕ) (unread left : Option (List ℕ)) : Type 0 where
  pub bytes : List ℕ
  pub most : IsAtMostCounted counts bytes
  pub taken : Takes unread bytes left
