-- Bytes read from one stream and written to another: this project's own rule.
use Rattle.std.specs.Prelude.{◌≡◌, ℕ, ◌⊎◌, All, List, [], ◌∷◌, ◌++◌, codes, Option}
use Rattle.std.specs.List.{concat}
use Rattle.metric.specs.Stream.{AreAll, Takes, Appends, AppendsFront}
use Rattle.ask.specs.Asking.{IsRequest, counted_by}
use Rattle.streams.specs.Counted.{IsLessThanCounted}
use Rattle.streams.specs.Refusals.{memory_text, net_text}
use Rattle.ask.specs.declared.ask.Stop.{Stop}
use Rattle.ask.specs.declared.ask.Stop.TheVariants as stops

-- all that was read was written
pub record PassesOn (unread left held_before held_after : Option (List ℕ)) : Type 0 where
  pub bytes : List ℕ
  pub taken : Takes unread bytes left
  pub written : Appends held_before bytes held_after

-- a prefix of what was read was written
pub record PassesFront (unread left held_before held_after : Option (List ℕ)) : Type 0 where
  pub bytes : List ℕ
  pub taken : Takes unread bytes left
  pub written : AppendsFront held_before bytes held_after

-- the line that says why a run of `ask` stops; nothing if a standard stream failed
abbrev pub stop_text : Stop → List ℕ
stop_text stops.Standard = []
stop_text stops.Net = net_text
stop_text (stops.Memory refused) = memory_text

-- the line that says why a run of `ask` ended early: the network's fault, if it is so, or want of
-- memory, if the connection is sound
abbrev pub IsEndLine : Type 0 → Type 0 → List ℕ → Type 0
IsEndLine fault sound line = ((line ≡ net_text) × fault) ⊎ ((line ≡ memory_text) × sound)

-- a prefix of what was read was written, and after it the line that says why it ended
pub record EndsEarly (fault sound : Type 0) (unread left held_before held_after : Option
    (List ℕ)) : Type 0 where
  pub bytes : List ℕ
  pub front : List ℕ
  pub back : List ℕ
  pub line : List ℕ
  pub taken : Takes unread bytes left
  pub bytes_are : bytes ≡ front ++ back
  pub line_is : IsEndLine fault sound line
  pub written : Appends held_before (front ++ line) held_after

-- a prefix of what was read was written, and after it nothing, or a prefix of the line that says
-- why it ended
pub record BreaksOff (fault sound : Type 0) (unread left held_before held_after : Option
    (List ℕ)) : Type 0 where
  pub bytes : List ℕ
  pub front : List ℕ
  pub back : List ℕ
  pub line : List ℕ
  pub taken : Takes unread bytes left
  pub bytes_are : bytes ≡ front ++ back
  pub line_is : (line ≡ []) ⊎ IsEndLine fault sound line
  pub written : AppendsFront held_before (front ++ line) held_after

-- requests were read and sent, each whole
pub record Asks (unread left held_before held_after : Option (List ℕ)) : Type 0 where
  pub requests : List (List ℕ)
  pub are : All IsRequest requests
  pub taken : Takes unread (concat requests) left
  pub sent : Appends held_before (concat requests) held_after

-- the reply that ends a stream
abbrev pub bye : List ℕ
bye = codes "BYE" ++ 10 ∷ []

-- what was written ends with the line that ends a stream
pub record EndsByBye (held_before held_after : Option (List ℕ)) : Type 0 where
  pub front : List ℕ
  pub written : Appends held_before (front ++ bye) held_after

-- less than a line and the bytes that it counts was read, and the stream has ended
pub record EndsWithin (counts : List ℕ → ℕ) (unread left : Option (List ℕ)) : Type 0 where
  pub tail : List ℕ
  pub cut : IsLessThanCounted counts tail
  pub taken : Takes unread tail left
  pub ended : AreAll left []

-- less than a request was read, and the reader has ended
abbrev pub EndsCut : Option (List ℕ) → Option (List ℕ) → Type 0
EndsCut = EndsWithin counted_by

-- requests were read and sent, up to a reply that ends the stream or to the end of the reader
pub record AsksAll (unread left held_before held_after printed_before printed_after : Option
    (List ℕ)) : Type 0 where
  pub between : Option (List ℕ)
  pub asked : Asks unread between held_before held_after
  pub over : ((left ≡ between) × EndsByBye printed_before printed_after) ⊎ EndsCut between left
