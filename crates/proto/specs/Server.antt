-- What a server writes: this project's own rule.
use Rattle.std.specs.Prelude.{◌≡◌, ℕ, ◌⊎◌, List, [], ◌∷◌, ◌++◌, Option, codes}
use Rattle.std.specs.Fmt.{decimal}
use Rattle.metric.specs.Stream.{Appends, AppendsFront}
use Rattle.streams.specs.Refusals.{memory_text}

-- the line that has the port
abbrev pub listening_text : ℕ → List ℕ
listening_text port = codes "LISTENING " ++ (decimal port ++ 10 ∷ [])

-- the line that has how many connections were served, and the log's length
abbrev pub served_text : ℕ → ℕ → List ℕ
served_text connections log =
    codes "SERVED " ++ (decimal connections ++ (32 ∷ (decimal log ++ 10 ∷ [])))

-- only this line was written, or a prefix of it if a write failed
pub record WritesOnly (line : List ℕ) (failed_before failed_after : ℕ)
    (held_before held_after : Option (List ℕ)) : Type 0 where
  pub whole : failed_after ≡ failed_before → Appends held_before line held_after
  pub front : AppendsFront held_before line held_after

-- why nothing is served with a valid setting: out of memory, perhaps after the port was printed
abbrev pub IsUnserved : ℕ → List ℕ → Type 0
IsUnserved port text = (text ≡ memory_text) ⊎ (text ≡ listening_text port ++ memory_text)

-- with a valid setting a server writes its port and how many it served, or why not, with its status
abbrev pub IsServeText : ℕ → ℕ → List ℕ → ℕ → Type 0
IsServeText port connections text status =
    ((log : ℕ) × (text ≡ listening_text port ++ served_text connections log) × (status ≡ 0))
    ⊎ (IsUnserved port text × (status ≡ 1))

-- everything that a server prints was written, with this status
pub record WritesServed (port connections : ℕ) (held_before held_after : Option (List ℕ))
    (status : ℕ) : Type 0 where
  pub text : List ℕ
  pub text_is : IsServeText port connections text status
  pub written : Appends held_before text held_after

-- a prefix of what a server prints was written
pub record BeginsServed (port connections : ℕ) (held_before held_after : Option (List ℕ)) :
    Type 0 where
  pub text : List ℕ
  pub status : ℕ
  pub text_is : IsServeText port connections text status
  pub written : AppendsFront held_before text held_after
