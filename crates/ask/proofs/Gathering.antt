-- Bytes that are taken from a stream, and put into a buffer or written to another stream.
use Rattle.std.proofs.Common.{◌≡◌, ◌≢◌, ℕ, List, [], ◌++◌, Option, inl, inr, refl}
use Rattle.std.specs.Prelude.{◌⊎◌}
use Rattle.metric.specs.Stream.{Takes, Appends, AppendsFront}
use Rattle.metric.proofs.Appending.{Appends-nothing, Appends-more, AppendsFront-whole}
use Rattle.metric.proofs.Taking.{Takes-nothing, Takes-behind}
use Rattle.ask.specs.Passing.{BreaksOff, EndsEarly, IsEndLine, PassesOn, PassesFront, stop_text}
use Rattle.ask.specs.declared.ask.Stop.{Stop}
use Rattle.streams.proofs.RefusalLines.{front_second}
use Rattle.ask.specs.declared.ask.Stop.TheVariants as stops

-- where nothing is written, a prefix of any bytes is
front_nothing : (held : Option (List ℕ)) (bytes : List ℕ) → AppendsFront held bytes held
front_nothing held bytes =
    record { front = []; back = bytes; whole = refl; appended = Appends-nothing held }

-- where nothing is read and nothing is written, all that was read is written
pub PassesOn-nothing : (unread held : Option (List ℕ)) → PassesOn unread unread held held
PassesOn-nothing unread held =
    record { bytes = []; taken = Takes-nothing unread; written = Appends-nothing held }

-- where bytes were read and nothing was written, a prefix of what was read was written
pub PassesFront-read : (unread left held : Option (List ℕ))
    → ((bytes : List ℕ) × Takes unread bytes left) → PassesFront unread left held held
PassesFront-read unread left held (bytes, taken) =
    record { bytes = bytes; taken = taken; written = front_nothing held bytes }

-- where all that was read was written, a prefix of it was
pub PassesFront-whole : (unread left before after : Option (List ℕ))
    → PassesOn unread left before after → PassesFront unread left before after
PassesFront-whole unread left before after whole =
    record {
      bytes = whole.bytes;
      taken = whole.taken;
      written = AppendsFront-whole before after whole.bytes whole.written;
    }

-- what is read and written in two parts, one after the other, is read and written as one
pub PassesOn-both : (unread between left before middle after : Option (List ℕ))
    → PassesOn unread between before middle → PassesOn between left middle after
    → PassesOn unread left before after
PassesOn-both unread between left before middle after one two = record {
  bytes = one.bytes ++ two.bytes;
  taken = Takes-behind unread between left one.bytes two.bytes one.taken two.taken;
  written = Appends-more before middle after one.bytes two.bytes one.written two.written;
}

-- a part that is written whole, and a prefix of the next, are a prefix of what was read in both
pub PassesFront-both : (unread between left before middle after : Option (List ℕ))
    → PassesOn unread between before middle → PassesFront between left middle after
    → PassesFront unread left before after
PassesFront-both unread between left before middle after one two = record {
  bytes = one.bytes ++ two.bytes;
  taken = Takes-behind unread between left one.bytes two.bytes one.taken two.taken;
  written = front_second before middle after one.bytes two.bytes one.written two.written;
}

-- a run of `ask` that stops, though no standard stream failed, tells why in such a line
end_line : (fault sound : Type 0) (stop : Stop) → stop ≢ stops.Standard → (stop ≡ stops.Net → fault)
    → (stop ≢ stops.Net → sound) → IsEndLine fault sound (stop_text stop)
end_line fault sound stops.Standard other blame calm = absurd (other refl)
end_line fault sound stops.Net other blame calm = inl (refl, blame refl)
end_line fault sound (stops.Memory refused) other blame calm = inr (refl, calm (λ e. absurd cc))

-- a run of `ask` that stops tells nothing, or why in such a line
last_line : (fault sound : Type 0) (stop : Stop) → (stop ≡ stops.Net → fault)
    → (stop ≢ stops.Net → sound) → (stop_text stop ≡ []) ⊎ IsEndLine fault sound (stop_text stop)
last_line fault sound stops.Standard blame calm = inl refl
last_line fault sound stops.Net blame calm = inr (inl (refl, blame refl))
last_line fault sound (stops.Memory refused) blame calm = inr (inr (refl, calm (λ e. absurd cc)))

-- a prefix of what was read, and then the line that tells why it ended, end a run of `ask` early
pub EndsEarly-line : (fault sound : Type 0) (unread left before middle after : Option (List ℕ))
    (stop : Stop) → stop ≢ stops.Standard → (stop ≡ stops.Net → fault) → (stop ≢ stops.Net → sound)
    → PassesFront unread left before middle → Appends middle (stop_text stop) after
    → EndsEarly fault sound unread left before after
EndsEarly-line fault sound unread left before middle after stop other blame calm part last = record {
  bytes = part.bytes;
  front = part.written.front;
  back = part.written.back;
  line = stop_text stop;
  taken = part.taken;
  bytes_are = part.written.whole;
  line_is = end_line fault sound stop other blame calm;
  written = Appends-more before middle after part.written.front
      (stop_text stop) part.written.appended last;
}

-- a prefix of what was read, and then a prefix of what a run tells that stops, break a run of `ask`
-- off
pub BreaksOff-stop : (fault sound : Type 0) (unread left before middle after : Option (List ℕ))
    (stop : Stop) → (stop ≡ stops.Net → fault) → (stop ≢ stops.Net → sound)
    → PassesFront unread left before middle → AppendsFront middle (stop_text stop) after
    → BreaksOff fault sound unread left before after
BreaksOff-stop fault sound unread left before middle after stop blame calm part last = record {
  bytes = part.bytes;
  front = part.written.front;
  back = part.written.back;
  line = stop_text stop;
  taken = part.taken;
  bytes_are = part.written.whole;
  line_is = last_line fault sound stop blame calm;
  written = front_second before middle after part.written.front (stop_text stop)
      part.written.appended last;
}
