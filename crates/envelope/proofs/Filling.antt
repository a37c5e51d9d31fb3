-- The spans taken off one after another, from the row's end.
use Rattle.std.proofs.Common.{◌≡◌, ◌≢◌, ℕ, ◌+◌, ◌-◌, ◌<◌, ◌≤◌, zero, suc, inl, inr, List, length}
use Rattle.std.proofs.Common.{slice_index_or, slice_set, arith, get_or-set_other, get_or-set_same}
use Rattle.std.proofs.lemmas.Bool.{cases_lt}
use Rattle.envelope.specs.declared.cover.Span.{Span}
use Rattle.envelope.specs.Envelope.{IsCovered, IsEnvelope, IsSpan, span_at}
use Rattle.envelope.proofs.Envelopes.{envelope_same}

-- an envelope ends with its last span, and those below it are an envelope as far as its start
pub envelope_last : (d : ℕ → ℕ → ℕ) (gaps : ℕ → ℕ) (P : ℕ → Type 0) (spans : List Span)
    (count end : ℕ) → 0 < count → IsEnvelope d gaps P spans count end
    → IsSpan d gaps P (span_at spans (count - 1)) end
    × IsEnvelope d gaps P spans (count - 1) (span_at spans (count - 1)).start
envelope_last d gaps P spans zero end some envelope = absurd (omega arith)
envelope_last d gaps P spans (suc count) end some envelope =
    let before : suc count - 1 ≡ count = omega arith in rw before envelope

-- spans that are the same up to the count are those of the row too
pub covered_same : (d : ℕ → ℕ → ℕ) (gaps : ℕ → ℕ) (P : ℕ → Type 0) (spans others : List Span)
    (count width : ℕ)
    → ((place : ℕ) → place < count → span_at others place ≡ span_at spans place)
    → IsCovered d gaps P spans count width → IsCovered d gaps P others count width
covered_same d gaps P spans others count width same covered = record {
  none = covered.none;
  some = λ some. envelope_same d gaps P spans others count width same (covered.some some);
}

-- what holds of each item from one to before a place holds of the item at the place too, once it is
-- set
pub set_more : {T : Type 0} (Is : ℕ → T → Type 0) (from place : ℕ) (items : List T) (item other : T)
    → place < length items
    → ((x : ℕ) → from ≤ x → x < place → Is x (slice_index_or items x other)) → Is place item
    → (x : ℕ) → from ≤ x → x < place + 1
    → Is x (slice_index_or (slice_set items place item) x other)
set_more Is from place items item other inside before here x low high = elim (cases_lt x place) [
  | inl earlier ↦
      let apart : x ≢ place = λ same. absurd (omega (arith, earlier, same)) in
      rw (get_or-set_other items place x item other apart) (before x low earlier)
  | inr later ↦
      let same : place ≡ x = omega (arith, later, high) in
      rw (← same, get_or-set_same items place item other inside) here
]
