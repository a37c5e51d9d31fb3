-- What follows a reply line: nothing, but for a dump's.
use Rattle.std.proofs.Common.{◌≡◌, ℕ, List, [], Option, Some, None, Result, Ok, Err, refl, inl, inr}
use Rattle.std.specs.Prelude.{◌⊎◌}
use Rattle.metric.specs.declared.edge.Edge.{Edge}
use Rattle.metric.specs.declared.refusal.Refusal.{Refusal}
use Rattle.metric.specs.declared.refusal.Refusal.TheVariants.{Memory, AlreadyPinned, NotPinned}
use Rattle.shelf.specs.Store.{StoreId}
use Rattle.lines.specs.declared.answer.Answer.{Answer}
use Rattle.lines.specs.declared.answer.Answer.TheVariants as answers
use Rattle.lines.specs.Asked.{QueryView}
use Rattle.lines.specs.Asked as queries
use Rattle.answering.specs.Queries.{IsAnswerBy}
use Rattle.bits.specs.Cells.{Cells}
use Rattle.lines.specs.Said.{LineView}
use Rattle.lines.specs.Said as saids
use Rattle.proto.specs.Callers.{CallerValue, HasPinned, HasUnpinned, IsRefusedAs}
use Rattle.proto.specs.Exchanges.{IsLineAnswer, IsQueryAnswer, body_of}

-- a refusal is no dump
refusal_dumps : (refusal : Refusal) (old new : CallerValue) (n : ℕ)
    → IsRefusedAs refusal old (answers.Dumped n) new → ⊥
refusal_dumps refusal old new n refused = let e = refused.answer_is in cc

-- no query is answered by a dump
query_dumps : (distance : ℕ → ℕ → ℕ) (cells : Cells) (edge : Edge) (query : QueryView) (n : ℕ)
    → IsAnswerBy distance cells edge query (answers.Dumped n) → ⊥
query_dumps distance cells edge (queries.at metric cell) n answered = answered
query_dumps distance cells edge query n answered = answered

-- an answer that is no dump where there is a pin is none without a pin either
pinned_dumps : (pin : Option ℕ) (old new : CallerValue) (n : ℕ) (answered : ℕ → Type 0)
    → ((v : ℕ) → answered v → ⊥)
    → (elim pin as (λ _. Type 0) [
      | None ↦ IsRefusedAs NotPinned old (answers.Dumped n) new
      | Some version ↦ answered version
    ]) → ⊥
pinned_dumps None old new n answered never refused = refusal_dumps NotPinned old new n refused
pinned_dumps (Some v) old new n answered never dumped = never v dumped

-- PIN is never answered by a dump
pin_dumps : (store : StoreId) (pin : Option ℕ) (old new : CallerValue) (n : ℕ)
    → (elim pin as (λ _. Type 0) [
      | None ↦ HasPinned store old (answers.Dumped n) new
          ⊎ IsRefusedAs Memory old (answers.Dumped n) new
      | Some version ↦ IsRefusedAs AlreadyPinned old (answers.Dumped n) new
    ]) → ⊥
pin_dumps store None old new n (inl pinned) = let e = pinned.answer_is in cc
pin_dumps store None old new n (inr refused) = refusal_dumps Memory old new n refused
pin_dumps store (Some v) old new n refused = refusal_dumps AlreadyPinned old new n refused

-- a line isn't DUMP
abbrev pub IsNoDump : Result LineView Refusal → Type 0
IsNoDump (Ok saids.dump) = ⊥
IsNoDump said = Unit {0}

-- no line but DUMP is answered by a dump
line_dumps : (store : StoreId) (said : Result LineView Refusal) (bytes : List ℕ)
    (old new : CallerValue) (n : ℕ) → IsNoDump said
    → IsLineAnswer store said bytes old (answers.Dumped n) new → ⊥
line_dumps store (Err refusal) bytes old new n other refused = refusal_dumps _ old new n refused
line_dumps store (Ok (saids.told t)) bytes old new n other (c, is, commanded) = commanded.answered
line_dumps store (Ok (saids.stamp x y m)) bytes old new n other
    (inl (taken, cells, reads, commanded)) = commanded.answered
line_dumps store (Ok (saids.stamp x y m)) bytes old new n other (inr (inl (fault, is, refused))) =
    refusal_dumps _ old new n refused
line_dumps store (Ok (saids.stamp x y m)) bytes old new n other (inr (inr refused)) =
    refusal_dumps _ old new n refused
line_dumps store (Ok saids.pin) bytes old new n other answered =
    pin_dumps store old.pin old new n answered
line_dumps store (Ok saids.unpin) bytes old new n other answered =
    pinned_dumps old.pin old new n (λ v. HasUnpinned v old (answers.Dumped n) new)
    (λ v dumped. let e = dumped.answer_is in cc) answered
line_dumps store (Ok (saids.asked query)) bytes old new n other answered =
    pinned_dumps old.pin old new n (λ _. IsQueryAnswer store query old (answers.Dumped n) new)
    (λ v dumped. elim dumped.answered [
      | inl value ↦ query_dumps _ _ _ query n value
      | inr memory ↦ (let e = memory.1 in cc)
    ]) answered
line_dumps store (Ok saids.dump) bytes old new n other answered = absurd other
line_dumps store (Ok saids.quit) bytes old new n other answered = answered

-- nothing follows the reply line of another line than DUMP
pub plain_body : (store : StoreId) (said : Result LineView Refusal) (bytes : List ℕ)
    (old new : CallerValue) (answer : Answer) → IsNoDump said
    → IsLineAnswer store said bytes old answer new → [] ≡ body_of store old answer
plain_body store said bytes old new (answers.Dumped n) other answered =
    absurd (line_dumps store said bytes old new n other answered)
plain_body store said bytes old new answer other answered = refl
