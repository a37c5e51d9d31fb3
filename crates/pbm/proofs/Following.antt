-- What a window reads in several steps.
use Rattle.std.proofs.Common.{◌≡◌, ℕ, List, [], ◌++◌, Option, Some, None, Result, refl, sym, subst}
use Rattle.std.proofs.Common.{append_assoc, arith}
use Rattle.std.specs.Prelude.{IsErrAnd, MatchResult}
use Rattle.std.proofs.lemmas.List.{append-nil}
use Rattle.std.proofs.lemmas.Result.{err_from_is_err_and}
use Rattle.metric.specs.Stream.{AreAll}
use Rattle.metric.proofs.Taking.{Takes-nothing, Takes-behind}
use Rattle.metric.specs.declared.fault.PbmFault.{PbmFault}
use Rattle.pbm.specs.declared.window.ImageStop.{ImageStop}
use Rattle.pbm.specs.declared.window.ImageStop.TheVariants.{Failed, Memory, Fault}
use Rattle.pbm.specs.Windows.{Follows, IsFaultOf, Meets}
use Rattle.std.proofs.lemmas.Grind.{common_steps}
use Rattle.std.proofs.lemmas.Bool.Decides.{nat_tests}

-- what holds of an error holds of the result that a `?` returns for it
pub failed-so : {T E : Type 0} (P : T → Type 0) (Q : E → Type 0) (result : Result T E) {error : E}
    → IsErrAnd result (λ e. e ≡ error) → Q error → MatchResult result P Q
failed-so P Q result is holds = let p = err_from_is_err_and result is in rw (p.1, p.2) holds

-- where nothing is read, what is left is what was left before
pub Follows-nothing : {rest : Option (List ℕ)} {bytes : List ℕ} {P : List ℕ → List ℕ → Type 0}
    → ((all : List ℕ) → P all all) → Follows rest bytes rest bytes P
Follows-nothing {rest} {bytes} {P} same =
    record { block = []; taken = Takes-nothing rest; holds = λ more. same (bytes ++ more) }

-- two steps, one after the other, are one
pub Follows-both : {rest between left : Option (List ℕ)} {before middle after : List ℕ}
    {P Q R : List ℕ → List ℕ → Type 0} → ((x y z : List ℕ) → P x y → Q y z → R x z)
    → Follows rest before between middle P → Follows between middle left after Q
    → Follows rest before left after R
Follows-both {rest} {between} {left} {before} {middle} {after} {P} {Q} {R} join one two = record {
  block = one.block ++ two.block;
  taken = Takes-behind rest between left one.block two.block one.taken two.taken;
  holds = λ more. rw (append_assoc one.block two.block more)
      (join _ (middle ++ (two.block ++ more)) _ (one.holds (two.block ++ more)) (two.holds more));
}

-- more is read before something is taken
pub Follows-read : {rest between left : Option (List ℕ)} {before middle after : List ℕ}
    {P : List ℕ → List ℕ → Type 0} → Follows rest before between middle (λ all more. all ≡ more)
    → Follows between middle left after P → Follows rest before left after P
Follows-read {rest} {between} {left} {before} {middle} {after} {P} one two =
    Follows-both (λ x y z same holds. subst (λ t. P t z) (sym same) holds) one two

-- what follows from what holds of a step holds of it
pub Follows-weaker : {rest left : Option (List ℕ)} {before after : List ℕ}
    {P Q : List ℕ → List ℕ → Type 0} → ((x y : List ℕ) → P x y → Q x y)
    → Follows rest before left after P → Follows rest before left after Q
Follows-weaker weaker one =
    record { block = one.block; taken = one.taken; holds = λ more. weaker _ _ (one.holds more) }

-- what is met after a step is met with it
pub Meets-after : {rest left : Option (List ℕ)} {before after : List ℕ}
    {P : List ℕ → List ℕ → Type 0} {Q R : List ℕ → Type 0} → ((x y : List ℕ) → P x y → Q y → R x)
    → Follows rest before left after P → Meets left after Q → Meets rest before R
Meets-after {rest} {left} {before} {after} {P} {Q} {R} join one last =
    grind (arith, nat_tests, common_steps)

-- what is met after more is read is met
pub Meets-read : {rest left : Option (List ℕ)} {before after : List ℕ} {P : List ℕ → Type 0}
    → Follows rest before left after (λ all more. all ≡ more) → Meets left after P
    → Meets rest before P
Meets-read {rest} {left} {before} {after} {P} one last =
    Meets-after (λ x y same holds. subst P (sym same) holds) one last

-- what follows from what is met is met
pub Meets-weaker : {rest : Option (List ℕ)} {bytes : List ℕ} {P Q : List ℕ → Type 0}
    → ((all : List ℕ) → P all → Q all) → Meets rest bytes P → Meets rest bytes Q
Meets-weaker weaker met =
    record { bytes = met.bytes; all = met.all; holds = weaker _ met.holds }

-- at the end of a source all that is met is what is there
pub Meets-end : {rest : Option (List ℕ)} {bytes : List ℕ} {P : List ℕ → Type 0} → AreAll rest []
    → P bytes → Meets rest bytes P
Meets-end {rest} {bytes} {P} ended holds =
    record { bytes = []; all = ended; holds = subst P (sym (append-nil bytes)) holds }

-- what holds whatever comes is met, as some bytes come
pub Meets-whatever : (rest : Option (List ℕ)) {bytes : List ℕ} {P : List ℕ → Type 0}
    → ((more : List ℕ) → P (bytes ++ more)) → Meets rest bytes P
Meets-whatever None holds = record { bytes = []; all = tt; holds = holds [] }
Meets-whatever (Some told) holds = record { bytes = told; all = refl; holds = holds told }

-- what follows from a step alone is met
pub Meets-follows : {rest left : Option (List ℕ)} {before after : List ℕ}
    {P : List ℕ → List ℕ → Type 0} {R : List ℕ → Type 0} → ((x y : List ℕ) → P x y → R x)
    → Follows rest before left after P → Meets rest before R
Meets-follows {rest} {left} {before} {after} {P} {R} join one =
    Meets-after (λ x y so any. join x y so) one
    (Meets-whatever left {bytes = after} {P = λ (all : List ℕ). Unit {0}} (λ more. tt))

-- a fault of which one thing holds is one of which what follows from it holds
pub IsFaultOf-weaker : (stop : ImageStop) {P Q : PbmFault → Type 0}
    → ((fault : PbmFault) → P fault → Q fault) → IsFaultOf stop P → IsFaultOf stop Q
IsFaultOf-weaker Failed weaker holds = tt
IsFaultOf-weaker (Memory refused) weaker holds = tt
IsFaultOf-weaker (Fault fault) weaker holds = weaker fault holds
