-- What went well has no fault, and a fault that is passed on is the one that came.
use Rattle.std.proofs.Common.{◌≡◌, ◌≢◌, ◌+◌, ◌≤◌, ℕ, Bool, true, false, Result, Ok, Err, OnOk}
use Rattle.std.proofs.Common.{OnErr, ap, arith, not, refl, sym, ◌∙◌}
use Rattle.ask.specs.declared.ask.Stop.{Stop}
use Rattle.ask.specs.declared.ask.Stop.TheVariants.{Memory, Net, Standard}

-- what went well has no fault
pub no_fault : {T : Type 0} (value : T) (stop : Stop) → Ok value ≢ Err stop
no_fault value stop = λ e. absurd cc

-- what failed has no answer
pub no_reply : {T : Type 0} (value : T) (stop : Stop) → Err stop ≢ Ok value
no_reply value stop = λ e. absurd cc

-- a run that is over doesn't go on
pub ended : (more : Bool) → more ≡ false → ◌≢◌ {A = Result Bool Stop} (Ok more) (Ok true)
ended more over = λ e. absurd cc

-- a fault of the network is none of a standard stream
pub no_standard : {T : Type 0} (result : Result T Stop) → result ≡ Err Net → result ≢ Err Standard
no_standard result is = λ e. absurd cc

-- a fault that is passed on is the one that came
pub passed_same : {T U : Type 0} (result : Result T Stop) (passed came stop : Stop)
    → result ≡ Err passed → passed ≡ came → result ≡ Err stop
    → ◌≡◌ {A = Result U Stop} (Err came) (Err stop)
passed_same result passed came stop is same fault = cc

-- a fault that is passed on is another one where the one that came is
pub passed_other : {T U : Type 0} (result : Result T Stop) (passed came stop : Stop)
    → result ≡ Err passed → passed ≡ came → result ≢ Err stop
    → ◌≢◌ {A = Result U Stop} (Err came) (Err stop)
passed_other result passed came stop is same other = λ e. other cc

-- what holds anyway holds on success
pub held_on_ok : {T E P : Type 0} (result : Result T E) → P → OnOk result P
held_on_ok (Ok value) holds = holds
held_on_ok (Err fault) holds = tt

-- what holds anyway holds on failure
pub held_on_err : {T E P : Type 0} (result : Result T E) → P → OnErr result P
held_on_err (Ok value) holds = tt
held_on_err (Err fault) holds = holds

-- two pairs that are the same have the same parts
pub same_parts : {A B : Type 0} (after before : A × B) (a c : A) (b d : B) → after ≡ before
    → after ≡ (a, b) → before ≡ (c, d) → (a ≡ c) × (b ≡ d)
same_parts after before a c b d same is was =
    let both = sym is ∙ (same ∙ was) in
    (ap (λ p. p.0) both, ap (λ p. p.1) both)

-- one failed read is one failure
pub read_failed : (reads before writes : ℕ) → reads ≡ before + 1
    → reads + writes ≡ before + writes + 1
read_failed reads before writes failed = omega (arith, failed)

-- one failed write is one failure
pub write_failed : (reads before writes first : ℕ) → reads ≡ before → writes ≡ first + 1
    → reads + writes ≡ before + first + 1
write_failed reads before writes first same failed = omega (arith, same, failed)

-- a run is over where its last reply says so
pub over_said : (said : Bool) → ◌≡◌ {A = Result Bool Stop} (Ok (not said)) (Ok false) → said ≡ true
over_said true over = refl
over_said false over = absurd cc

-- a run goes on where its last reply doesn't say that it is over
pub more_said : (said : Bool) → ◌≡◌ {A = Result Bool Stop} (Ok (not said)) (Ok true) → said ≡ false
more_said true more = absurd cc
more_said false more = refl

-- a run that doesn't go on is over
pub not_going : (said : Bool) → ◌≢◌ {A = Result Bool Stop} (Ok (not said)) (Ok true) → said ≡ true
not_going true other = refl
not_going false other = absurd (other refl)

-- another fault is another failure
pub other_fault : {T : Type 0} (one other : Stop) → one ≢ other
    → ◌≢◌ {A = Result T Stop} (Err one) (Err other)
other_fault one other differs = λ e. differs cc

-- what every other fault leaves is changed only by that of a standard stream
pub is_standard : {T P : Type 0} (stop : Stop)
    → (◌≢◌ {A = Result T Stop} (Err stop) (Err Standard) → P) → (P → ⊥) → stop ≡ Standard
is_standard Standard kept changed = refl
is_standard Net kept changed = absurd (changed (kept (λ e. absurd cc)))
is_standard (Memory refused) kept changed = absurd (changed (kept (λ e. absurd cc)))

-- where no call has failed, there is at most one failure
pub no_failure : (reads before writes first : ℕ) → reads ≡ before → writes ≡ first
    → reads + writes ≤ before + first + 1
no_failure reads before writes first one two = omega (arith, one, two)

-- where the calls on the standard streams went well, no failure of theirs is counted
pub well_stopped : (reads before writes first last : ℕ) → reads ≡ before → last ≡ first
    → last ≡ writes → reads + writes ≡ before + first + 1 → ⊥
well_stopped reads before writes first last one two same failed =
    omega (arith, one, two, same, failed)

-- where a run stops, at most one call on the standard streams has failed, the line of its end too
pub one_failed : {T : Type 0} (stop : Stop) (reads before writes first last : ℕ)
    → (◌≡◌ {A = Result T Stop} (Err stop) (Err Standard) → reads + writes ≡ before + first + 1)
    → (◌≢◌ {A = Result T Stop} (Err stop) (Err Standard) → reads ≡ before)
    → (◌≢◌ {A = Result T Stop} (Err stop) (Err Standard) → writes ≡ first)
    → (stop ≡ Standard → last ≡ writes) → last ≤ writes + 1 → reads + last ≤ before + first + 1
one_failed Standard reads before writes first last failed kept held same counts =
    omega (arith, failed refl, same refl)
one_failed Net reads before writes first last failed kept held same counts =
    omega (arith, kept (λ e. absurd cc), held (λ e. absurd cc), counts)
one_failed (Memory refused) reads before writes first last failed kept held same counts =
    omega (arith, kept (λ e. absurd cc), held (λ e. absurd cc), counts)

-- a run that is refused isn't done
pub refused : (status : ℕ) → status ≡ 1 → status ≢ 0
refused status is = λ done. absurd (omega (arith, is, done))
