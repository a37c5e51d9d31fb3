-- A chain of steps, each of which may fail.
use Rattle.std.proofs.Common.{◌≡◌, ◌≢◌, Bool, true, false, cond, Result, Ok, Err, refl, inl, inr}
use Rattle.std.specs.Prelude.{◌⊎◌}
use Rattle.metric.specs.declared.fault.PbmFault.{PbmFault}
use Rattle.metric.specs.declared.fault.PbmFault.TheVariants.{Memory}
use Rattle.pbm.specs.Faults.{◌>>=◌}

-- a step that does not fail
abbrev done : {A : Type 0} → A → Result A PbmFault
done x = Ok x

-- what is answered is one value
pub ok_is : {A : Type 0} (x y : A) → done x ≡ done y → x ≡ y
ok_is x y e = cc

-- a step before the last did not fail
pub bind_ok : {A B : Type 0} (r : Result A PbmFault) (f : A → Result B PbmFault) (y : B)
    → (r >>= f) ≡ Ok y → (x : A) × (r ≡ Ok x) × (f x ≡ Ok y)
bind_ok (Ok x) f y e = (x, refl, e)
bind_ok (Err d) f y e = absurd cc

-- the side of a test that was taken says how the test came out
pub chosen : {A : Type 0} (b : Bool) (x y z : A) → cond b x y ≡ z → ((b ≡ true) × (x ≡ z))
    ⊎ ((b ≡ false) × (y ≡ z))
chosen true x y z e = inl (refl, e)
chosen false x y z e = inr (refl, e)

-- a step that never reports out of memory
abbrev pub IsOfBytes : {A : Type 0} → Result A PbmFault → Type 0
IsOfBytes (Ok x) = Unit {0}
IsOfBytes (Err fault) = fault ≢ Memory

-- where neither of two steps reports out of memory, both together don't
pub bind-of_bytes : {A B : Type 0} (r : Result A PbmFault) (f : A → Result B PbmFault) → IsOfBytes r
    → ((x : A) → IsOfBytes (f x)) → IsOfBytes (r >>= f)
bind-of_bytes (Ok x) f h k = k x
bind-of_bytes (Err d) f h k = h

-- where neither of two steps reports out of memory, a test between them doesn't
pub cond-of_bytes : {A : Type 0} (b : Bool) (x y : Result A PbmFault) → IsOfBytes x → IsOfBytes y
    → IsOfBytes (cond b x y)
cond-of_bytes true x y h k = h
cond-of_bytes false x y h k = k
