-- The machine values of a region, a tile and a lease: what their fields own tells each, and is made
-- of nothing.
use Rattle.std.proofs.Common.{◌≡◌, ℕ, ◌^◌, ◌<◌, List, [], ◌∷◌, ◌++◌, refl, ◌∙◌, w32}
use seplogic.Ra.Ura.{Ura}
use mir.Val.{Val, vint, vstruct, vcons, vnil, of_list}
use base.Logic.{ent, emp}
use base.Fml.{Fml}
use types.Logic.{Logic, sem}
use denote.RattleType.{RattleType}
use denote.Builtin.{u32}
use denote.RawPtr.{Ptr, RawPtr, ptr_val}
use denote.Shadow.{shadow, makes_shadow}
use denote.Struct.Struct.{Struct}

-- a struct is taken by its fields alone, since what it owns doesn't read its name
abbrev pub plainly : List RattleType → RattleType
plainly Rs = Struct (record { name = []; args = []; types = []; fields = Rs })

-- a region's machine value is its pointer
abbrev pub region_val : Ptr → Val
region_val p0 = vstruct (vcons (ptr_val p0) vnil)

-- a region's fields own this at these machine values
abbrev pub region_own : Ptr → List Val → Fml
region_own p0 = (plainly (RawPtr ∷ [])).own_val (p0, tt)

-- what a region's fields own tells its machine value
pub region_told : (p0 : Ptr) (vs : List Val) → shadow (region_own p0 vs) → (vs ≡ region_val p0 ∷ [])
    × Unit {0}
region_told p0 vs s = (s.1.0 ∙ (λ i. vstruct (of_list (s.1.1.0 i ++ [])) ∷ []), tt)

-- what a region's fields own at its machine value is made of nothing
pub region_made : {M : Type 1} {𝓤 : Ura M} (𝓛 : Logic 𝓤) (p0 : Ptr)
    → ent 𝓤 (emp 𝓤) (sem 𝓛 (region_own p0 (region_val p0 ∷ [])))
region_made 𝓛 p0 =
    makes_shadow 𝓛 (region_own p0 (region_val p0 ∷ [])) (λ _. (tt, (tt, tt)))
    ((ptr_val p0 ∷ [], tt), (refl, (refl, tt)))

-- a tile's machine value is its pointer and its number
abbrev pub tile_val : Ptr → ℕ → Val
tile_val p0 n1 = vstruct (vcons (ptr_val p0) (vcons (vint w32 n1) vnil))

-- a tile's fields own this at these machine values
abbrev pub tile_own : Ptr → ℕ → List Val → Fml
tile_own p0 n1 = (plainly (RawPtr ∷ u32 ∷ [])).own_val (p0, (n1, tt))

-- what a tile's fields own tells its machine value, and that its number fits in 32 bits
pub tile_told : (p0 : Ptr) (n1 : ℕ) (vs : List Val) → shadow (tile_own p0 n1 vs)
    → (vs ≡ tile_val p0 n1 ∷ []) × (n1 < 2 ^ 32)
tile_told p0 n1 vs s =
    (s.1.0 ∙ (λ i. vstruct (of_list (s.1.1.0 i ++ (s.1.1.1.0.0 i ++ []))) ∷ []), s.1.1.1.0.1)

-- what a tile's fields own at its machine value is made of nothing, where its number fits in 32
-- bits
pub tile_made : {M : Type 1} {𝓤 : Ura M} (𝓛 : Logic 𝓤) (p0 : Ptr) (n1 : ℕ) → (n1 < 2 ^ 32)
    → ent 𝓤 (emp 𝓤) (sem 𝓛 (tile_own p0 n1 (tile_val p0 n1 ∷ [])))
tile_made 𝓛 p0 n1 f =
    makes_shadow 𝓛 (tile_own p0 n1 (tile_val p0 n1 ∷ [])) (λ _. (tt, (tt, ((tt, tt), tt))))
    ((ptr_val p0 ∷ [], (vint w32 n1 ∷ [], tt)), (refl, (refl, ((refl, f), tt))))

-- a lease's machine value is an empty marker
abbrev pub lease_val : Val
lease_val = vstruct (vcons (vstruct vnil) vnil)

-- a lease's fields own this at these machine values
abbrev pub lease_own : List Val → Fml
lease_own = (plainly (plainly [] ∷ [])).own_val (tt, tt)

-- what a lease's fields own tells its machine value
pub lease_told : (vs : List Val) → shadow (lease_own vs) → (vs ≡ lease_val ∷ []) × Unit {0}
lease_told vs s = (s.1.0 ∙ (λ i. vstruct (of_list (s.1.1.0.1.0 i ++ [])) ∷ []), tt)

-- what a lease's fields own at its machine value is made of nothing
pub lease_made : {M : Type 1} {𝓤 : Ura M} (𝓛 : Logic 𝓤) → Unit {0}
    → ent 𝓤 (emp 𝓤) (sem 𝓛 (lease_own (lease_val ∷ [])))
lease_made 𝓛 f =
    makes_shadow 𝓛 (lease_own (lease_val ∷ [])) (λ _. (tt, ((λ _. (tt, tt)), tt)))
    ((vstruct vnil ∷ [], tt), (refl, ((tt, (refl, tt)), tt)))

-- a refusal's machine value is empty
abbrev pub refusal_val : Val
refusal_val = vstruct vnil

-- a refusal's fields own this at these machine values
abbrev pub refusal_own : List Val → Fml
refusal_own = (plainly []).own_val tt

-- what a refusal's fields own at its machine value is made of nothing
pub refusal_made : {M : Type 1} {𝓤 : Ura M} (𝓛 : Logic 𝓤)
    → ent 𝓤 (emp 𝓤) (sem 𝓛 (refusal_own (refusal_val ∷ [])))
refusal_made 𝓛 =
    makes_shadow 𝓛 (refusal_own (refusal_val ∷ [])) (λ _. (tt, tt)) (tt, (refl, tt))
