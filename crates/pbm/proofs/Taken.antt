-- The rasters and images that a window takes.
use Rattle.std.proofs.Common.{◌≡◌, ℕ, ◌*◌, ◌<◌, Bool, true, false, List, [], ◌∷◌, ◌++◌, length}
use Rattle.std.proofs.Common.{Option, Ok, Err, refl, sym, ap, subst, arith, rules}
use Rattle.metric.specs.Stream.{AreAll}
use Rattle.metric.specs.declared.fault.PbmFault.{PbmFault}
use Rattle.metric.specs.declared.fault.PbmFault.TheVariants.{Memory}
use Rattle.bits.specs.Cells.{Cells, cells_where}
use Rattle.pbm.specs.declared.header.Form.{Form}
use Rattle.pbm.specs.Faults.{cells_of_pixels, ended, header, image, pixels, plain_raster, raster}
use Rattle.pbm.specs.Windows.{HasFault, HasImage, IsStopped, Meets}
use Rattle.pbm.proofs.Headers.{header-memory}
use Rattle.pbm.proofs.Images.{image-reads, fault-none}
use Rattle.pbm.proofs.Following.{Meets-end, Meets-whatever}
use Rattle.std.proofs.lemmas.Grind.{common_steps}
use Rattle.std.proofs.lemmas.Bool.Decides.{nat_tests}

-- where a plain image may end in front of what is there, it may end in front of all that comes
pub ends-so : (rest : Option (List ℕ)) (bytes left : List ℕ) (none : Bool)
    → (none ≡ true → AreAll rest []) → (none ≡ false → 0 < length bytes) → ended bytes ≡ Ok left
    → Meets rest bytes (λ all. ended all ≡ Ok all)
ends-so rest [] left true all some e = Meets-end (all refl) refl
ends-so rest [] left false all some e = absurd (let no = some refl in omega arith)
ends-so rest (byte ∷ bytes) left none all some e =
    grind (arith, nat_tests, common_steps, Meets-whatever)

-- what may not stand after a plain image may not stand there, whatever comes
pub ends-not : (rest : Option (List ℕ)) (bytes : List ℕ) (fault : PbmFault)
    → ended bytes ≡ Err fault → Meets rest bytes (λ all. ended all ≡ Err fault)
ends-not rest [] fault e = absurd (cc)
ends-not rest (byte ∷ bytes) fault e = grind (arith, nat_tests, common_steps, Meets-whatever)

-- pixels and an end are a plain raster
pub plain-so : (width height : ℕ) (cells : Cells) (all others : List ℕ) → (black : List Bool)
    × (pixels (width * height) all ≡ Ok (black, others))
    × (cells ≡ cells_of_pixels width height black)
    → ended others ≡ Ok others
    → (left : List ℕ) × (plain_raster width height all ≡ Ok (cells, left))
unfolding plain_raster
plain-so width height cells all others read end =
    (others, rw (read.1, end) (ap (λ (c : Cells). Ok (c, others)) (sym read.2)))

-- pixels and what may not stand after them are no plain raster
pub plain-not : (width height : ℕ) (cells : Cells) (fault : PbmFault) (all others : List ℕ)
    → (black : List Bool) × (pixels (width * height) all ≡ Ok (black, others))
    × (cells ≡ cells_of_pixels width height black)
    → ended others ≡ Err fault → plain_raster width height all ≡ Err fault
unfolding plain_raster
plain-not width height cells fault all others read end = rw (read.1, end) refl

-- a fault among the pixels is the plain raster's
pub plain-fault : (width height : ℕ) (fault : PbmFault) (all : List ℕ)
    → pixels (width * height) all ≡ Err fault → plain_raster width height all ≡ Err fault
unfolding plain_raster
plain-fault width height fault all read = rw read refl

-- a header and a raster of its size are an image
pub image-so : (form : Form) (width height : ℕ) (blank cells : Cells)
    → blank ≡ cells_where width height (λ x y. false) → (all others : List ℕ)
    → header all ≡ Ok (form, width, height, others)
    → (left : List ℕ) × (raster form blank.width blank.height others ≡ Ok (cells, left))
    → (left : List ℕ) × (image all ≡ Ok (cells, left))
unfolding image
image-so form width height blank cells is all others front end =
    grind (arith, nat_tests, common_steps)

-- a fault of the raster is the image's
pub image-not : (form : Form) (width height : ℕ) (blank : Cells)
    → blank ≡ cells_where width height (λ x y. false) → (fault : PbmFault) (all others : List ℕ)
    → header all ≡ Ok (form, width, height, others)
    → raster form blank.width blank.height others ≡ Err fault → IsStopped all fault
unfolding image
image-not form width height blank is fault all others front end =
    grind (arith, nat_tests, common_steps)

-- a fault before the raster is the image's, and isn't out of memory
pub image-fault : (fault : PbmFault) (all : List ℕ) → header all ≡ Err fault → IsStopped all fault
unfolding image
image-fault fault all e =
    record { first = λ other. rw e refl; memory = λ none. absurd (header-memory all fault e none) }

-- where there is no memory for the bitmap, all before the raster is good
pub image-memory : (found : Form × ℕ × ℕ × List ℕ) (all : List ℕ) → header all ≡ Ok found
    → IsStopped all Memory
image-memory found all e =
    record { first = λ real. absurd (real refl); memory = λ none. rw e refl }

-- where an image is met, the source has it
pub HasImage-met : (rest : Option (List ℕ)) (bytes : List ℕ) → bytes ≡ [] → (cells : Cells)
    → Meets rest bytes (λ all. (others : List ℕ) × (image all ≡ Ok (cells, others)))
    → HasImage rest cells
HasImage-met rest bytes none cells met = search (rules, arith, image-reads)

-- where a fault is met, the source has it
pub HasFault-met : (rest : Option (List ℕ)) (bytes : List ℕ) → bytes ≡ [] → (fault : PbmFault)
    → Meets rest bytes (λ all. IsStopped all fault) → HasFault rest fault
HasFault-met rest bytes none fault met =
    let there : IsStopped met.bytes fault = subst
    (λ (t : List ℕ). IsStopped (t ++ met.bytes) fault) none met.holds in
    record {
      bytes = met.bytes;
      all = met.all;
      first = there.first;
      none = λ real. fault-none met.bytes fault (there.first real);
      memory = there.memory;
    }
