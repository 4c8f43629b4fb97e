-- The segments of headers: those that were put in order are those that were there.
use Rattle.std.proofs.Common.{◌≡◌, ℕ, zero, suc, ◌<◌, Bool, true, false, ◌||◌, cond, List, [], ◌∷◌, map, Option, Some, None, is_some, refl, ◌∙◌, ap, arith}
use Rattle.std.specs.List.{list_any, All, filter}
use Rattle.std.proofs.lemmas.Bool.Decides.{nat_tests}
use Rattle.std.specs.Map.{values_of}
use Rattle.elf_image.specs.Format.{missing, first_of}
use Rattle.elf_image.specs.Segments.{Segment, bytes_refusal, by_address, segment_of, is_out_of_range, is_load, RiseFrom}
use Rattle.elf_image.specs.Sorted.{Hold, overlap_from}
use Rattle.elf_image.specs.declared.fault.ImageFault.{ImageFault}
use Rattle.elf_image.specs.declared.format.ProgramHeader.{ProgramHeader}
use Rattle.elf_image.proofs.Rising.{rise}

abbrev is_missing : List ℕ → ProgramHeader → Bool
is_missing bytes h = is_some (missing bytes h.offset h.file_size)

none_step : (o rest : Option ImageFault) → first_of (o ∷ rest ∷ []) ≡ None → (o ≡ None) × (rest ≡ None)
none_step None None h = (refl, refl)
none_step None (Some f) h = absurd cc
none_step (Some f) rest h = absurd cc

none_missing : (bytes : List ℕ) (hs : List ProgramHeader) → bytes_refusal bytes hs ≡ None → list_any (is_missing bytes) hs ≡ false
none_missing bytes [] h = refl
none_missing bytes (x ∷ hs) h =
    let step = none_step (missing bytes x.offset x.file_size) (bytes_refusal bytes hs) h in
    rw (step.0, none_missing bytes hs step.1) refl

both_false : (a b : Bool) → (a || b) ≡ false → (a ≡ false) × (b ≡ false)
both_false true b h = absurd cc
both_false false b h = (refl, h)

is_none : {X : Type 0} (o : Option X) → is_some o ≡ false → o ≡ None
is_none None h = refl
is_none (Some x) h = absurd cc

all_there : (bytes : List ℕ) (hs : List ProgramHeader) → list_any (is_missing bytes) hs ≡ false → All (λ h. missing bytes h.offset h.file_size ≡ None) hs
all_there bytes [] h k d inside = absurd (omega arith)
all_there bytes (x ∷ hs) h zero d inside = is_none (missing bytes x.offset x.file_size) (both_false (is_missing bytes x) (list_any (is_missing bytes) hs) h).0
all_there bytes (x ∷ hs) h (suc k) d inside = all_there bytes hs (both_false (is_missing bytes x) (list_any (is_missing bytes) hs) h).1 k d (omega arith)

-- the bytes of each header are there
pub sorted_there : (bytes : List ℕ) (es : List (ℕ × ProgramHeader)) (xs ys : List ProgramHeader) → Hold es xs → bytes_refusal bytes xs ≡ None → ys ≡ values_of es
    → All (λ h. missing bytes h.offset h.file_size ≡ None) ys
sorted_there bytes es xs ys hold there is =
    rw is (all_there bytes (values_of es) (hold.same (is_missing bytes) ∙ none_missing bytes xs there))

pub map_values : {X : Type 0} (f : ProgramHeader → X) (es : List (ℕ × ProgramHeader)) → map f (values_of es) ≡ map (λ (e : ℕ × ProgramHeader). f e.1) es
map_values f [] = refl
map_values f (e ∷ es) = ap (λ (more : List _). f e.1 ∷ more) (map_values f es)

pub sorted_rise : (bytes : List ℕ) (xs ys : List ProgramHeader) (segments : List Segment) → Hold (by_address xs) xs → list_any is_out_of_range xs ≡ false
    → ys ≡ values_of (by_address xs) → overlap_from 0 ys ≡ false → segments ≡ map (λ (e : ℕ × ProgramHeader). segment_of bytes e.1) (by_address xs) → RiseFrom 0 segments
sorted_rise bytes xs ys segments hold inside is apart e =
    rw e (rise bytes 0 (by_address xs) (omega arith) hold.keyed (rw is at apart) (hold.same is_out_of_range ∙ inside))

loaded_step : (h : ProgramHeader) (hs : List ProgramHeader) (b : Bool) → is_load h ≡ b → All (λ x. 0 < x.memory_size) hs → All (λ x. 0 < x.memory_size) (cond b (h ∷ hs) hs)
loaded_step h hs true e all zero d inside = let some : 0 < h.memory_size = grind (arith, nat_tests) in some
loaded_step h hs true e all (suc k) d inside = all k d (omega arith)
loaded_step h hs false e all k d inside = all k d inside

-- the headers to load have memory
pub have_memory : (hs : List ProgramHeader) → All (λ x. 0 < x.memory_size) (filter is_load hs)
have_memory [] = λ k d inside. absurd (omega arith)
have_memory (h ∷ hs) = loaded_step h (filter is_load hs) (is_load h) refl (have_memory hs)
