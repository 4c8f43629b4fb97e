-- Headers in ascending order of their addresses: comparing neighbours is enough to know that no two overlap.
use Rattle.std.specs.Prelude.{◌≡◌, ℕ, ◌<◌, ◌||◌, nat_lt, Bool, false, List, [], ◌∷◌}
use Rattle.std.specs.List.{list_any}
use Rattle.std.specs.Map.{values_of}
use Rattle.elf_image.specs.Segments.{memory_end, some_overlap}
use Rattle.elf_image.specs.declared.format.ProgramHeader.{ProgramHeader}

-- one begins below the end of the one before it, or below low
abbrev pub overlap_from : ℕ → List ProgramHeader → Bool
overlap_from low [] = false
overlap_from low (h ∷ more) = nat_lt h.address low || overlap_from (memory_end h) more

-- each has memory
abbrev pub HaveMemory : List ProgramHeader → Type 0
HaveMemory [] = Unit {0}
HaveMemory (h ∷ more) = (0 < h.memory_size) × HaveMemory more

-- each stands at its address and has memory
abbrev pub AreKeyed : List (ℕ × ProgramHeader) → Type 0
AreKeyed [] = Unit {0}
AreKeyed (e ∷ more) = (e.0 ≡ e.1.address) × (0 < e.1.memory_size) × AreKeyed more

-- the entries hold these headers
pub record Hold (entries : List (ℕ × ProgramHeader)) (headers : List ProgramHeader) : Type 0 where
  pub same : (p : ProgramHeader → Bool) → list_any p (values_of entries) ≡ list_any p headers
  pub overlaps : some_overlap (values_of entries) ≡ some_overlap headers
  pub keyed : AreKeyed entries
