-- The range of the exception index ("Exception Handling ABI for the Arm Architecture").
use Rattle.std.specs.Prelude.{ℕ, ◌+◌, ◌-◌, ◌%◌, ◌==◌, not, ◌&&◌, nat_le, Bool, List, [], ◌∷◌, length, find, Option, Some, None}
use Rattle.std.specs.List.{list_any}
use Rattle.elf_image.specs.Format.{fault_when, part}
use Rattle.elf_image.specs.Segments.{Segment}
use Rattle.elf_image.specs.declared.format.TheConstants.{PT_ARM_EXIDX}
use Rattle.elf_image.specs.declared.fault.ImageFault.{ImageFault}
use Rattle.elf_image.specs.declared.fault.ImageFault.TheVariants.{IndexRange}
use Rattle.elf_image.specs.declared.format.ProgramHeader.{ProgramHeader}

-- a header of an exception index (PT_ARM_EXIDX)
abbrev pub is_index : ProgramHeader → Bool
is_index h = h.kind == PT_ARM_EXIDX

-- the file bytes of a read-only segment contain the index, at a multiple of 4
abbrev pub holds_index : ProgramHeader → Segment → Bool
holds_index h s = not s.write && nat_le s.start h.address && nat_le (h.address + h.memory_size) (s.start + length s.bytes) && h.address % 4 == 0

-- a file must have at most one header of an index, and a segment that holds it
unfoldable pub index_refusal : List ProgramHeader → List Segment → Option ImageFault
index_refusal [] segments = None
index_refusal (h ∷ []) segments = fault_when (not (list_any (holds_index h) segments)) IndexRange
index_refusal (h ∷ i ∷ more) segments = Some IndexRange

abbrev pub index_bytes_in : ProgramHeader → Option Segment → List ℕ
index_bytes_in h None = []
index_bytes_in h (Some s) = part s.bytes (h.address - s.start) h.memory_size

-- the address and the bytes of the index; 0 and none without one
unfoldable pub index_of : List ProgramHeader → List Segment → ℕ × List ℕ
index_of [] segments = (0, [])
index_of (h ∷ more) segments = (h.address, index_bytes_in h (find (holds_index h) segments))
