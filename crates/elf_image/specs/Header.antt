-- The tests of the headers, in order; they come before those of the segments.
use Rattle.std.specs.Prelude.{ℕ, ◌*◌, ◌==◌, not, ◌&&◌, ◌||◌, List, [], ◌∷◌, slice_index, Option}
use Rattle.elf_image.specs.Format.{first_of, fault_when, missing, file_header, program_offset, section_offset, program_count, section_count}
use Rattle.elf_image.specs.declared.format.TheConstants.{FILE_HEADER_SIZE, PROGRAM_HEADER_SIZE, SECTION_HEADER_SIZE, EM_ARM, ET_EXEC, EABI_VERSION}
use Rattle.elf_image.specs.declared.fault.ImageFault.{ImageFault}
use Rattle.elf_image.specs.declared.fault.ImageFault.TheVariants.{NotElf, Class, Machine, Version, «Type», EntrySize}

-- the file header
unfoldable pub header_refusal : List ℕ → Option ImageFault
header_refusal bytes = first_of (
    missing bytes 0 FILE_HEADER_SIZE
    ∷ fault_when (not (slice_index bytes 0 == 0x7f && slice_index bytes 1 == 0x45 && slice_index bytes 2 == 0x4c && slice_index bytes 3 == 0x46)) NotElf
    ∷ fault_when (not (slice_index bytes 4 == 1 && slice_index bytes 5 == 1 && slice_index bytes 6 == 1)) Class
    ∷ fault_when (not ((file_header bytes).machine == EM_ARM)) Machine
    ∷ fault_when (not ((file_header bytes).abi_version == EABI_VERSION)) Version
    ∷ fault_when (not ((file_header bytes).kind == ET_EXEC)) «Type»
    ∷ [])

-- the tables of headers: the sizes of their entries, and whether they are there
unfoldable pub table_refusal : List ℕ → Option ImageFault
table_refusal bytes = first_of (
    fault_when ((not (program_count bytes == 0) && not ((file_header bytes).program_size == PROGRAM_HEADER_SIZE)) || (not (section_count bytes == 0) && not ((file_header bytes).section_size == SECTION_HEADER_SIZE))) EntrySize
    ∷ missing bytes (program_offset bytes) (PROGRAM_HEADER_SIZE * program_count bytes)
    ∷ missing bytes (section_offset bytes) (SECTION_HEADER_SIZE * section_count bytes)
    ∷ [])
