-- The names of the refusals, as they are printed.
use Rattle.std.specs.Prelude.{ℕ, List, codes}
use Rattle.elf_image.specs.declared.fault.ImageFault.{ImageFault}
use Rattle.elf_image.specs.declared.fault.ImageFault.TheVariants.{Truncated, NotElf, Class, Machine, Version, «Type», EntrySize, NoSymbols, SegmentRange, SegmentOverlap, IndexRange, TooLarge, Entry, OutOfMemory}

abbrev pub fault_name : ImageFault → List ℕ
fault_name (Truncated need) = codes "Truncated"
fault_name NotElf = codes "NotElf"
fault_name Class = codes "Class"
fault_name Machine = codes "Machine"
fault_name Version = codes "Version"
fault_name «Type» = codes "Type"
fault_name EntrySize = codes "EntrySize"
fault_name NoSymbols = codes "NoSymbols"
fault_name SegmentRange = codes "SegmentRange"
fault_name SegmentOverlap = codes "SegmentOverlap"
fault_name IndexRange = codes "IndexRange"
fault_name TooLarge = codes "TooLarge"
fault_name Entry = codes "Entry"
fault_name OutOfMemory = codes "OutOfMemory"
