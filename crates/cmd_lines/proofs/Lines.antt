-- Lines of refusals.
use Rattle.std.proofs.Common.{◌≤◌, length, lit≤}
use Rattle.elf_image.specs.Fault.{fault_name}
use Rattle.elf_image.specs.declared.fault.ImageFault.{ImageFault}
use Rattle.elf_image.specs.declared.fault.ImageFault.TheVariants.{Truncated, NotElf, Class, Machine, Version, «Type», EntrySize, NoSymbols, SegmentRange, SegmentOverlap, IndexRange, TooLarge, Entry, OutOfMemory}

-- the name of why a file is no image is short
pub image_name_short : (fault : ImageFault) → length (fault_name fault) ≤ 16
image_name_short (Truncated need) = lit≤ tt
image_name_short NotElf = lit≤ tt
image_name_short Class = lit≤ tt
image_name_short Machine = lit≤ tt
image_name_short Version = lit≤ tt
image_name_short «Type» = lit≤ tt
image_name_short EntrySize = lit≤ tt
image_name_short NoSymbols = lit≤ tt
image_name_short SegmentRange = lit≤ tt
image_name_short SegmentOverlap = lit≤ tt
image_name_short IndexRange = lit≤ tt
image_name_short TooLarge = lit≤ tt
image_name_short Entry = lit≤ tt
image_name_short OutOfMemory = lit≤ tt
