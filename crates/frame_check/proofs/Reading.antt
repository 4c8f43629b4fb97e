-- Laws of an index that was read.
use Rattle.std.proofs.Common.{◌≡◌, Option, Some, None, Ok, rules}
use Rattle.elf_image.specs.Image.{Image}
use Rattle.eh_index.specs.declared.fault.IndexFault.{IndexFault}
use Rattle.eh_index.specs.Refusal.{unless_refused}

-- where an index is read there is nothing to refuse, and it is that of the image
pub read_gives : (refusal : Option IndexFault) (image index : Image) → unless_refused refusal image ≡ Ok index → (refusal ≡ None) × (index ≡ image)
read_gives None image index h = search rules
read_gives (Some fault) image index h = search rules
