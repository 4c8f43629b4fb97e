use Rattle.elf_image.proofs.Accepted.{loads_law}
use Rattle.elf_image.proofs.laws.segments_are_the_headers_to_load.Goals as goal

pub returns : goal.returns
returns c = loads_law
