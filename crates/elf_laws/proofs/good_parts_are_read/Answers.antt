use Rattle.elf_laws.proofs.Refusals.{law_of_good_parts, law_of_their_image}
use Rattle.elf_laws.proofs.good_parts_are_read.Goals as goal

pub returns : goal.returns
returns c = record { written = law_of_good_parts; read = law_of_their_image }
