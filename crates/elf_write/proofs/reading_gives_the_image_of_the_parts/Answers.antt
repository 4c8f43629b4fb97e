use Rattle.elf_write.proofs.Standing.{reads_back}
use Rattle.elf_write.proofs.reading_gives_the_image_of_the_parts.Goals as goal

pub returns : goal.returns
returns c = reads_back
