use Rattle.elf_write.proofs.Standing.{stands}
use Rattle.elf_write.proofs.what_is_written_stands_for_its_parts.Goals as goal

pub returns : goal.returns
returns c = stands
