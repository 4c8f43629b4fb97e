use Rattle.elf_image.proofs.Sound.{marks_law}
use Rattle.elf_image.proofs.laws.the_last_mapping_symbol_below_decides.Goals as goal

pub returns : goal.returns
returns c = marks_law
