use Rattle.elf_image.proofs.Sound.{functions_law}
use Rattle.elf_image.proofs.laws.functions_are_those_of_the_symbols.Goals as goal

pub returns : goal.returns
returns c = functions_law
