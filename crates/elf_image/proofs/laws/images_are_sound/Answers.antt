use Rattle.elf_image.proofs.Sound.{sound_law}
use Rattle.elf_image.proofs.laws.images_are_sound.Goals as goal

pub returns : goal.returns
returns c = sound_law
