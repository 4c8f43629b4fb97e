use Rattle.elf_image.proofs.Ascending.{zeros_rise}
use Rattle.elf_image.proofs.symbol.name_at.Goals as goal

pub next_zero-requires : goal.next_zero-requires
next_zero-requires c = zeros_rise c.args.zeros.now c.args.strings.now c.requires.zeros
