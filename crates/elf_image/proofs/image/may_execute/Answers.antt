use Rattle.std.proofs.Common.{sym}
use Rattle.elf_image.proofs.Lookups.{execute_none}
use Rattle.elf_image.proofs.image.may_execute.Goals as goal

pub returns-in-None : goal.returns-in-None
returns-in-None c = sym (execute_none c.args.a c.args.segments.now c.requires (sym c.in-None.ensures.found))
