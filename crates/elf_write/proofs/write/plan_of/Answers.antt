use Rattle.elf_write.proofs.Planning.{few_programs, names_named}
use Rattle.elf_write.proofs.write.plan_of.Goals as goal

pub returns-clause-programs : goal.returns-clause-programs
returns-clause-programs c = rw c.in_ok-of_segments.ensures.programs (few_programs _ c.args.parts.now c.requires)

pub returns-clause-named : goal.returns-clause-named
returns-clause-named c = rw c.in_ok-of_segments.ensures.names (names_named c.args.parts.now.segments)
