use Rattle.std.proofs.Common.{rules}
use Rattle.elf_write.proofs.Planning.{long_strings, long_table}
use Rattle.elf_write.proofs.write.symbol_pieces.Goals as goal

pub returns-then-len-ge268435456-clause-long : goal.returns-then-len-ge268435456-clause-long
returns-then-len-ge268435456-clause-long c = long_table c.args.parts.now (search rules)

pub returns-then-len-ge4294967296-clause-long : goal.returns-then-len-ge4294967296-clause-long
returns-then-len-ge4294967296-clause-long c = long_strings c.args.parts.now (search rules)
