use Rattle.eh_table_laws.proofs.Moving.{single_pops, pops_with_link}
use Rattle.eh_table_laws.proofs.code_bytes.registers_are_popped.Goals as goal

pub returns : goal.returns
returns c = record { single = single_pops; link = pops_with_link }
