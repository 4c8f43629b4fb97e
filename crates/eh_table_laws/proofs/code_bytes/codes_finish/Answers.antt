use Rattle.eh_table_laws.proofs.Moving.{finishes}
use Rattle.eh_table_laws.proofs.code_bytes.codes_finish.Goals as goal

pub returns : goal.returns
returns c = finishes
