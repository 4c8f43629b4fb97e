use Rattle.asm_laws.proofs.Handlers.{law_of_handlers}
use Rattle.asm_laws.proofs.handlers_stand_after_their_tables.Goals as goal

pub returns : goal.returns
returns c = law_of_handlers
