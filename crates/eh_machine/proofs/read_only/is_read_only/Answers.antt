use Rattle.eh_machine.proofs.Confirmed.{read_only}
use Rattle.eh_machine.proofs.read_only.is_read_only.Goals as goal

pub returns-in-Err-ReadOnly-clause-fixed : goal.returns-in-Err-ReadOnly-clause-fixed
returns-in-Err-ReadOnly-clause-fixed g c = λ e. read_only (g.B.Bus.memory c.args.bus.now) _ c.args.address c.in-Ok.value c.in-Err-ReadOnly.field-0-0 c.in-Err-ReadOnly.field-0 c.in-Err-ReadOnly.field-0-is c.in-Err-ReadOnly.ensures.stored
