use Rattle.std.proofs.Common.{refl}
use Rattle.eh_machine.proofs.pass.fast_call_or_return.Goals as goal

pub call-requires-clause-call : goal.call-requires-clause-call
call-requires-clause-call g c = record { off = _; is = refl }
