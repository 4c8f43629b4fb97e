use Rattle.eh_gates.specs.Gates.{gate_of}
use Rattle.eh_gates.proofs.gates.do_gate.Goals as goal

pub returns-in-25 : goal.returns-in-25
unfolding gate_of
returns-in-25 g c = rw c.in-25.is (c.uncaught_gate.ensures c.args.events.now)
