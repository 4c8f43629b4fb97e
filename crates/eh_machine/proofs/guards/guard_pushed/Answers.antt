use Rattle.eh_machine.proofs.Saved.{guard_none}
use Rattle.eh_machine.proofs.guards.guard_pushed.Goals as goal

pub returns-then-count-eq0 : goal.returns-then-count-eq0
returns-then-count-eq0 g c = guard_none c.args.saves c.args.count c.args.sp (g.B.Bus.memory c.args.bus.now) c.if-count-eq0.true
