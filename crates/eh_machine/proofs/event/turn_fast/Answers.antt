use Rattle.std.proofs.Common.{refl}
use Rattle.sim_machines.specs.Checked.{program_of}
use Rattle.eh_machine.proofs.Passing.{was_left}
use Rattle.eh_machine.proofs.event.turn_fast.Goals as goal

pub returns-in_default : goal.returns-in_default
returns-in_default g c = was_left (program_of c.args.a.now) c.args.core.now (g.B.Bus.memory c.args.bus.now) _ _ refl refl

pub fast_path-requires-clause-fetched : goal.fast_path-requires-clause-fetched
fast_path-requires-clause-fetched g c = c.in-Some.ensures (program_of c.args.a.now) (g.B.Bus.memory c.args.bus.now) c.requires.cache c.requires.confirmed
