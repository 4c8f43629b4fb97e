use Rattle.sim_machines.specs.Checked.{program_of}
use Rattle.eh_machine.proofs.pass.fast_path.Goals as goal

pub returns-in-FallThrough : goal.returns-in-FallThrough
returns-in-FallThrough g c = c.fall_through.ensures (program_of c.args.a.now) c.requires.fetched

pub returns-in-Pushes : goal.returns-in-Pushes
returns-in-Pushes g c = c.fall_through-in-Pushes.ensures (program_of c.args.a.now) c.requires.fetched

pub returns-in-Jumps : goal.returns-in-Jumps
returns-in-Jumps g c = c.jump.ensures (program_of c.args.a.now) c.requires.fetched
