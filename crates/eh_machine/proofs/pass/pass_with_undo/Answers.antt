use Rattle.sim_machines.specs.Checked.{program_of}
use Rattle.sim_machines.specs.Program.{profile_in}
use Rattle.eh_machine.proofs.pass.pass_with_undo.Goals as goal

pub pass_with-requires-clause-restores : goal.pass_with-requires-clause-restores
pass_with-requires-clause-restores g c = c.undo_record_of-undo_record.ensures (profile_in (program_of c.args.a.now)) c.in-Ok.ensures.fetched.there
