use Rattle.test_machine.proofs.Standing.{stood_by}
use Rattle.test_machine.proofs.witness.machine_after.Goals as goal

pub returns : goal.returns
returns c =
    stood_by c.args.code.now c.args.events _ _ c.run-end.result _ _ _ _ c.in_ok-machine.ensures.recorded c.run-end.ensures.faults.input.rose c.run-end.ensures.faults.out.rose
    _ c.nothing-input.ensures (rw (c.in_ok-machine.ensures.program, c.in_ok-machine.ensures.budget) at c.run-end.ensures.recorded)
