use Rattle.gnu_machine.proofs.Arrives.{pads_are_free}
use Rattle.gnu_machine.proofs.laws.pads_are_free.Goals as goal

pub returns : goal.returns
returns c = pads_are_free c.cleanups_are_outside.ensures c.free_registers.ensures c.free_anywhere.ensures c.facts_are_there.ensures
