use Rattle.gnu_machine.proofs.Arrives.{catches_have_landed}
use Rattle.gnu_machine.proofs.laws.catches_have_landed.Goals as goal

pub returns : goal.returns
returns c = catches_have_landed c.cleanups_are_outside.ensures
