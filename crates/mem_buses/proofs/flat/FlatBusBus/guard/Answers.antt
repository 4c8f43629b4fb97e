use Rattle.eh_bus.proofs.GuardOrder.{inserted_rises}
use Rattle.mem_buses.proofs.CallLaws.{guards_keep_map}
use Rattle.mem_buses.proofs.flat.FlatBusBus.guard.Goals as goal

pub invariant_of-self-clause-rising : goal.invariant_of-self-clause-rising
invariant_of-self-clause-rising c =
    rw c.insert.ensures (inserted_rises _ c.args.a _ c.requires.low c.requires.aligned c.requires.high c.args.self.now.rising)

pub returns-clause-keeps : goal.returns-clause-keeps
returns-clause-keeps c = guards_keep_map _ _
