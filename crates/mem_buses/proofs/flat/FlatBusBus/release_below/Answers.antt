use Rattle.eh_bus.specs.declared.map.TheConstants.{STACK_END}
use Rattle.eh_bus.proofs.GuardOrder.{filter_rises}
use Rattle.mem_buses.proofs.CallLaws.{guards_keep_map}
use Rattle.mem_buses.proofs.flat.FlatBusBus.release_below.Goals as goal

pub invariant_of-self-clause-rising : goal.invariant_of-self-clause-rising
invariant_of-self-clause-rising c = rw (c.release_from.ensures STACK_END) (filter_rises _ _ _ c.args.self.now.rising)

pub returns-clause-keeps : goal.returns-clause-keeps
returns-clause-keeps c = guards_keep_map _ _
