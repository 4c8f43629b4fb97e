use Rattle.mem_buses.proofs.CallLaws.{flat_map, host_undone_by, host_keeps_map}
use Rattle.mem_buses.proofs.flat.FlatBusBus.host_store32.Goals as goal

pub returns-clause-undone : goal.returns-clause-undone
returns-clause-undone c = host_undone_by _ _ _ _ (flat_map c.args.self.now) c.requires.aligned c.requires.low c.requires.high c.put_host.ensures

pub returns-clause-keeps : goal.returns-clause-keeps
returns-clause-keeps c = host_keeps_map _ _ _ _ (flat_map c.args.self.now) c.requires.aligned c.requires.low c.requires.high c.put_host.ensures
