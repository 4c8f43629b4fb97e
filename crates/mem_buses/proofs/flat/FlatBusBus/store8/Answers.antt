use Rattle.mem_buses.proofs.CallLaws.{flat_map, undone, store_keeps_map}
use Rattle.mem_buses.proofs.flat.FlatBusBus.store8.Goals as goal

pub returns-clause-undone : goal.returns-clause-undone
returns-clause-undone c = undone 1 _ _ _ _ _ (flat_map c.args.self.now) c.put8.ensures

pub returns-clause-keeps : goal.returns-clause-keeps
returns-clause-keeps c = store_keeps_map 1 _ _ _ _ _ c.put8.ensures
