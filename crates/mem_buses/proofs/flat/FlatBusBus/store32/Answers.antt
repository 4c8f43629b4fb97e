use Rattle.mem_buses.proofs.CallLaws.{flat_map, word_undone, store_keeps_map}
use Rattle.mem_buses.proofs.flat.FlatBusBus.store32.Goals as goal

pub returns-clause-undone : goal.returns-clause-undone
returns-clause-undone c = word_undone _ _ _ _ _ (flat_map c.args.self.now) c.put32.ensures

pub returns-clause-keeps : goal.returns-clause-keeps
returns-clause-keeps c = store_keeps_map 4 _ _ _ _ _ c.put32.ensures
