use Rattle.mem_buses.proofs.CallLaws.{paged_map, undone, store_keeps_map}
use Rattle.mem_buses.proofs.paged.PagedBusBus.store16.Goals as goal

pub returns-clause-undone : goal.returns-clause-undone
returns-clause-undone c = undone 2 _ _ _ _ _ (paged_map c.args.self.now) c.put16.ensures

pub returns-clause-keeps : goal.returns-clause-keeps
returns-clause-keeps c = store_keeps_map 2 _ _ _ _ _ c.put16.ensures
