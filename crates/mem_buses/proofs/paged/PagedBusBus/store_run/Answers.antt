use Rattle.std.proofs.Common.{arith}
use Rattle.mem_buses.proofs.CallLaws.{paged_map, run_undone, run_keeps_map}
use Rattle.mem_buses.proofs.paged.PagedBusBus.store_run.Goals as goal

pub returns-clause-undone : goal.returns-clause-undone
returns-clause-undone c = run_undone _ _ _ c.args.a _ (omega arith) (paged_map c.args.self.now) c.put_run.ensures

pub returns-clause-keeps : goal.returns-clause-keeps
returns-clause-keeps c = run_keeps_map _ _ _ _ _ c.put_run.ensures
