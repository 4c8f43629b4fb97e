use Rattle.sim_guards.proofs.Stores.{trap_stores}
use Rattle.sim_guards.proofs.runs_trap_stores.Goals as goal

pub returns : goal.returns
returns c = trap_stores
