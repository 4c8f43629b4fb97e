use Rattle.thread_laws.proofs.Runs.{runs_stand}
use Rattle.thread_laws.proofs.runs_stand.Goals as goal

pub returns : goal.returns
returns c = runs_stand (record {
  turns = c.turns_same.ensures;
  beyond = c.beyond_stays.ensures;
  states = record { memory = c.free_memory.ensures; starts = c.free_starts.ensures; gates = c.free_after_gates.ensures };
})
