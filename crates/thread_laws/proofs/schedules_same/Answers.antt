use Rattle.thread_laws.proofs.Whole.{schedules_same}
use Rattle.thread_laws.proofs.schedules_same.Goals as goal

pub returns : goal.returns
returns c = schedules_same (record {
  turns = c.turns_same.ensures;
  beyond = c.beyond_stays.ensures;
  states = record { memory = c.free_memory.ensures; starts = c.free_starts.ensures; gates = c.free_after_gates.ensures };
})
