-- The end of a cleanup in both machines.
use Rattle.std.specs.Prelude.{ℕ}
use Rattle.thumb_isa.specs.declared.instr.Instr.TheVariants.{Svc}
use Rattle.frame_check.specs.Accepts.{Accepted}
use Rattle.sim_machines.specs.Activations.{Recorded}
use Rattle.sim_steps.specs.sim_relation.Stands.{Keeps, IsProgram, DoesAt}
use Rattle.sim_resumes.specs.Flying.{CleanupEnds}

abbrev pub EndsMatch : Type 0
EndsMatch = (x : Accepted) (s : Recorded) (next imm : ℕ) → IsProgram x → Keeps x s → DoesAt x s (Svc imm) → CleanupEnds x s next
