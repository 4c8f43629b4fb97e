-- The invariants hold after a throw and a rethrow.
use Rattle.std.specs.Prelude.{ℕ}
use Rattle.thumb_isa.specs.declared.instr.Instr.TheVariants.{Svc}
use Rattle.sim_machines.specs.frame_check.Accepts.{Accepted}
use Rattle.eh_gates.specs.declared.gates.TheConstants.{THROW_GATE, RETHROW_GATE}
use Rattle.sim_machines.specs.ActivationMachine as acts
use Rattle.sim_machines.specs.Activations.{Recorded}
use Rattle.sim_machines.specs.Checked.{program_of}
use Rattle.sim_machines.specs.Program.{program_tables}
use Rattle.sim_frames.specs.sim_relation.Stands.{Keeps, IsProgram, DoesAt}

abbrev pub ThrowGatesKeep : Type 0
ThrowGatesKeep = (x : Accepted) (s : Recorded) (next imm : ℕ) → IsProgram x → Keeps x s → DoesAt x s (Svc imm)
    → Keeps x (acts.gate_of (program_tables (program_of x)) THROW_GATE next s).1 × Keeps x (acts.gate_of (program_tables (program_of x)) RETHROW_GATE next s).1
