-- Throws and rethrows in both machines.
use Rattle.std.specs.Prelude.{ℕ}
use Rattle.thumb_isa.specs.declared.instr.Instr.TheVariants.{Svc}
use Rattle.sim_machines.specs.frame_check.Accepts.{Accepted}
use Rattle.eh_gates.specs.Gates.{gate_of}
use Rattle.eh_gates.specs.declared.gates.TheConstants.{THROW_GATE, RETHROW_GATE}
use Rattle.sim_machines.specs.Activations.{Recorded, bytes_of}
use Rattle.sim_machines.specs.Checked.{program_of}
use Rattle.sim_machines.specs.Corresponds.{GateMatches}
use Rattle.sim_machines.specs.Program.{program_tables}
use Rattle.sim_machines.specs.ActivationMachine as acts
use Rattle.sim_frames.specs.sim_relation.Stands.{Keeps, IsProgram, DoesAt}

-- They do the same in both machines, and the states after them stand for each other.
abbrev pub ThrowGatesMatch : Type 0
ThrowGatesMatch = (x : Accepted) (s : Recorded) (next imm : ℕ) → IsProgram x → Keeps x s → DoesAt x s (Svc imm)
    → GateMatches (gate_of (program_tables (program_of x)) THROW_GATE next (bytes_of s)) (acts.gate_of (program_tables (program_of x)) THROW_GATE next s)
    × GateMatches (gate_of (program_tables (program_of x)) RETHROW_GATE next (bytes_of s)) (acts.gate_of (program_tables (program_of x)) RETHROW_GATE next s)
