-- Calls: each is the same in both machines, and the invariants hold after it.
use Rattle.std.specs.Prelude.{ℕ, ℤ, List}
use Rattle.thumb_isa.specs.declared.instr.Instr.TheVariants.{Bl, Blx}
use Rattle.sim_machines.specs.frame_check.Accepts.{Accepted}
use Rattle.sim_machines.specs.Activations.{Recorded}
use Rattle.sim_relation.specs.Stands.{Keeps, IsProgram, DoesAt, Turns}

abbrev pub BlTurns : Type 0
BlTurns = (x : Accepted) (s : Recorded) (off : ℤ) (input : List ℕ) → IsProgram x → Keeps x s → DoesAt x s (Bl off) → Turns x s input

abbrev pub BlxTurns : Type 0
BlxTurns = (x : Accepted) (s : Recorded) (m : ℕ) (input : List ℕ) → IsProgram x → Keeps x s → DoesAt x s (Blx m) → Turns x s input
