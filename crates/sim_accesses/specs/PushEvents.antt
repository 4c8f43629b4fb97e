-- PUSH is the same in both machines, and the invariants hold after it.
use Rattle.std.specs.Prelude.{ℕ, List}
use Rattle.thumb_isa.specs.declared.instr.Instr.TheVariants.{Push}
use Rattle.frame_check.specs.Accepts.{Accepted}
use Rattle.sim_machines.specs.Activations.{Recorded}
use Rattle.sim_relation.specs.Stands.{Keeps, IsProgram, DoesAt, Turns}

abbrev pub PushTurns : Type 0
PushTurns = (x : Accepted) (s : Recorded) (list : ℕ) (input : List ℕ) → IsProgram x → Keeps x s → DoesAt x s (Push list) → Turns x s input
