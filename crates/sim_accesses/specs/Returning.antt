-- Returns: each is the same in both machines, and the invariants hold after it.
use Rattle.std.specs.Prelude.{ℕ, List}
use Rattle.thumb_isa.specs.declared.instr.Instr.TheVariants.{Pop, Bx}
use Rattle.frame_check.specs.Accepts.{Accepted}
use Rattle.sim_machines.specs.Activations.{Recorded}
use Rattle.sim_relation.specs.Stands.{Keeps, IsProgram, DoesAt, Turns}

abbrev pub PopTurns : Type 0
PopTurns = (x : Accepted) (s : Recorded) (list : ℕ) (input : List ℕ) → IsProgram x → Keeps x s → DoesAt x s (Pop list) → Turns x s input

-- a return by BX
abbrev pub BxTurns : Type 0
BxTurns = (x : Accepted) (s : Recorded) (m : ℕ) (input : List ℕ) → IsProgram x → Keeps x s → DoesAt x s (Bx m) → Turns x s input
