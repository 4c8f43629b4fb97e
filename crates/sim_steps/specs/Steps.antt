-- Instructions of the data group: each is the same in both machines, and the invariants hold after it.
use Rattle.std.specs.Prelude.{◌≡◌, ℕ, List, Some}
use Rattle.thumb_isa.specs.declared.instr.Instr.{Instr}
use Rattle.frame_facts.specs.Machine.{works_on}
use Rattle.sim_machines.specs.frame_check.Accepts.{Accepted}
use Rattle.sim_machines.specs.Activations.{Recorded}
use Rattle.sim_relation.specs.Stands.{Keeps, IsProgram, Turns, DoesAt}

-- instructions of the data group that work on a register other than sp
abbrev pub DataTurns : Type 0
DataTurns = (x : Accepted) (s : Recorded) (i : Instr) (d : ℕ) (input : List ℕ) → IsProgram x → Keeps x s → DoesAt x s i → works_on i ≡ Some d → (d ≡ 13 → ⊥) → Turns x s input
