-- Instructions that leave memory and sp, except the data group: each is the same in both machines, and the invariants hold after it.
use Rattle.std.specs.Prelude.{◌≡◌, ℕ, false, List}
use Rattle.thumb_isa.specs.declared.instr.Instr.{Instr}
use Rattle.thumb_isa.specs.declared.instr.Instr.TheVariants.{AddHigh, CmpHigh, MovHigh, Hint, Barrier, B, BCond, Cbz, BWide}
use Rattle.sim_machines.specs.frame_check.Accepts.{Accepted}
use Rattle.sim_machines.specs.frame_check.Roles.{look}
use Rattle.sim_machines.specs.Activations.{Recorded}
use Rattle.sim_relation.specs.Stands.{Keeps, IsProgram, DoesAt, Turns}

-- ADD and MOV of any two registers, except MOV into sp; CMP of any two, branches, hints and barriers
abbrev pub IsSimple : Instr → Type 0
IsSimple (AddHigh d m) = Unit {0}
IsSimple (MovHigh d m) = d ≡ 13 → ⊥
IsSimple (CmpHigh n m) = Unit {0}
IsSimple (B off) = Unit {0}
IsSimple (BCond cc off) = Unit {0}
IsSimple (Hint n) = Unit {0}
IsSimple (Barrier op option) = Unit {0}
IsSimple (Cbz nonzero n off) = Unit {0}
IsSimple (BWide off) = Unit {0}
IsSimple i = ⊥

abbrev pub SimpleTurns : Type 0
SimpleTurns = (x : Accepted) (s : Recorded) (i : Instr) (input : List ℕ) → IsProgram x → Keeps x s → DoesAt x s i → IsSimple i → Turns x s input

-- where the checker reached no instruction at pc
abbrev pub UnreachedTurns : Type 0
UnreachedTurns = (x : Accepted) (s : Recorded) (input : List ℕ) → Keeps x s → (look x.roles s.regs.pc).is_instr ≡ false → Turns x s input
