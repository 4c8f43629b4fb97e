-- Instructions that use memory or sp, except PUSH and POP: each is the same in both machines, and the invariants hold after it.
use Rattle.std.specs.Prelude.{◌≡◌, ℕ, List}
use Rattle.thumb_isa.specs.declared.instr.Instr.{Instr}
use Rattle.thumb_isa.specs.declared.instr.Instr.TheVariants.{LdrLit, MemReg, MemImm, MemSp, Stm, Ldm, AddSp, SubSp, MovHigh}
use Rattle.frame_check.specs.Accepts.{Accepted}
use Rattle.sim_machines.specs.Activations.{Recorded}
use Rattle.sim_relation.specs.Stands.{Keeps, IsProgram, DoesAt, Turns}

-- an instruction that loads into low registers or stores, except PUSH and POP
abbrev pub IsAccess : Instr → Type 0
IsAccess (LdrLit t off) = Unit {0}
IsAccess (MemReg op t n m) = Unit {0}
IsAccess (MemImm op t n off) = Unit {0}
IsAccess (MemSp load t off) = Unit {0}
IsAccess (Stm n list) = Unit {0}
IsAccess (Ldm n list) = Unit {0}
IsAccess i = ⊥

-- an instruction that only moves sp
abbrev pub IsStack : Instr → Type 0
IsStack (AddSp off) = Unit {0}
IsStack (SubSp off) = Unit {0}
IsStack (MovHigh d m) = d ≡ 13
IsStack i = ⊥

abbrev pub AccessTurns : Type 0
AccessTurns = (x : Accepted) (s : Recorded) (i : Instr) (input : List ℕ) → IsProgram x → Keeps x s → DoesAt x s i → IsAccess i → Turns x s input

abbrev pub StackTurns : Type 0
StackTurns = (x : Accepted) (s : Recorded) (i : Instr) (input : List ℕ) → IsProgram x → Keeps x s → DoesAt x s i → IsStack i → Turns x s input
