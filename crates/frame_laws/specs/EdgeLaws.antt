-- The core goes from an instruction where the checker has an edge, and what is predicted before executing it agrees (DDI 0419;
-- docs/rules/acceptance.md, "Edges"; docs/rules/machine.md, "An event").
use Rattle.std.specs.Prelude.{◌≡◌, ◌⊎◌, ℕ, ◌+◌, ◌-◌, ◌%◌, ◌^◌, ◌<◌, true, false, List, Some, None, slice_index}
use Rattle.eh_bus.specs.Memory.{Memory}
use Rattle.thumb_isa.specs.declared.instr.Instr.{Instr}
use Rattle.thumb_isa.specs.declared.instr.Instr.TheVariants.{Svc, Bl, Blx}
use Rattle.thumb_isa.specs.Range.{InRange}
use Rattle.thumb_core.specs.declared.regs.Regs.{Regs}
use Rattle.thumb_core.specs.declared.regs.Stepped.{Stepped}
use Rattle.thumb_core.specs.declared.regs.Stepped.TheVariants.{Done, Call, Return, Gate, Trap}
use Rattle.thumb_core.specs.Step.{effect}
use Rattle.eh_phase.specs.Frames.{site_of as frame_site}
use Rattle.thumb_ahead.specs.declared.instruction.Ahead.{Ahead as Told}
use Rattle.thumb_ahead.specs.declared.instruction.Ahead.TheVariants.{FallThrough, Pushes, Jumps, Other}
use Rattle.thumb_ahead.specs.Ahead.{IsAhead}
use Rattle.frame_code.specs.Branches.{reaches_next, branch_target, call_target}
use Rattle.frame_graph.specs.Sites.{site_of}

-- an address modulo 2 ^ 32, with bit 0 clear
abbrev pub place_in : ℕ → ℕ
place_in a = a % 2 ^ 32 - a % 2 ^ 32 % 2

-- from an instruction of so many bytes at an address: on to the one after it
pub record GoesOn (i : Instr) (size from to : ℕ) : Type 0 where
  pub on : reaches_next i ≡ true
  pub pc : to ≡ place_in (from + size)

-- .. or to its target
pub record Branches (i : Instr) (from to : ℕ) : Type 0 where
  pub target : ℕ
  pub is : branch_target from i ≡ Some target
  pub pc : to ≡ place_in target

-- no edge leads from it: MOV and ADD into pc, and returns
pub record HasNoEdge (i : Instr) (from : ℕ) : Type 0 where
  pub on : reaches_next i ≡ false
  pub target : branch_target from i ≡ None

-- a call comes back to the next instruction, by a return address with bit 0 set, and BL goes to the address where the checker looks for
-- a function
pub record Calls (i : Instr) (size from to ret : ℕ) : Type 0 where
  pub on : reaches_next i ≡ true
  pub back : ret ≡ place_in (from + size) + 1
  pub target : (at : ℕ) → call_target from i ≡ Some at → to ≡ place_in at

-- what was done at an address, and where pc stands then
abbrev pub Leads : Instr → ℕ → ℕ → Stepped → ℕ → Type 0
Leads i size from Done to = GoesOn i size from to ⊎ (Branches i from to ⊎ HasNoEdge i from)
Leads i size from (Call target ret) to = Calls i size from to ret
Leads i size from (Return back) to = HasNoEdge i from
Leads i size from (Gate number) to = (i ≡ Svc number) × GoesOn i size from to
Leads i size from (Trap trap) to = to ≡ from

-- every instruction whose fields are in range goes where the checker has an edge
abbrev pub InstructionsFollowEdges : Type 0
InstructionsFollowEdges =
    (i : Instr) (size : ℕ) (regs : Regs) (m : Memory) → InRange i → Leads i size regs.pc (effect i size regs m).0 (effect i size regs m).1.pc

-- ---- what is told before

-- if the run is predicted to go straight on or to push, there is an edge to the next instruction; a jump goes to the branch's target,
-- or the instruction has no edge
abbrev pub IsEdge : Instr → Regs → Told → Type 0
IsEdge i regs FallThrough = reaches_next i ≡ true
IsEdge i regs (Pushes count) = reaches_next i ≡ true
IsEdge i regs (Jumps to) = Branches i regs.pc to ⊎ HasNoEdge i regs.pc
IsEdge i regs (Other taken) = Unit {0}

abbrev pub WhatIsAheadIsAnEdge : Type 0
WhatIsAheadIsAnEdge = (i : Instr) (regs : Regs) (m : Memory) (told : Told) → IsAhead i regs told → IsEdge i regs told

-- ---- the sites of calls

-- BL has two halfwords, and BLX one
abbrev pub IsCallOf : Instr → ℕ → Type 0
IsCallOf (Bl off) size = size ≡ 4
IsCallOf (Blx k) size = size ≡ 2
IsCallOf i size = ⊥

-- after a call, the site of the frame that called is that of the call: phase 2 looks up the same entry as the checker
abbrev pub CallsStandAtTheirSites : Type 0
CallsStandAtTheirSites =
    (i : Instr) (size target ret : ℕ) (regs : Regs) (m : Memory) (r : List ℕ) → IsCallOf i size → regs.pc % 2 ≡ 0 → regs.pc + size < 2 ^ 32
    → (effect i size regs m).0 ≡ Call target ret → slice_index r 15 ≡ ret → site_of regs.pc i ≡ Some (frame_site r)
