-- Which states of the byte machine stand for which states with recorded activations, for an accepted image.
use Rattle.std.specs.Prelude.{◌^◌, ◌<◌, ◌≤◌, ◌≡◌, ℕ, List, true}
use Rattle.eh_cxa.specs.Lists.{Lists}
use Rattle.eh_bus.specs.Map.{SameMap, IsMap}
use Rattle.run_images.specs.Start.{image_start}
use Rattle.thumb_core.specs.Laws.{AreSound}
use Rattle.thumb_core.specs.declared.regs.TheConstants.{SP}
use Rattle.sim_machines.specs.frame_check.Accepts.{Accepted, IsSound}
use Rattle.sim_machines.specs.Activations.{Recorded, reg_in, bytes_of, recorded_start, lists_of}
use Rattle.sim_machines.specs.Corresponds.{Corresponds}
use Rattle.sim_machines.specs.RecordedSlots.{AreOutside}
use Rattle.sim_machines.specs.eh_gates.State.{State}
use Rattle.elf_image.specs.Image.{IsSound as IsImage}
use Rattle.run_events.specs.Runs.{Event, Goes, Ends}
use Rattle.thumb_core.specs.declared.ends.End.{End}
use Rattle.sim_machines.specs.Machine.{machine_event}
use Rattle.sim_machines.specs.ActivationMachine.{recorded_event}
use Rattle.sim_machines.specs.ActivationLaws.{Matches}
use Rattle.sim_machines.specs.Checked.{program_of}
use Rattle.thumb_isa.specs.declared.instr.Instr.{Instr}
use Rattle.frame_code.specs.declared.standing.Standing.TheVariants.{Instruction}
use Rattle.sim_machines.specs.frame_graph.Places.{standing_at}
use Rattle.sim_machines.specs.frame_check.Roots.{flow_graph_of}
use Rattle.sim_machines.specs.frame_check.Roles.{look}
use Rattle.sim_relation.specs.Holds.{IsWhole, AreWithin}
use Rattle.sim_relation.specs.Chain.{Chain, StandsFirst, StandsAt}
use Rattle.sim_relation.specs.Cleanups.{AreInProgress}

-- the number of uncaught exceptions is a 32-bit word: the gate that counts them puts it into r0
abbrev pub IsCounted : Lists → Type 0
IsCounted l = l.uncaught < 2 ^ 32

-- The invariants of a state with recorded activations: every event preserves them.
pub record Keeps (x : Accepted) (s : Recorded) : Type 0 where
  -- the memory is one that a bus may have, and the words of the pool stand for the lists of exceptions
  pub corresponds : Corresponds s
  -- the number of uncaught exceptions is a 32-bit word
  pub counted : IsCounted (lists_of s)
  -- the segments are those of the start, and read-only bytes are unchanged
  pub image : SameMap (image_start x.image).memory.segments s.segments
  -- registers are 32-bit words, sp is a multiple of 4 and pc is even
  pub sound : AreSound s.regs.r s.regs.pc
  -- sp lies in the running stack, at most at the sp that the first activation recorded, and that activation's slots lie between them
  pub low : s.home.0 ≤ reg_in s SP
  pub high : reg_in s SP ≤ s.first.caller.sp
  pub whole : IsWhole s.first.caller
  pub slots : AreWithin (reg_in s SP) s.first
  pub beyond : AreOutside s.home s.beyond
  -- the first activation stands at pc, each other at its call, and the cleanups in progress are in live activations
  pub first : StandsFirst x s
  pub chain : Chain x s.segments s.home s.first.caller s.outer
  pub cleanups : AreInProgress x s (reg_in s SP) s.cleanups

-- A byte state stands for a state with recorded activations: it is that state without its activations, and the invariants hold.
pub record StandsFor (x : Accepted) (b : State) (s : Recorded) : Type 0 where
  pub same : b ≡ bytes_of s
  pub keeps : Keeps x s

-- An accepted image that is sound, whose memory at the start is one that a bus may have.
pub record IsProgram (x : Accepted) : Type 0 where
  pub image : IsImage x.image
  pub sound : IsSound x
  pub map : IsMap (image_start x.image).memory

-- the state after an event satisfies the invariants, whether the event goes on or ends the run
abbrev pub OnEvent : Accepted → Event Recorded End → Type 0
OnEvent x (Goes t text left) = Keeps x t
OnEvent x (Ends end t) = Keeps x t

-- An event is the same in both machines, and the invariants hold after it.
pub record Turns (x : Accepted) (s : Recorded) (input : List ℕ) : Type 0 where
  pub same : Matches (machine_event (program_of x) (bytes_of s) input) (recorded_event (program_of x) s input)
  pub keeps : OnEvent x (recorded_event (program_of x) s input)

-- The first activation stands at this instruction, which the checker reached.
pub record DoesAt (x : Accepted) (s : Recorded) (i : Instr) : Type 0 where
  pub reached : (look x.roles s.regs.pc).is_instr ≡ true
  pub at : StandsAt x s.first s.segments s.regs s.regs.pc
  pub size : ℕ
  pub stands : standing_at (flow_graph_of x.image at.function) at.place ≡ Instruction i size

-- both start in states that stand for each other
abbrev pub StartsStand : Type 0
StartsStand = (x : Accepted) → IsProgram x → Keeps x (recorded_start (program_of x))
