-- The frames of a throw in both machines, at a site of the first activation.
use Rattle.std.specs.Prelude.{◌≡◌, ◌⊎◌, ℕ, ◌+◌, ℤ, None, ◌^◌, ◌<◌, Some}
use Rattle.thumb_isa.specs.declared.instr.Instr.TheVariants.{Svc, Bl, Blx}
use Rattle.frame_check.specs.Accepts.{Accepted}
use Rattle.sim_relation.specs.sim_machines.Activations.{Recorded, memory_of, first_place, frames_at, cleanups_in}
use Rattle.eh_cxa.specs.ListCalls.{innermost_in}
use Rattle.eh_phase.specs.Calls.{stack_of}
use Rattle.eh_phase.specs.Frames.{frames_of}
use Rattle.thumb_core.specs.Registers.{all_of}
use Rattle.sim_relation.specs.sim_machines.Agreeing.{Agree}
use Rattle.eh_gates.specs.State.{Tables}
use Rattle.sim_relation.specs.sim_machines.Throws.{SeesAlike}
use Rattle.thumb_isa.specs.declared.instr.Instr.{Instr}
use Rattle.frame_graph.specs.Places.{address_of}
use Rattle.frame_graph.specs.Sites.{site_at}
use Rattle.frame_graph.specs.Edges.{instruction_at}
use Rattle.frame_check.specs.Roots.{flow_graph_of}
use Rattle.sim_relation.specs.Stands.{DoesAt, Keeps, IsProgram}
use Rattle.sim_relation.specs.Chain.{StandsAt}

-- The site of a checked instruction where a throw may begin: for an SVC and BLX its address, for BL two bytes above it.
abbrev pub ThrowsAt : Accepted → Recorded → ℕ → Type 0
ThrowsAt x s site =
    ((imm : ℕ) × DoesAt x s (Svc imm) × (site ≡ s.regs.pc)) ⊎ (((m : ℕ) × DoesAt x s (Blx m) × (site ≡ s.regs.pc)) ⊎ ((off : ℤ) × DoesAt x s (Bl off) × (site ≡ s.regs.pc + 2)))

-- Unwinding the registers and the bytes of the stack gives the frames of the recorded activations, in all that the phases and a landing
-- read. This holds with the limit of the innermost cleanup in progress and without it.
pub record FramesAre (x : Accepted) (s : Recorded) (site : ℕ) : Type 0 where
  pub limited :
      Agree (frames_of x.image (stack_of (memory_of s)) (innermost_in (cleanups_in s.cleanups)) site (all_of s.regs)) (frames_at x.image (first_place s.cleanups) site (all_of s.regs) s.first s.outer)
  pub all : Agree (frames_of x.image (stack_of (memory_of s)) None site (all_of s.regs)) (frames_at x.image None site (all_of s.regs) s.first s.outer)

abbrev pub FramesSame : Type 0
FramesSame = (x : Accepted) (s : Recorded) (site : ℕ) → IsProgram x → Keeps x s → ThrowsAt x s site → FramesAre x s site

-- So a throw and a rethrow at a gate see the same frames in both machines.
abbrev pub ThrowsSeeAlike : Type 0
ThrowsSeeAlike = (x : Accepted) (s : Recorded) (g : Tables) (imm : ℕ) → IsProgram x → Keeps x s → DoesAt x s (Svc imm) → g.image ≡ x.image → SeesAlike g s

-- a site where the first activation stands
pub record IsSiteOf (x : Accepted) (s : Recorded) (site : ℕ) : Type 0 where
  pub at : StandsAt x s.first s.segments s.regs s.regs.pc
  pub instr : Instr
  pub stands : instruction_at (flow_graph_of x.image at.function) at.place ≡ Some instr
  pub is_site : site_at (flow_graph_of x.image at.function) at.place ≡ Some site
  pub below : address_of (flow_graph_of x.image at.function) at.place + 2 < 2 ^ 32
