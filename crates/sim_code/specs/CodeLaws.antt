-- The code that runs is the code that the checker saw: what is fetched, and which entry covers a site.
use Rattle.std.specs.Prelude.{◌≡◌, ◌+◌, ◌≤◌, ℕ, List, Some, Contains}
use Rattle.elf_image.specs.Functions.{Function}
use Rattle.elf_image.specs.Image.{Image, IsSound}
use Rattle.eh_bus.specs.Map.{SameMap}
use Rattle.eh_bus.specs.Memory.{Memory}
use Rattle.eh_bus.specs.Segment.{Segment}
use Rattle.frame_check.specs.run_images.Start.{image_start}
use Rattle.thumb_isa.specs.declared.instr.Instr.{Instr}
use Rattle.frame_check.specs.run_images.Profiles.{profile_of}
use Rattle.thumb_core.specs.Step.{step_for, effect, instr_for}
use Rattle.thumb_core.specs.declared.regs.Regs.{Regs}
use Rattle.frame_code.specs.declared.standing.Standing.TheVariants.{Instruction}
use Rattle.frame_check.specs.frame_graph.Places.{address_of, standing_at}
use Rattle.frame_check.specs.frame_graph.FlowGraph.{FlowGraph}
use Rattle.frame_check.specs.frame_graph.Sites.{entry_at, site_at}
use Rattle.frame_check.specs.frame_graph.Reach.{IsReached}
use Rattle.frame_check.specs.Accepts.{Accepted, IsWell}
use Rattle.frame_check.specs.Roots.{flow_graph_of}
use Rattle.sim_code.specs.Bounds.{AreInRange}

abbrev pub FieldsAreInRange : Type 0
FieldsAreInRange = (x : Accepted) → AreInRange x

-- If nothing read-only was changed in the segments, a step at an instruction that the checker saw has that instruction's effect. Both
-- decode by the image's profile.
abbrev pub CodeIsFetched : Type 0
CodeIsFetched = (image : Image) (f : Function) (ss : List Segment) → IsSound image → Contains image.functions f → SameMap (image_start image).memory.segments ss
    → (p : ℕ) (i : Instr) (size : ℕ) (regs : Regs) (m : Memory) → m.segments ≡ ss → regs.pc ≡ address_of (flow_graph_of image f) p → standing_at (flow_graph_of image f) p ≡ Instruction i size
    → (step_for (profile_of image) regs m ≡ effect i size regs m) × (instr_for (profile_of image) m regs.pc ≡ Some (i, size))

-- Every reached site of an accepted function is covered by the entry that covers the function's start.
abbrev pub SitesShareAnEntry : Type 0
SitesShareAnEntry = (s : FlowGraph) (p site : ℕ) → IsWell s → IsReached s p → site_at s p ≡ Some site → s.start ≤ site → entry_at s site ≡ entry_at s s.start
