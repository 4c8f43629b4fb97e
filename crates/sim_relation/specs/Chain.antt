-- Where activations stand in their functions: the first at pc, each other at the call that the one inside it recorded.
use Rattle.std.specs.Prelude.{◌≡◌, ℕ, Contains, List, false, [], ◌∷◌, ◌++◌, ◌+◌, ◌≤◌, true}
use Rattle.elf_image.specs.Functions.{Function}
use Rattle.sim_machines.specs.frame_reach.Marks.{Marks, AreMarks}
use Rattle.sim_machines.specs.frame_flow.Framed.{FramedFunction}
use Rattle.sim_machines.specs.frame_check.Accepts.{Accepted, framed_function}
use Rattle.sim_machines.specs.frame_check.Roots.{flow_graph_of}
use Rattle.eh_bus.specs.Segment.{Segment}
use Rattle.thumb_core.specs.declared.regs.Regs.{Regs}
use Rattle.frame_facts.specs.declared.facts.Fact.{Fact}
use Rattle.sim_machines.specs.frame_graph.Places.{address_of, standing_at}
use Rattle.sim_machines.specs.frame_flow.Flows.{IsStateOf}
use Rattle.sim_machines.specs.Activations.{Activation, Caller, Recorded}
use Rattle.thumb_isa.specs.declared.instr.Instr.{Instr}
use Rattle.frame_facts.specs.Agrees.{at_site}
use Rattle.frame_code.specs.declared.standing.Standing.TheVariants.{Instruction}
use Rattle.sim_machines.specs.frame_flow.Causes.{is_call}
use Rattle.run_images.specs.run_gates.declared.gates.TheConstants.{NO_CALLER}
use Rattle.sim_machines.specs.frame_check.Roles.{look}
use Rattle.sim_relation.specs.Holds.{Holds, IsWhole, AreWithin}

-- the dataflow of facts in a function of an accepted image with its marks
abbrev pub code : Accepted → Function → Marks → FramedFunction
code x f m = framed_function (flow_graph_of x.image f) m

-- the function of the image that begins at an address, and its marks
pub record IsOf (x : Accepted) (start : ℕ) (f : Function) (m : Marks) : Type 0 where
  pub among : Contains x.image.functions f
  pub begins : f.start ≡ start
  pub are : AreMarks (flow_graph_of x.image f) m

-- An activation stands at an address: at a place of its function, where a state of facts holds. A state is what is known on one edge to
-- that place; the table of facts isn't used.
pub record StandsAt (x : Accepted) (a : Activation) (segments : List Segment) (regs : Regs) (at : ℕ) : Type 0 where
  pub function : Function
  pub marks : Marks
  pub of : IsOf x a.function function marks
  pub place : ℕ
  pub address : at ≡ address_of (flow_graph_of x.image function) place
  pub fact : Fact
  pub state : IsStateOf (code x function marks) place fact
  pub holds : Holds (code x function marks).prologue fact a segments regs

-- the registers of a caller at its call, as they were recorded; those that no activation records are 0
abbrev pub regs_at : Caller → Regs
regs_at c = record { r = 0 ∷ 0 ∷ 0 ∷ 0 ∷ (c.saved ++ (0 ∷ c.sp ∷ 0 ∷ [])); pc = c.back; n = false; z = false; c = false; v = false }

-- An activation stands at the call that the one inside it recorded.
pub record StandsAtCall (x : Accepted) (segments : List Segment) (c : Caller) (a : Activation) : Type 0 where
  pub function : Function
  pub marks : Marks
  pub of : IsOf x a.function function marks
  pub place : ℕ
  pub instr : Instr
  pub size : ℕ
  pub stands : standing_at (flow_graph_of x.image function) place ≡ Instruction instr size
  pub call : is_call instr ≡ true
  -- the return address is the next address, with bit 0 set
  pub back : c.back ≡ address_of (flow_graph_of x.image function) place + size + 1
  --   a state before the call holds of what was recorded, without r0 to r3, r12 and lr, which a call may change
  pub fact : Fact
  pub state : IsStateOf (code x function marks) place fact
  pub holds : Holds (code x function marks).prologue (at_site true fact) a segments (regs_at c)
  --   its frame has room for a word, so recorded sps rise from each activation to the one outside it
  pub room : c.sp + 4 ≤ a.caller.sp
  pub whole : IsWhole a.caller
  -- its slots lie between the sp at its call and the sp that it recorded
  pub slots : AreWithin c.sp a

-- The activations outside one, as it recorded them. The last one recorded the return address of nobody, and the end of the running stack as
-- sp.
abbrev pub Chain : Accepted → List Segment → ℕ × ℕ → Caller → List Activation → Type 0
Chain x segments home c [] = (c.back ≡ NO_CALLER) × (c.sp ≡ home.1)
Chain x segments home c (a ∷ more) = StandsAtCall x segments c a × Chain x segments home a.caller more

-- The first activation stands at pc, if the checker reached an instruction there. Elsewhere nothing is required: such an event ends the
-- run.
abbrev pub StandsFirst : Accepted → Recorded → Type 0
StandsFirst x s = (look x.roles s.regs.pc).is_instr ≡ true → StandsAt x s.first s.segments s.regs s.regs.pc
