-- Which functions and which images are accepted.
use Rattle.std.specs.Prelude.{ℕ, ◌≡◌, ◌<◌, ◌↔◌, true, List, ◌∷◌, ◌++◌, All, Contains, Some, None}
use Rattle.elf_image.specs.Functions.{Function, is_inside}
use Rattle.elf_image.specs.Image.{Image}
use Rattle.elf_image.specs.Segments.{Segment}
use Rattle.run_images.specs.Start.{begins_function}
use Rattle.eh_index.specs.Refusal.{index_refusal}
use Rattle.eh_types.specs.Graph.{Row}
use Rattle.eh_types.specs.Meant.{IsGraph, Shows}
use Rattle.frame_facts.specs.declared.cause.FrameCause.{FrameCause}
use Rattle.frame_facts.specs.declared.cause.FrameCause.TheVariants.{Undecodable, BranchOut, IndirectBranch, CallNotFunction, SpWrite, JoinDepth, ReturnState, CallState, FramePointerLost, BadBytecode, BadDescriptor, PadDepth, ThrowInLeafScope, SplitEntry, GenericModel, TooLong}
use Rattle.frame_entries.specs.declared.unwinding.EntrySummary.TheVariants as unwinding
use Rattle.frame_graph.specs.FlowGraph.{FlowGraph}
use Rattle.frame_graph.specs.Places.{address_of}
use Rattle.frame_graph.specs.Lowering.{is_lowering}
use Rattle.frame_graph.specs.Sites.{unwinding_at, has_fault}
use Rattle.frame_graph.specs.Reach.{IsReached}
use Rattle.frame_reach.specs.Marks.{Marks, AreMarks, IsTooLong, IsSplit}
use Rattle.frame_reach.specs.Prologue.{prologue, lines, places}
use Rattle.frame_flow.specs.Framed.{FramedFunction}
use Rattle.frame_flow.specs.Flows.{StandsIn, HasFacts}
use Rattle.frame_check.specs.declared.fault.Rejected.{Rejected}
use Rattle.frame_check.specs.declared.fault.CheckFault.{CheckFault}
use Rattle.frame_check.specs.declared.fault.CheckFault.TheVariants.{Index, Function as OfFunction, Types, OutOfMemory}
use Rattle.frame_check.specs.Roles.{Table, look}
use Rattle.frame_check.specs.Roots.{flow_graph_of, roots_of}
use Rattle.frame_check.specs.Pushes.{pushes_of, saves_in}

-- ---- functions

-- a function with its prologue, its landing pads and its lowering places
abbrev pub framed_function : FlowGraph → Marks → FramedFunction
framed_function s m = record { flow_graph = s; prologue = prologue s m; pad = m.pad; lowers = is_lowering s m.reached }

-- What the start of a function gives: the causes of the entry that covers it, from its unwind instructions and its descriptors, and
-- those of the function as a whole. Every other cause depends on a fact.
abbrev pub StandsAtStart : FlowGraph → FrameCause → Type 0
StandsAtStart s Undecodable = ⊥
StandsAtStart s BranchOut = ⊥
StandsAtStart s IndirectBranch = ⊥
StandsAtStart s CallNotFunction = ⊥
StandsAtStart s SpWrite = ⊥
StandsAtStart s JoinDepth = ⊥
StandsAtStart s ReturnState = ⊥
StandsAtStart s (CallState reg) = ⊥
StandsAtStart s (FramePointerLost reg) = ⊥
StandsAtStart s BadBytecode = unwinding_at s s.start ≡ unwinding.BadBytecode
StandsAtStart s BadDescriptor = has_fault s s.start ≡ true
StandsAtStart s PadDepth = ⊥
StandsAtStart s ThrowInLeafScope = ⊥
StandsAtStart s SplitEntry = IsSplit s
StandsAtStart s GenericModel = unwinding_at s s.start ≡ unwinding.GenericModel
StandsAtStart s TooLong = IsTooLong s

-- a cause stands at a place: because of the facts there, or at the start
pub data CauseStands (s : FlowGraph) : ℕ → FrameCause → Type 0 where
  by_facts : {p : ℕ} {c : FrameCause} (m : Marks) → AreMarks s m → StandsIn (framed_function s m) p c → CauseStands s p c
  at_start : {c : FrameCause} → StandsAtStart s c → CauseStands s 0 c

-- a function is accepted: it has valid facts, and no cause stands at its start
pub record IsWell (s : FlowGraph) : Type 0 where
  pub marks : Marks
  pub are : AreMarks s marks
  pub facts : HasFacts (framed_function s marks)
  pub start : (c : FrameCause) → StandsAtStart s c → ⊥

-- ---- images

abbrev pub AreWell : Image → List Function → Type 0
AreWell image functions = All (λ f. IsWell (flow_graph_of image f)) functions

-- its index can be read, each of its functions is accepted, and its roots have a graph of types
pub record IsAccepted (image : Image) : Type 0 where
  pub index : index_refusal image ≡ None
  pub functions : AreWell image image.functions
  pub types : List Row
  pub graph : IsGraph image (roots_of image) types

-- the first function that isn't accepted, with a place and a cause that stands there
pub record IsFirstRejected (image : Image) (r : Rejected) : Type 0 where
  pub before : List Function
  pub function : Function
  pub after : List Function
  pub divided : image.functions ≡ before ++ function ∷ after
  pub well : AreWell image before
  pub name : r.function ≡ function.name
  pub start : r.start ≡ function.start
  pub place : ℕ
  pub address : r.at ≡ address_of (flow_graph_of image function) place
  pub inside : r.at < function.end
  pub stands : CauseStands (flow_graph_of image function) place r.cause

-- when each refusal may be given: the index first, then the functions in ascending order, then the types
abbrev pub Refuses : Image → CheckFault → Type 0
Refuses image (Index fault) = index_refusal image ≡ Some fault
Refuses image (OfFunction r) = (index_refusal image ≡ None) × IsFirstRejected image r
Refuses image (Types fault) = (index_refusal image ≡ None) × AreWell image image.functions × Shows image (roots_of image) fault
Refuses image OutOfMemory = ⊥

-- ---- what an accepted image tells of an address

-- the address has an instruction that a path from the entry of one of these functions reaches
pub record IsInstr (image : Image) (functions : List Function) (a : ℕ) : Type 0 where
  pub function : Function
  pub among : Contains functions function
  pub place : ℕ
  pub reached : IsReached (flow_graph_of image function) place
  pub address : a ≡ address_of (flow_graph_of image function) place

-- a lowering place of one of these functions
pub record IsLowering (image : Image) (functions : List Function) (a : ℕ) : Type 0 where
  pub function : Function
  pub among : Contains functions function
  pub marks : Marks
  pub are : AreMarks (flow_graph_of image function) marks
  pub place : ℕ
  pub lowers : is_lowering (flow_graph_of image function) marks.reached place ≡ true
  pub address : a ≡ address_of (flow_graph_of image function) place

-- which words that the PUSH at an address stores are saves of the function's prologue
unfoldable pub saves_at : FlowGraph → Marks → ℕ → ℕ
saves_at s m a = saves_in (pushes_of (prologue s m) s.start (lines s m.target (places s) 0)) a

-- the roles of these functions: instructions, lowering places, starts, and the saves of each function's prologue; no other address has
-- saves
pub record AreRoles (image : Image) (functions : List Function) (roles : Table) : Type 0 where
  pub instr : (a : ℕ) → ((look roles a).is_instr ≡ true) ↔ IsInstr image functions a
  pub lowers : (a : ℕ) → ((look roles a).lowers ≡ true) ↔ IsLowering image functions a
  pub starts : (a : ℕ) → (look roles a).is_function ≡ begins_function functions a
  pub saves : (f : Function) (m : Marks) (a : ℕ) → Contains functions f → AreMarks (flow_graph_of image f) m → is_inside a f ≡ true
      → (look roles a).saves ≡ saves_at (flow_graph_of image f) m a
  pub blank : (a : ℕ) → ((f : Function) → Contains functions f → is_inside a f ≡ true → ⊥) → (look roles a).saves ≡ 0

-- an accepted image with what a run asks of it
pub record Accepted : Type 0 where
  pub image : Image
  pub types : List Row
  pub roles : Table

-- the numbers that stand in segments are bytes
abbrev pub AreBytes : List Segment → Type 0
AreBytes segments = All (λ (s : Segment). All (λ (b : ℕ). b < 256) s.bytes) segments

pub record IsSound (x : Accepted) : Type 0 where
  pub bytes : AreBytes x.image.segments
  pub index : index_refusal x.image ≡ None
  pub functions : AreWell x.image x.image.functions
  pub graph : IsGraph x.image (roots_of x.image) x.types
  pub roles : AreRoles x.image x.image.functions x.roles
