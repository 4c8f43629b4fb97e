-- What becomes of one function.
use Rattle.std.specs.Prelude.{ℕ, ◌≡◌, ◌+◌, ◌*◌, ◌%◌, ◌<◌, ◌≤◌}
use Rattle.elf_image.specs.declared.limits.TheConstants.{ADDRESS_LIMIT}
use Rattle.elf_image.specs.Functions.{Function}
use Rattle.elf_image.specs.Image.{Image}
use Rattle.eh_types.specs.Meant.{Shows}
use Rattle.frame_facts.specs.declared.cause.FrameCause.TheVariants.{BadBytecode, BadDescriptor, GenericModel}
use Rattle.frame_graph.specs.FlowGraph.{FlowGraph}
use Rattle.frame_graph.specs.Places.{address_of}
use Rattle.frame_reach.specs.Marks.{Marks, AreMarks}
use Rattle.frame_flow.specs.declared.work.FrameFault.{FrameFault}
use Rattle.frame_flow.specs.declared.work.FrameFault.TheVariants.{Stands, OutOfMemory}
use Rattle.frame_check.specs.declared.fault.Rejected.{Rejected}
use Rattle.frame_check.specs.declared.fault.CheckFault.{CheckFault}
use Rattle.frame_check.specs.declared.fault.CheckFault.TheVariants.{Index, Function as OfFunction, Types, OutOfMemory as NoMemory}
use Rattle.frame_check.specs.Roles.{Table}
use Rattle.frame_check.specs.Roots.{flow_graph_of, roots_of}
use Rattle.frame_check.specs.Marking.{IsMarked}
use Rattle.frame_check.specs.Accepts.{StandsAtStart, CauseStands, IsWell, IsFirstRejected}

-- the entry that covers the start shows nothing
pub record IsClear (s : FlowGraph) : Type 0 where
  pub codes : StandsAtStart s BadBytecode → ⊥
  pub model : StandsAtStart s GenericModel → ⊥
  pub descriptors : StandsAtStart s BadDescriptor → ⊥

-- a fault names a place of the function and a cause that stands there; running out of memory tells nothing
abbrev pub IsJudged : FlowGraph → FrameFault → Type 0
IsJudged s (Stands place cause) = CauseStands s place cause × (s.start + 2 * place < s.end)
IsJudged s OutOfMemory = Unit {0}

-- ---- the checks of an image

-- a function is refused with its name, its start, and an address in it with a cause that stands there
pub record IsRejection (s : FlowGraph) (f : Function) (r : Rejected) : Type 0 where
  pub name : r.function ≡ f.name
  pub start : r.start ≡ f.start
  pub place : ℕ
  pub address : r.at ≡ address_of s place
  pub inside : r.at < f.end
  pub stands : CauseStands s place r.cause

-- the possible results of checking one function; running out of memory tells nothing
abbrev pub RefusesOne : Image → Function → CheckFault → Type 0
RefusesOne image f (Index fault) = ⊥
RefusesOne image f (OfFunction r) = IsRejection (flow_graph_of image f) f r
RefusesOne image f (Types fault) = ⊥
RefusesOne image f NoMemory = Unit {0}

abbrev pub RefusesFunctions : Image → CheckFault → Type 0
RefusesFunctions image (Index fault) = ⊥
RefusesFunctions image (OfFunction r) = IsFirstRejected image r
RefusesFunctions image (Types fault) = ⊥
RefusesFunctions image NoMemory = Unit {0}

abbrev pub RefusesTypes : Image → CheckFault → Type 0
RefusesTypes image (Index fault) = ⊥
RefusesTypes image (OfFunction r) = ⊥
RefusesTypes image (Types fault) = Shows image (roots_of image) fault
RefusesTypes image NoMemory = Unit {0}

-- a function that is well, with its addresses marked
pub record IsTaken (image : Image) (f : Function) (old new : Table) : Type 0 where
  pub well : IsWell (flow_graph_of image f)
  pub marks : Marks
  pub are : AreMarks (flow_graph_of image f) marks
  pub marked : IsMarked (flow_graph_of image f) marks old new

-- where a function of an image lies
pub record IsPlaced (f : Function) : Type 0 where
  pub even : f.start % 2 ≡ 0
  pub some : f.start < f.end
  pub low : f.end ≤ ADDRESS_LIMIT
