-- What an audit finds of the functions of an image (docs/guide/audit.md, "Functions").
use Rattle.std.specs.Prelude.{ℕ, ◌≡◌, ◌<◌, not, Bool, true, false, List, [], ◌∷◌, Option, Some, None}
use Rattle.elf_image.specs.Functions.{Function}
use Rattle.elf_image.specs.Image.{Image}
use Rattle.frame_entries.specs.declared.unwinding.EntrySummary.{EntrySummary}
use Rattle.frame_entries.specs.declared.unwinding.EntrySummary.TheVariants.{Finds, Refused, BadBytecode, GenericModel}
use Rattle.frame_graph.specs.FlowGraph.{FlowGraph}
use Rattle.frame_graph.specs.Places.{address_of}
use Rattle.frame_graph.specs.Sites.{unwinding_at}
use Rattle.frame_check.specs.Roots.{flow_graph_of}
use Rattle.frame_check.specs.Accepts.{CauseStands, IsWell}
use Rattle.frame_audit.specs.declared.functions.FrameFinding.{FrameFinding}

-- the result for a function: its name, its start, whether it can be unwound, and why it is rejected
pub record FunctionAudit : Type 0 where
  pub name : List ℕ
  pub start : ℕ
  pub unwinds : Bool
  pub unwell : Option FrameFinding

-- it doesn't unwind: there is no entry, it is CANTUNWIND, or its unwind instructions refuse
abbrev pub is_refused : EntrySummary → Bool
is_refused (Finds r) = false
is_refused Refused = true
is_refused BadBytecode = false
is_refused GenericModel = false

-- the start is covered by an entry that unwinds, or by one that can't be read
abbrev pub can_unwind : Image → Function → Bool
can_unwind image f = not (is_refused (unwinding_at (flow_graph_of image f) f.start))

-- an address of the function, with a cause that stands there
pub record IsUnwell (s : FlowGraph) (f : Function) (u : FrameFinding) : Type 0 where
  pub place : ℕ
  pub address : u.at ≡ address_of s place
  pub inside : u.at < f.end
  pub stands : CauseStands s place u.cause

-- None for a function that is accepted; else an address and a cause
abbrev pub IsFinding : FlowGraph → Function → Option FrameFinding → Type 0
IsFinding s f None = IsWell s
IsFinding s f (Some u) = IsUnwell s f u

pub record IsAudited (image : Image) (f : Function) (a : FunctionAudit) : Type 0 where
  pub name : a.name ≡ f.name
  pub start : a.start ≡ f.start
  pub unwinds : a.unwinds ≡ can_unwind image f
  pub finding : IsFinding (flow_graph_of image f) f a.unwell

-- of each of the functions, in their order
abbrev pub AreAudited : Image → List Function → List FunctionAudit → Type 0
AreAudited image [] [] = Unit {0}
AreAudited image [] (a ∷ audited) = ⊥
AreAudited image (f ∷ functions) [] = ⊥
AreAudited image (f ∷ functions) (a ∷ audited) = IsAudited image f a × AreAudited image functions audited
