-- Where a fact leads from a place, and so the flow of facts of a function (docs/rules/acceptance.md, "Valid facts").
use Rattle.std.specs.Prelude.{ℕ, ◌-◌, ◌+◌, ◌/◌, Bool, true, false, if◌then◌else◌, map, List, [], Option, Some, None, Result, Ok, Err, option_and_then}
use Rattle.thumb_core.specs.Words.{registers_of_list}
use Rattle.frame_facts.specs.declared.cause.FrameCause.{FrameCause}
use Rattle.frame_facts.specs.declared.cause.FrameCause.TheVariants.{JoinDepth, PadDepth}
use Rattle.frame_facts.specs.declared.facts.Fact.{Fact}
use Rattle.frame_facts.specs.Facts.{entry_fact, forget_registers, join_of, IsAtMost}
use Rattle.frame_graph.specs.declared.edges.Edge.{Edge}
use Rattle.frame_graph.specs.FlowGraph.{FlowGraph}
use Rattle.frame_graph.specs.Edges.{instruction_at}
use Rattle.frame_graph.specs.Sites.{edges_of}
use Rattle.frame_dataflow.specs.Flow.{Flow, IsState, IsShownAt}
use Rattle.frame_dataflow.specs.Laws as law
use Rattle.frame_flow.specs.Framed.{FramedFunction}
use Rattle.frame_flow.specs.Causes.{after_at, meets_cause}

-- a fact that has no cause
abbrev pub fact_of : Result Fact FrameCause → Option Fact
fact_of (Ok g) = Some g
fact_of (Err c) = None

-- the fact after the instruction at a place; None if there is no instruction, or its effect gives a cause
unfoldable pub fact_after : FramedFunction → ℕ → Fact → Option Fact
fact_after x p f = option_and_then (λ i. fact_of (after_at x p f i)) (instruction_at x.flow_graph p)

-- on an edge some registers are clobbered
abbrev pub along_edge : Fact → Edge → ℕ × Fact
along_edge g w = (w.to, forget_registers (registers_of_list w.clobbers) g)

abbrev pub along_edges : Option Fact → List Edge → List (ℕ × Fact)
along_edges None edges = []
along_edges (Some g) edges = map (along_edge g) edges

-- the places that a fact at a place leads to, each with the fact there
unfoldable pub transfer : FramedFunction → ℕ → Fact → List (ℕ × Fact)
transfer x p f = along_edges (fact_after x p f) (edges_of x.flow_graph p)

-- the causes of two paths that reach a place with different depths
abbrev pub is_depth_cause : FramedFunction → ℕ → FrameCause → Bool
is_depth_cause x p JoinDepth = true
is_depth_cause x p PadDepth = x.pad p
is_depth_cause x p c = false

-- the one of them that is named
abbrev pub parting : FramedFunction → ℕ → FrameCause
parting x p = if x.pad p then PadDepth else JoinDepth

-- At the entry nothing is on the stack and each register has its own value; from there facts flow along the edges.
abbrev pub flow_of : FramedFunction → Flow Fact FrameCause
flow_of x = record { entry = 0; start = entry_fact; transfer = transfer x; meets = meets_cause x; join = join_of; parted = is_depth_cause x }

-- how many places a function has
abbrev pub count_of : FlowGraph → ℕ
count_of s = (s.end - s.start + 1) / 2

-- ---- what flows in a function

abbrev pub IsStateOf : FramedFunction → ℕ → Fact → Type 0
IsStateOf x = IsState Fact FrameCause (flow_of x)

abbrev pub StandsIn : FramedFunction → ℕ → FrameCause → Type 0
StandsIn x = IsShownAt Fact FrameCause (flow_of x)

-- the function has valid facts
abbrev pub HasFacts : FramedFunction → Type 0
HasFacts x = law.HasValidFacts Fact FrameCause (flow_of x) IsAtMost

-- no cause stands at any of its places
abbrev pub NoneStands : FramedFunction → Type 0
NoneStands x = law.NoneStands Fact FrameCause (flow_of x)
