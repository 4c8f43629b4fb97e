-- A function of an image, with what its facts depend on besides its code.
use Rattle.std.specs.Prelude.{ℕ, Bool, false, List, slice_index_or}
use Rattle.frame_facts.specs.declared.saves.Prologue.{Prologue}
use Rattle.frame_graph.specs.FlowGraph.{FlowGraph}
use Rattle.frame_graph.specs.Lowering.{is_lowering}

-- a function, its prologue, its landing pads, and the places that make a frame of variable size
pub record FramedFunction : Type 0 where
  pub flow_graph : FlowGraph
  pub prologue : Prologue
  pub pad : ℕ → Bool
  pub lowers : ℕ → Bool

-- the same, with lists of marks for its landing pads and its reached places
pub record Parts : Type 0 where
  pub flow_graph : FlowGraph
  pub prologue : Prologue
  pub pads : List Bool
  pub reached : List Bool

-- past the last mark there are none
abbrev pub framed_view : Parts → FramedFunction
framed_view a = record {
  flow_graph = a.flow_graph;
  prologue = a.prologue;
  pad = λ p. slice_index_or a.pads p false;
  lowers = is_lowering a.flow_graph (λ p. slice_index_or a.reached p false);
}
