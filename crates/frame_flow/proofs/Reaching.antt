-- Where a function has valid facts, the places that are reached are those that have a state.
use Rattle.std.proofs.Common.{ℕ, ◌≡◌, ◌++◌, Some, option_and_then, ap, subst, refl}
use Rattle.std.specs.List.{Contains}
use Rattle.thumb_isa.specs.declared.instr.Instr.{Instr}
use Rattle.frame_facts.specs.declared.cause.FrameCause.{FrameCause}
use Rattle.frame_facts.specs.declared.facts.Fact.{Fact}
use Rattle.frame_facts.specs.Facts.{entry_fact, IsAtMost}
use Rattle.frame_code.specs.declared.standing.Standing.{Standing}
use Rattle.frame_code.specs.declared.standing.Standing.TheVariants.{Instruction, Udf, Nothing}
use Rattle.frame_graph.specs.declared.edges.Edge.{Edge}
use Rattle.frame_graph.specs.FlowGraph.{FlowGraph}
use Rattle.frame_graph.specs.Places.{address_of, standing_at}
use Rattle.frame_code.specs.Standing.{instruction_of}
use Rattle.frame_graph.specs.Edges.{straight_by, instruction_at}
use Rattle.frame_graph.specs.Sites.{site_of, edges_from, edges_of}
use Rattle.frame_graph.specs.Reach.{IsReached, entry, along as stepped}
use Rattle.frame_dataflow.specs.Flow.{at_entry, along, meeting, Passes}
use Rattle.frame_dataflow.proofs.Law.{below}
use Rattle.frame_dataflow.proofs.Work.{contains_none}
use Rattle.frame_flow.specs.Framed.{FramedFunction}
use Rattle.frame_flow.specs.Flows.{along_edge, flow_of, IsStateOf, HasFacts}
use Rattle.frame_flow.specs.Laws.{FactsReach}
use Rattle.frame_flow.proofs.Causing.{passes_found}
use Rattle.frame_flow.proofs.Instance.{laws, passes_after, is_transfer, transfer_is, passes_vaguer}

-- only from an instruction an edge leads on
edge_by : (s : FlowGraph) (a : ℕ) (t : Standing) (w : Edge) → Contains (straight_by s a t ++ edges_from s (option_and_then (site_of a) (instruction_of t))) w → (i : Instr) × (instruction_of t ≡ Some i)
edge_by s a (Instruction i size) w h = (i, refl)
edge_by s a Udf w h = absurd (contains_none w h)
edge_by s a Nothing w h = absurd (contains_none w h)

edge_from : (s : FlowGraph) (p : ℕ) (w : Edge) → Contains (edges_of s p) w → (i : Instr) × (instruction_at s p ≡ Some i)
unfolding edges_of
edge_from s p w h = edge_by s (address_of s p) (standing_at s p) w h

pub state_reached : (x : FramedFunction) (p : ℕ) (f : Fact) → IsStateOf x p f → IsReached x.flow_graph p
state_reached x _ _ at_entry = entry
state_reached x _ _ (along {p} {q} {f} {g} s e) =
    let w = transfer_is x p f q g e in
    subst (λ k. IsReached x.flow_graph k) (ap (λ (y : ℕ × Fact). y.0) w.2.2) (stepped (state_reached x p f s) w.2.1)
state_reached x _ _ (meeting {p} {f} {g} {h} s t e) = state_reached x p f s

reached_state : (x : FramedFunction) → HasFacts x → (p : ℕ) → IsReached x.flow_graph p → (f : Fact) × IsStateOf x p f
reached_state x v _ entry = (entry_fact, at_entry)
reached_state x v _ (stepped {p} {w} r h) =
    let s = reached_state x v p r in
    let c = below Fact FrameCause (flow_of x) IsAtMost (laws x) v.0 v.1 p s.0 s.1 in
    let passes : Passes (flow_of x) p s.0 = passes_vaguer x p s.0 c.0 c.2 (v.1.passes p c.0 c.1) in
    let i = edge_from x.flow_graph p w h in
    let b = passes_after x p s.0 i.0 (passes_found x p s.0 passes) i.1 in
    ((along_edge b.0 w).1, along s.1 (is_transfer x p s.0 b.0 w b.2 h))

pub facts_reach : FactsReach
facts_reach = record {
  states = λ x v p. (λ r. reached_state x v p r, λ s. state_reached x p s.0 s.1);
  facts = λ x facts v p r.
      let s = reached_state x (facts, v) p r in
      let c = below Fact FrameCause (flow_of x) IsAtMost (laws x) facts v p s.0 s.1 in
      (c.0, c.1);
}
