-- What the facts of an accepted function say of an instruction: its effect shows no cause, and what it leaves is a state after each edge.
use Rattle.std.proofs.Common.{subst, ◌≡◌, ℕ, [], Some, Result, Ok, Err, refl, List, ap}
use Rattle.std.specs.Prelude.{Contains}
use Rattle.std.proofs.lemmas.List.Elements.{All-contains, Contains-append_left, Contains-append_right}
use Rattle.std.specs.Option.{option_map_or}
use Rattle.elf_image.specs.Functions.{Function}
use Rattle.sim_machines.specs.frame_reach.Marks.{Marks, AreMarks}
use Rattle.sim_machines.proofs.frame_reach.Existing.{marks_agree}
use Rattle.sim_machines.specs.frame_flow.Flows.{NoneStands, IsStateOf}
use Rattle.sim_machines.proofs.frame_flow.Visiting.{clear}
use Rattle.sim_machines.specs.frame_check.Accepts.{Accepted, IsWell, IsSound, framed_function}
use Rattle.sim_machines.specs.frame_check.Roots.{flow_graph_of}
use Rattle.thumb_isa.specs.declared.instr.Instr.{Instr}
use Rattle.thumb_core.specs.Words.{registers_of_list}
use Rattle.frame_dataflow.specs.Flow.{met, along}
use Rattle.frame_dataflow.proofs.Work.{contains_head}
use Rattle.frame_facts.specs.declared.cause.FrameCause.{FrameCause}
use Rattle.frame_facts.specs.declared.cause.FrameCause.TheVariants.{Undecodable, BranchOut, CallNotFunction}
use Rattle.frame_facts.specs.declared.facts.Fact.{Fact}
use Rattle.frame_facts.specs.After.{after_of}
use Rattle.frame_facts.specs.Facts.{forget_registers}
use Rattle.sim_machines.specs.frame_graph.declared.edges.Edge.{Edge}
use Rattle.sim_machines.specs.frame_graph.Places.{address_of, standing_at}
use Rattle.frame_code.specs.Standing.{instruction_of}
use Rattle.sim_machines.specs.frame_graph.Edges.{is_undecodable, branches_out, calls_nothing, instruction_at}
use Rattle.sim_machines.specs.frame_graph.Sites.{edges_of}
use Rattle.sim_machines.specs.frame_flow.Framed.{FramedFunction}
use Rattle.sim_machines.specs.frame_flow.Causes.{cause_if, causes_of_result, after_at, instruction_causes, causes_at}
use Rattle.sim_machines.proofs.frame_flow.Causing.{found_are_met}
use Rattle.sim_machines.proofs.frame_flow.Conditions.{transfer_follows_edges}
use Rattle.frame_code.specs.declared.standing.Standing.TheVariants.{Instruction}
use Rattle.sim_machines.specs.frame_graph.FlowGraph.{FlowGraph}
use Rattle.sim_relation.specs.Chain.{code}

-- ---- no cause stands in a function of an accepted image, whichever its marks are

pub none_stands : (x : Accepted) (f : Function) (m : Marks) → IsSound x → Contains x.image.functions f → AreMarks (flow_graph_of x.image f) m → NoneStands (code x f m)
none_stands x f m sound c are =
    let well = All-contains (λ (g : Function). IsWell (flow_graph_of x.image g)) x.image.functions f sound.functions c in
    subst (λ (n : Marks). NoneStands (code x f n)) (marks_agree (flow_graph_of x.image f) well.marks m well.are are)
    (clear (framed_function (flow_graph_of x.image f) well.marks) well.facts)

-- ---- the effect of an instruction

module _ (c : FramedFunction) (p : ℕ) (f : Fact) (none : NoneStands c) (state : IsStateOf c p f) where
  -- what is found at a place with a state stands there
  not_found : (cause : FrameCause) → Contains (causes_at c p f) cause → ⊥
  not_found cause h = none p cause (met state ((found_are_met c cause p f).1 h))

  module _ (i : Instr) (at : instruction_at c.flow_graph p ≡ Some i) where
    causes_found : (cause : FrameCause) → Contains (instruction_causes c p f i) cause → Contains (causes_at c p f) cause
    unfolding causes_at
    causes_found cause h =
        let last : Contains (option_map_or (instruction_causes c p f) (instruction_at c.flow_graph p) []) cause = rw at h in
        Contains-append_right (cause_if (is_undecodable c.flow_graph p) Undecodable) _ cause
        (Contains-append_right (cause_if (branches_out c.flow_graph p) BranchOut) _ cause
        (Contains-append_right (cause_if (calls_nothing c.flow_graph p) CallNotFunction) _ cause last))

    -- its effect shows no cause
    pub leaves : (g : Fact) × (after_of c.prologue (c.lowers p) (address_of c.flow_graph p) i f ≡ Ok g)
    leaves = go (after_of c.prologue (c.lowers p) (address_of c.flow_graph p) i f) refl
      where
        go : (r : Result Fact FrameCause) → after_of c.prologue (c.lowers p) (address_of c.flow_graph p) i f ≡ r → (g : Fact) × (after_of c.prologue (c.lowers p) (address_of c.flow_graph p) i f ≡ Ok g)
        go (Ok g) e = (g, e)
        go (Err cause) e =
            let here : Contains (causes_of_result (after_at c p f i)) cause = rw e (contains_head cause []) in
            absurd (not_found cause (causes_found cause (Contains-append_left (causes_of_result (after_at c p f i)) _ cause here)))

  -- along an edge goes what it leaves, but for what the edge clobbers
  pub goes_along : (i : Instr) (g : Fact) (w : Edge) → instruction_at c.flow_graph p ≡ Some i → after_of c.prologue (c.lowers p) (address_of c.flow_graph p) i f ≡ Ok g → Contains (edges_of c.flow_graph p) w
      → IsStateOf c w.to (forget_registers (registers_of_list w.clobbers) g)
  goes_along i g w at e h = along state ((transfer_follows_edges c p f w.to (forget_registers (registers_of_list w.clobbers) g)).1 (g, w, (i, at, e), h, refl, refl))

listed_nothing : registers_of_list 0 ≡ []
unfolding registers_of_list
listed_nothing = refl

-- an edge that clobbers nothing
pub goes_straight : (c : FramedFunction) (p : ℕ) (f : Fact) → NoneStands c → IsStateOf c p f → (i : Instr) (g : Fact) (q : ℕ) → instruction_at c.flow_graph p ≡ Some i
    → after_of c.prologue (c.lowers p) (address_of c.flow_graph p) i f ≡ Ok g → Contains (edges_of c.flow_graph p) (record { to = q; clobbers = 0 }) → IsStateOf c q g
goes_straight c p f none state i g q at e h =
    subst (λ (rs : List ℕ). IsStateOf c q (forget_registers rs g)) listed_nothing (goes_along c p f none state i g (record { to = q; clobbers = 0 }) at e h)

pub stands_instruction : (s : FlowGraph) (p : ℕ) (i : Instr) (size : ℕ) → standing_at s p ≡ Instruction i size → instruction_at s p ≡ Some i
stands_instruction s p i size e = ap instruction_of e
