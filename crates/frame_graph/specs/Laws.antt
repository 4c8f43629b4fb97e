-- Laws of flow graphs, in the terms of the standard.
use Rattle.std.specs.Prelude.{ℕ, ◌≡◌, ◌+◌, ◌*◌, ◌<◌, ◌↔◌, Bool, true, false, Some, List, ◌∷◌, ◌++◌, [], Ok, option_and_then}
use Rattle.std.specs.List.{Contains, list_any}
use Rattle.eh_desc.specs.declared.descriptor.Desc.{Desc}
use Rattle.thumb_isa.specs.declared.instr.Instr.TheVariants.{AddSubReg, MovHigh}
use Rattle.frame_entries.specs.declared.unwinding.EntrySummary.{EntrySummary}
use Rattle.frame_graph.specs.declared.edges.Edge.{Edge}
use Rattle.frame_graph.specs.FlowGraph.{FlowGraph}
use Rattle.frame_graph.specs.Reach.{IsReached}
use Rattle.frame_graph.specs.Places.{is_place, address_of, place_of}
use Rattle.frame_graph.specs.Edges.{edges_to, instruction_at}
use Rattle.frame_graph.specs.Lowering.{is_lowering}
use Rattle.frame_entries.specs.Unwinding.{landing_changes}
use Rattle.frame_entries.specs.Scopes.{Item, is_one, is_cleanup_at, pad_for}
use Rattle.frame_graph.specs.Sites.{pad_edges, edges_of}

-- every edge leads to a place whose address lies below the function's end
abbrev pub EdgesStayInside : Type 0
EdgesStayInside = (s : FlowGraph) (place : ℕ) (w : Edge) → Contains (edges_of s place) w → s.start + 2 * w.to < s.end

-- A descriptor has its edge, between those of the descriptors before and after it. A pad is reached by a resume if and only if a
-- descriptor before its own is a cleanup in scope.
abbrev pub LandingsFollow : Type 0
LandingsFollow =
    (s : FlowGraph) (site : ℕ) (u : EntrySummary) (before after : List Item) (d : Desc)
    → pad_edges s site u false (before ++ Ok d ∷ after)
    ≡ pad_edges s site u false before
    ++ (edges_to (landing_changes u (list_any (is_one (is_cleanup_at site)) before)) (option_and_then (place_of s) (pad_for site d))
    ++ pad_edges s site u (list_any (is_one (is_cleanup_at site)) (before ++ Ok d ∷ [])) after)

-- every place that is reached lies below the function's end
abbrev pub ReachedPlacesAreInside : Type 0
ReachedPlacesAreInside = (s : FlowGraph) (p : ℕ) → s.start < s.end → IsReached s p → s.start + 2 * p < s.end

-- a place that is code of the function is the place of its address
abbrev pub PlacesHaveTheirAddress : Type 0
PlacesHaveTheirAddress = (s : FlowGraph) (p : ℕ) → is_place s p ≡ true → place_of s (address_of s p) ≡ Some p

-- a place has a MOV of a register into sp, 2 bytes before it is a SUB of two registers into that register, and both are reached
pub record IsLoweredFrame (s : FlowGraph) (reached : ℕ → Bool) (place : ℕ) : Type 0 where
  pub before : ℕ
  pub register : ℕ
  pub minuend : ℕ
  pub subtrahend : ℕ
  pub address : address_of s place ≡ address_of s before + 2
  pub subtraction : instruction_at s before ≡ Some (AddSubReg true register minuend subtrahend)
  pub copy : instruction_at s place ≡ Some (MovHigh 13 register)
  pub first : reached before ≡ true
  pub second : reached place ≡ true

-- the lowering places are these, and no others
abbrev pub LoweringPlacesAreCopies : Type 0
LoweringPlacesAreCopies = (s : FlowGraph) (reached : ℕ → Bool) (place : ℕ) → (is_lowering s reached place ≡ true) ↔ IsLoweredFrame s reached place
