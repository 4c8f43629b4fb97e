-- Which places of a function are reached, and which are targets of branches or landing pads. docs/rules/acceptance.md, "Reached places".
use Rattle.std.specs.Prelude.{ℕ, ◌≡◌, ◌↔◌, ◌⊎◌, ◌<◌, nat_eq, Bool, true, List, length, Some}
use Rattle.std.specs.List.{Contains, IsDistinct}
use Rattle.frame_graph.specs.declared.edges.Edge.{Edge}
use Rattle.frame_graph.specs.FlowGraph.{FlowGraph}
use Rattle.frame_graph.specs.Edges.{branch_place}
use Rattle.frame_graph.specs.Sites.{site_at, edges_from, is_split}
use Rattle.frame_graph.specs.Reach.{IsReached}
use Rattle.frame_reach.specs.declared.marks.TheConstants.{MOST_REACHED}

-- a landing pad: an edge leads there from a site that is reached
abbrev pub IsPad : FlowGraph → ℕ → Type 0
IsPad s q = (p : ℕ) × (w : Edge) × IsReached s p × Contains (edges_from s (site_at s p)) w × (w.to ≡ q)

-- a branch that is reached leads there
abbrev pub IsBranched : FlowGraph → ℕ → Type 0
IsBranched s q = (p : ℕ) × IsReached s p × (branch_place s p ≡ Some q)

-- a target: a reached branch leads to the place, or it is a landing pad. The target of a call isn't one
abbrev pub IsTarget : FlowGraph → ℕ → Type 0
IsTarget s q = IsBranched s q ⊎ IsPad s q

-- for each place whether it is reached, a target, and a landing pad
pub record Marks : Type 0 where
  pub reached : ℕ → Bool
  pub target : ℕ → Bool
  pub pad : ℕ → Bool

-- the marks of a function: each is true if and only if what it means holds
pub record AreMarks (s : FlowGraph) (m : Marks) : Type 0 where
  pub reached : (p : ℕ) → (m.reached p ≡ true) ↔ IsReached s p
  pub target : (p : ℕ) → (m.target p ≡ true) ↔ IsTarget s p
  pub pad : (p : ℕ) → (m.pad p ≡ true) ↔ IsPad s p

-- these are the places that are marked as reached, each once
pub record AreThePlaces (m : Marks) (places : List ℕ) : Type 0 where
  pub once : IsDistinct nat_eq places
  pub all : (p : ℕ) → Contains places p ↔ (m.reached p ≡ true)

-- ---- what is refused of a function as a whole

-- more different places are reached than a function may have
abbrev pub IsTooLong : FlowGraph → Type 0
IsTooLong s = (ps : List ℕ) × IsDistinct nat_eq ps × ((p : ℕ) → Contains ps p → IsReached s p) × (MOST_REACHED < length ps)

-- the entry of the exception index that covers a reached site begins after the function's start
abbrev pub IsSplit : FlowGraph → Type 0
IsSplit s = (p : ℕ) × (site : ℕ) × IsReached s p × (site_at s p ≡ Some site) × (is_split s site ≡ true)
