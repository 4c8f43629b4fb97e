-- The search for the reached places: its invariant.
use Rattle.std.specs.Prelude.{ℕ, ◌≡◌, ◌<◌, ◌≤◌, true, List, length, slice_index, Option, Some, Result, Ok, Err}
use Rattle.std.specs.List.{Contains}
use Rattle.frame_graph.specs.declared.edges.Edge.{Edge}
use Rattle.frame_graph.specs.FlowGraph.{FlowGraph}
use Rattle.frame_graph.specs.Edges.{straight_edges, branch_place}
use Rattle.frame_graph.specs.Sites.{site_at, edges_from}
use Rattle.frame_graph.specs.Reach.{IsReached}
use Rattle.frame_reach.specs.declared.marks.TheConstants.{MOST_REACHED}
use Rattle.frame_reach.specs.declared.search.Search.{Search}
use Rattle.frame_reach.specs.declared.search.ReachFault.{ReachFault}
use Rattle.frame_reach.specs.declared.search.ReachFault.TheVariants.{TooLong, OutOfMemory}
use Rattle.frame_reach.specs.Marks.{IsPad, IsTarget, AreMarks, AreThePlaces, IsTooLong}
use Rattle.frame_reach.specs.Held.{SearchView, is_set, marks_of}
use Rattle.frame_reach.specs.Prologue.{places}

-- all marks and listed places are right, and there aren't too many
pub record AreSound (s : FlowGraph) (h : SearchView) : Type 0 where
  pub reached_long : length h.reached ≡ places s
  pub target_long : length h.target ≡ places s
  pub pad_long : length h.pad ≡ places s
  pub listed : AreThePlaces (marks_of h) h.places
  pub few : length h.places ≤ MOST_REACHED
  pub reached : (p : ℕ) → is_set h.reached p ≡ true → IsReached s p
  pub target : (p : ℕ) → is_set h.target p ≡ true → IsTarget s p
  pub pad : (p : ℕ) → is_set h.pad p ≡ true → IsPad s p

-- what is marked stays so, and what is on the list stays there
pub record Grow (h g : SearchView) : Type 0 where
  pub reached : (p : ℕ) → is_set h.reached p ≡ true → is_set g.reached p ≡ true
  pub target : (p : ℕ) → is_set h.target p ≡ true → is_set g.target p ≡ true
  pub pad : (p : ℕ) → is_set h.pad p ≡ true → is_set g.pad p ≡ true
  pub longer : length h.places ≤ length g.places
  pub kept : (k : ℕ) → k < length h.places → slice_index g.places k ≡ slice_index h.places k

abbrev pub search_view : Search → SearchView
search_view f = record { reached = f.reached.items; target = f.targets.items; pad = f.pads.items; places = f.places.items }

abbrev pub IsSound : FlowGraph → Search → Type 0
IsSound s f = AreSound s (search_view f)

abbrev pub Grows : Search → Search → Type 0
Grows f g = Grow (search_view f) (search_view g)

-- a step keeps the invariant and does its work, or too many places are reached
abbrev pub Steps : FlowGraph → Search → Search → Type 0 → Result (Unit {0}) ReachFault → Type 0
Steps s f g done (Ok u) = IsSound s g × Grows f g × done
Steps s f g done (Err TooLong) = IsTooLong s
Steps s f g done (Err OutOfMemory) = Unit {0}

-- ---- the work of each step

abbrev pub IsPutIn : SearchView → ℕ → Type 0
IsPutIn h p = is_set h.reached p ≡ true

abbrev pub IsLandedIn : SearchView → ℕ → Type 0
IsLandedIn h p = (is_set h.reached p ≡ true) × (is_set h.target p ≡ true) × (is_set h.pad p ≡ true)

abbrev pub IsPut : Search → ℕ → Type 0
IsPut f p = IsPutIn (search_view f) p

abbrev pub ArePut : Search → List Edge → Type 0
ArePut f edges = (w : Edge) → Contains edges w → IsPutIn (search_view f) w.to

abbrev pub IsLanded : Search → ℕ → Type 0
IsLanded f p = IsLandedIn (search_view f) p

abbrev pub AreLanded : Search → List Edge → Type 0
AreLanded f edges = (w : Edge) → Contains edges w → IsLandedIn (search_view f) w.to

abbrev pub AllTargets : FlowGraph → Option ℕ → Type 0
AllTargets s target = (q : ℕ) → target ≡ Some q → IsTarget s q

pub record Aims (s : FlowGraph) (f g : Search) (target : Option ℕ) : Type 0 where
  pub sound : IsSound s g
  pub grows : Grows f g
  pub aimed : (q : ℕ) → target ≡ Some q → is_set g.targets.items q ≡ true

-- a place whose edges are followed
pub record AreFollowed (s : FlowGraph) (h : SearchView) (p : ℕ) : Type 0 where
  pub straight : (w : Edge) → Contains (straight_edges s p) w → IsPutIn h w.to
  pub landings : (w : Edge) → Contains (edges_from s (site_at s p)) w → IsLandedIn h w.to
  pub branch : (q : ℕ) → branch_place s p ≡ Some q → is_set h.target q ≡ true

abbrev pub IsVisited : FlowGraph → Search → ℕ → Type 0
IsVisited s f p = AreFollowed s (search_view f) p

-- ---- the whole search

-- the entry is found
abbrev pub Begins : FlowGraph → Search → Type 0
Begins s f = IsSound s f × IsPut f 0

abbrev pub Starts : FlowGraph → Result Search ReachFault → Type 0
Starts s (Ok f) = Begins s f
Starts s (Err TooLong) = IsTooLong s
Starts s (Err OutOfMemory) = Unit {0}

-- all is found, or too many places are reached
abbrev pub Follows : FlowGraph → Search → Result (Unit {0}) ReachFault → Type 0
Follows s f (Ok u) = AreMarks s (marks_of (search_view f)) × AreThePlaces (marks_of (search_view f)) f.places.items × (IsTooLong s → ⊥)
Follows s f (Err TooLong) = IsTooLong s
Follows s f (Err OutOfMemory) = Unit {0}
