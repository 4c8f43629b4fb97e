-- Marks of places as lists, and what a site of a place tells.
use Rattle.std.specs.Prelude.{ℕ, Bool, false, List, slice_index_or}
use Rattle.std.specs.Option.{option_map_or}
use Rattle.frame_graph.specs.FlowGraph.{FlowGraph}
use Rattle.frame_graph.specs.Sites.{site_at, is_split}
use Rattle.frame_reach.specs.Marks.{Marks}

-- the three marks of each place, and the list of the places that are marked as reached
pub record SearchView : Type 0 where
  pub reached : List Bool
  pub target : List Bool
  pub pad : List Bool
  pub places : List ℕ

abbrev pub is_set : List Bool → ℕ → Bool
is_set marks p = slice_index_or marks p false

-- the marks that the lists are; past their ends none is set
abbrev pub marks_of : SearchView → Marks
marks_of h = record { reached = is_set h.reached; target = is_set h.target; pad = is_set h.pad }

-- the place has a site whose covering entry begins after the function's start
abbrev pub splits_at : FlowGraph → ℕ → Bool
splits_at s p = option_map_or (is_split s) (site_at s p) false
