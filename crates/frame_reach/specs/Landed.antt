-- The landing pads of the site of a place, in the search for what is reached.
use Rattle.std.specs.Prelude.{ℕ}
use Rattle.std.specs.List.{Contains}
use Rattle.frame_graph.specs.declared.edges.Edge.{Edge}
use Rattle.frame_graph.specs.FlowGraph.{FlowGraph}
use Rattle.frame_graph.specs.Sites.{site_at, edges_from}
use Rattle.frame_reach.specs.declared.search.Search.{Search}
use Rattle.frame_reach.specs.Search.{search_view, IsLandedIn}

-- each landing pad of a place's site is found, if it has a site
abbrev pub ArePadsOf : FlowGraph → Search → ℕ → Type 0
ArePadsOf s f p = (w : Edge) → Contains (edges_from s (site_at s p)) w → IsLandedIn (search_view f) w.to
