-- What is kept of the places of a function.
use Rattle.std.specs.Prelude.{◌≡◌, ℕ, ◌<◌, List, length, slice_index_or}
use Rattle.frame_graph.specs.declared.kept_places.KeptPlace.{KeptPlace}
use Rattle.frame_graph.specs.FlowGraph.{FlowGraph}
use Rattle.frame_graph.specs.Places.{is_place, standing_at}

-- whether it is code of the function, and what stands there
abbrev pub place_contents : FlowGraph → ℕ → KeptPlace
place_contents s place = record { code = is_place s place; standing = standing_at s place }

-- what is cached is what the first places of the function are, as many as are cached; `d` stands for those past the end
pub record ArePlaces (s : FlowGraph) (places : List KeptPlace) : Type 0 where
  pub each : (k : ℕ) (d : KeptPlace) → k < length places → slice_index_or places k d ≡ place_contents s k
