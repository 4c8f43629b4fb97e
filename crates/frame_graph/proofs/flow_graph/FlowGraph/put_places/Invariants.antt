use Rattle.std.proofs.Common.{◌≡◌, length}
use Rattle.run_images.specs.Profiles.{profile_of}
use Rattle.frame_graph.specs.Places.{is_place, halfword_of}
use Rattle.frame_graph.specs.KeptPlaces.{ArePlaces}
use Rattle.frame_graph.proofs.flow_graph.FlowGraph.put_places.Given as goal

abbrev pub invariant-loop-place : goal.invariant-loop-place
invariant-loop-place l =
    (length l.places.items ≡ l.place) × ArePlaces l.self l.places.items × (l.here.code ≡ is_place l.self l.place) × (l.profile ≡ profile_of l.self.image)
    × (l.here.halfword ≡ halfword_of l.self l.place)
