use Rattle.std.proofs.Common.{ℕ, ◌<◌, ◌≤◌, ◌-◌, length}
use Rattle.std.specs.Prelude.{slice_index}
use Rattle.frame_graph.specs.SiteCaching.{IsStretch}
use Rattle.frame_reach.specs.declared.marks.TheConstants.{MOST_REACHED}
use Rattle.frame_reach.specs.Search.{IsSound, IsPut, IsVisited}
use Rattle.frame_reach.proofs.search.visit_all.Given as goal

abbrev pub invariant-loop-next : goal.invariant-loop-next
invariant-loop-next l = record {
  sound : IsSound l.flow_graph l.found;
  entry : IsPut l.found 0;
  stretch : IsStretch l.flow_graph l.room.stretch;
  within : l.next ≤ length l.found.places.items;
  visited : (k : ℕ) → k < l.next → IsVisited l.flow_graph l.found (slice_index l.found.places.items k);
}

abbrev pub decreases-loop-next : goal.decreases-loop-next
decreases-loop-next l = MOST_REACHED - l.next
