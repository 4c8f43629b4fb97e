use Rattle.std.proofs.Common.{◌≡◌, ◌-◌}
use Rattle.std.specs.List.{fold, flat_map}
use Rattle.eh_match.specs.Walk.{along, with_path_if_wanted}
use Rattle.eh_match.proofs.Walks.{walked}
use Rattle.eh_match.proofs.walk.+walk.Given as goal

abbrev pub decreases-walk : goal.decreases-walk
decreases-walk g l = l.left

-- what is left of the bases is seen after what is seen now as all paths are after what was seen at first
abbrev pub invariant-loop-base : goal.invariant-loop-base
invariant-loop-base g l =
    let segments = (g.B.Bus.memory l.bus).segments in
    (goal.iterator-loop-base g).can_next l.base-iterator × (goal.iterator-loop-base g).is_finite l.base-iterator
    × (fold (with_path_if_wanted l.graph l.wanted) l.seen (flat_map (λ b. walked l.graph segments (l.left - 1) (along segments l.path b)) l.base-iterator) ≡ fold (with_path_if_wanted l.graph l.wanted) l.fn.seen (walked l.graph segments l.left l.path))
