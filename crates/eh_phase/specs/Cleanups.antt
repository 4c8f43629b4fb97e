-- The landing pads that a throw and its resumes enter: the cleanups in order, and then the barrier.
use Rattle.std.specs.Prelude.{ℕ, ◌&&◌, Bool, true, false, if◌then◌else◌, List, ◌++◌, find, Option, Some, None, option_and_then, Result, Ok, Err}
use Rattle.std.specs.Option.{option_to_list}
use Rattle.std.specs.List.{filter_map, take_while, before_first, list_any}
use Rattle.eh_desc.specs.declared.descriptor.DescKind.{DescKind}
use Rattle.eh_desc.specs.declared.descriptor.DescKind.TheVariants as kind
use Rattle.eh_desc.specs.declared.descriptor.Desc.{Desc}
use Rattle.eh_desc.specs.declared.descriptor.DescFault.{DescFault}
use Rattle.eh_phase.specs.declared.phase2.Goal.{Goal}
use Rattle.eh_phase.specs.declared.phase2.Entered.{Entered}
use Rattle.eh_phase.specs.declared.phase2.Entered.TheVariants as enters
use Rattle.eh_phase.specs.Verdict.{in_scope}
use Rattle.eh_phase.specs.Phases.{Frame, Place, is_goal, vrs_of, enter_at_place, places}

-- ---- the barrier: a catch or a specification in scope, in the frame and at the address of the goal

abbrev pub can_stop : DescKind → Bool
can_stop (kind.Cleanup pad) = false
can_stop (kind.Catch pad reference type) = true
can_stop (kind.Spec types count pad) = true

abbrev pub is_barrier_item : Goal → Frame → Result Desc DescFault → Bool
is_barrier_item g f (Ok d) = in_scope f.site d && (can_stop d.kind && is_goal g f d.at)
is_barrier_item g f (Err fault) = false

abbrev pub is_barrier : Goal → Place → Bool
is_barrier g p = is_barrier_item g p.frame p.item

-- ---- a cleanup in scope, as it is entered

abbrev pub cleanup_by : Frame → Desc → DescKind → Option Entered
cleanup_by f d (kind.Cleanup pad) = Some (enters.Cleanup (vrs_of f) pad d.next f.site)
cleanup_by f d (kind.Catch pad reference type) = None
cleanup_by f d (kind.Spec types count pad) = None

abbrev pub cleanup_item : Frame → Result Desc DescFault → Option Entered
cleanup_item f (Ok d) = if in_scope f.site d then cleanup_by f d d.kind else None
cleanup_item f (Err fault) = None

abbrev pub cleanup_at : Place → Option Entered
cleanup_at p = cleanup_item p.frame p.item

-- ---- the list

-- the cleanups in scope, in order: those of all frames inside the barrier's, then those of the barrier's frame that come before it
unfoldable pub cleanups_in : Goal → List Place → List Entered
cleanups_in g ps = filter_map cleanup_at (before_first (is_barrier g) ps)

-- the same, and then the barrier
unfoldable pub due_in : Goal → List Place → List Entered
due_in g ps = cleanups_in g ps ++ option_to_list (option_and_then (enter_at_place g) (find (is_barrier g) ps))

-- what is still to be entered, from the descriptor at an address in the first frame on
abbrev pub remaining_landings : Goal → ℕ → List Frame → List Entered
remaining_landings g from fs = due_in g (places from fs)

-- ---- a barrier that can be reached: no unreadable descriptor comes before it

abbrev pub can_be_read : Result Desc DescFault → Bool
can_be_read (Ok d) = true
can_be_read (Err fault) = false

unfoldable pub is_reached_in : Goal → List Place → Bool
is_reached_in g ps = list_any (is_barrier g) (take_while (λ (p : Place). can_be_read p.item) ps)

abbrev pub is_reached : Goal → ℕ → List Frame → Bool
is_reached g from fs = is_reached_in g (places from fs)
