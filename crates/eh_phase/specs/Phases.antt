-- The two phases over a whole list of frames (IHI 0038, "Phase 1 unwinding", "Phase 2 unwinding"; docs/rules/phases-and-exceptions.md).
use Rattle.std.specs.Prelude.{ℕ, ◌==◌, ◌&&◌, Bool, true, if◌then◌else◌, List, [], ◌∷◌, ◌++◌, map, Option, Some, None, unwrap_or, option_map, Result, Ok, Err}
use Rattle.std.specs.List.{flat_map}
use Rattle.thumb_core.specs.declared.ends.Cause.{Cause}
use Rattle.thumb_core.specs.declared.ends.Cause.TheVariants.{CannotUnwind}
use Rattle.eh_bytecode.specs.declared.frame.Vrs.{Vrs}
use Rattle.eh_desc.specs.declared.descriptor.DescKind.{DescKind}
use Rattle.eh_desc.specs.declared.descriptor.DescKind.TheVariants as kind
use Rattle.eh_desc.specs.declared.descriptor.Desc.{Desc}
use Rattle.eh_desc.specs.declared.descriptor.DescFault.{DescFault}
use Rattle.eh_phase.specs.declared.verdict.Verdict.{Verdict}
use Rattle.eh_phase.specs.declared.verdict.Verdict.TheVariants as says
use Rattle.eh_phase.specs.declared.phase1.Found.{Found}
use Rattle.eh_phase.specs.declared.phase1.Found.TheVariants as found
use Rattle.eh_phase.specs.declared.phase2.Goal.{Goal}
use Rattle.eh_phase.specs.declared.phase2.Entered.{Entered}
use Rattle.eh_phase.specs.declared.phase2.Entered.TheVariants as enters
use Rattle.eh_phase.specs.Firsts.{first_some}
use Rattle.eh_phase.specs.Verdict.{Meeting, in_scope, verdict_of}

-- what a phase sees of a frame: its site, its stack pointer, its registers, and the descriptors of the entry that covers the site
pub record Frame : Type 0 where
  pub site : ℕ
  pub sp : ℕ
  pub r : List ℕ
  pub items : List (Result Desc DescFault)

-- the frames, innermost first, and the reason why they end
pub record Frames : Type 0 where
  pub frames : List Frame
  pub last : Cause

-- ---- phase 1: the first frame with a verdict decides

abbrev pub verdict_result : Frame → Verdict → Found
verdict_result f (says.Barrier desc hit) = found.Barrier (record { sp = f.sp; desc = desc; site = f.site; hit = hit })
verdict_result f (says.ObjectRead a) = found.ObjectRead a
verdict_result f (says.Terminate cause) = found.Terminate cause

abbrev pub frame_result : Meeting → Frame → Option Found
frame_result m f = option_map (verdict_result f) (verdict_of m f.site f.items)

unfoldable pub phase1 : Meeting → Frames → Found
phase1 m fs = unwrap_or (first_some (frame_result m) fs.frames) (found.Terminate fs.last)

-- ---- phase 2: the first cleanup in scope, or the barrier

-- a descriptor, or the fault that ends a list of them, with its frame
pub record Place : Type 0 where
  pub frame : Frame
  pub item : Result Desc DescFault

abbrev pub descriptor_places : Frame → List (Result Desc DescFault) → List Place
descriptor_places f items = map (λ (i : Result Desc DescFault). record { frame = f; item = i }) items

abbrev pub places_in : Frame → List Place
places_in f = descriptor_places f f.items

-- the item has the address; a fault counts as having every address
abbrev pub stands_at : ℕ → Result Desc DescFault → Bool
stands_at at (Ok d) = d.at == at
stands_at at (Err fault) = true

unfoldable pub from_descriptor : ℕ → List (Result Desc DescFault) → List (Result Desc DescFault)
from_descriptor at [] = []
from_descriptor at (i ∷ more) = if stands_at at i then i ∷ more else from_descriptor at more

-- the items from the one at an address on; all of them for 0
abbrev pub from_address : ℕ → List (Result Desc DescFault) → List (Result Desc DescFault)
from_address at items = if at == 0 then items else from_descriptor at items

-- the places of all frames, in order; in the first frame, those from an address on
unfoldable pub places : ℕ → List Frame → List Place
places from [] = []
places from (f ∷ more) = descriptor_places f (from_address from f.items) ++ flat_map places_in more

abbrev pub is_goal : Goal → Frame → ℕ → Bool
is_goal g f at = f.sp == g.sp && at == g.desc

abbrev pub vrs_of : Frame → Vrs
vrs_of f = record { r = f.r }

-- what is entered if the barrier is a specification
abbrev pub enter_spec : Frame → Option ℕ → Entered
enter_spec f None = enters.Unexpected
enter_spec f (Some pad) = enters.Spec (vrs_of f) pad

abbrev pub enter_by_kind : Goal → Frame → Desc → DescKind → Option Entered
enter_by_kind g f d (kind.Cleanup pad) = Some (enters.Cleanup (vrs_of f) pad d.next f.site)
enter_by_kind g f d (kind.Catch pad reference type) = if is_goal g f d.at then Some (enters.Catch (vrs_of f) pad) else None
enter_by_kind g f d (kind.Spec types count pad) = if is_goal g f d.at then Some (enter_spec f pad) else None

-- what is entered for an item, if the site is in its scope
abbrev pub enter_item : Goal → Frame → Result Desc DescFault → Option Entered
enter_item g f (Ok d) = if in_scope f.site d then enter_by_kind g f d d.kind else None
enter_item g f (Err fault) = Some (enters.Terminate CannotUnwind)

abbrev pub enter_at_place : Goal → Place → Option Entered
enter_at_place g p = enter_item g p.frame p.item

unfoldable pub phase2 : Goal → ℕ → Frames → Entered
phase2 g from fs = unwrap_or (first_some (enter_at_place g) (places from fs.frames)) (enters.Terminate fs.last)
