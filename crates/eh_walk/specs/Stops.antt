-- Where a forced unwinding stops (docs/guide/walks-and-threads.md, "Forced unwinding").
use Rattle.std.specs.Prelude.{ℕ, ◌&&◌, Bool, true, false, if◌then◌else◌, List, [], ◌∷◌, take, drop, slice_index, Option, Some, None, is_some, Result, Ok, Err}
use Rattle.std.specs.List.{list_any}
use Rattle.elf_image.specs.Image.{Image}
use Rattle.eh_codes.specs.declared.row.Entry.{Entry}
use Rattle.eh_index.specs.Covering.{covering}
use Rattle.eh_index.specs.Places.{table_of}
use Rattle.eh_index.specs.Rows.{entries_of}
use Rattle.eh_desc.specs.Grammar.{items_of}
use Rattle.eh_desc.specs.declared.descriptor.CatchType.TheVariants.{All, AllFails, One}
use Rattle.eh_desc.specs.declared.descriptor.DescKind.{DescKind}
use Rattle.eh_desc.specs.declared.descriptor.DescKind.TheVariants.{Cleanup, Catch, Spec}
use Rattle.eh_desc.specs.declared.descriptor.Desc.{Desc}
use Rattle.eh_desc.specs.declared.descriptor.DescFault.{DescFault}
use Rattle.eh_phase.specs.Calls.{frame_at}
use Rattle.eh_phase.specs.Firsts.{first_some}
use Rattle.eh_phase.specs.Frames.{entry_contents_at, is_above}
use Rattle.eh_phase.specs.Phases.{Frame}
use Rattle.eh_phase.specs.Verdict.{in_scope}
use Rattle.eh_phase.specs.declared.walk.Cursor.{Cursor}
use Rattle.eh_walk.specs.declared.stopping.ForceFault.{ForceFault}
use Rattle.eh_walk.specs.declared.stopping.ForceFault.TheVariants.{NoFrame, InsideCleanup, NoStop, BadTables, BadType}
use Rattle.eh_walk.specs.declared.stopping.StopFrame.{StopFrame}

-- ---- a stop: a catch of everything

abbrev pub takes_all : DescKind → Bool
takes_all (Cleanup pad) = false
takes_all (Catch pad reference All) = true
takes_all (Catch pad reference AllFails) = false
takes_all (Catch pad reference (One type)) = false
takes_all (Spec types count pad) = false

-- a descriptor in scope of a frame that catches everything
abbrev pub stop_by : Frame → Result Desc DescFault → Option StopFrame
stop_by f (Ok d) = if in_scope f.site d && takes_all d.kind then Some (record { sp = f.sp; desc = d.at; site = f.site }) else None
stop_by f (Err fault) = None

-- the first stop among a frame's descriptors
abbrev pub stop_in : Frame → Option StopFrame
stop_in f = first_some (stop_by f) f.items

-- ---- a frame whose descriptors can't be read to their end

abbrev pub fault_of : Result Desc DescFault → Option DescFault
fault_of (Ok d) = None
fault_of (Err fault) = Some fault

abbrev pub is_unreadable : Frame → Bool
is_unreadable f = is_some (first_some fault_of f.items)

-- ---- the stop in the frame of a number; 0 is the innermost

-- the two flags: whether a frame inside it is unreadable, and whether the type is one of the graph
abbrev pub stop_or_fault : Bool → Bool → Option StopFrame → Result StopFrame ForceFault
stop_or_fault faulty holds None = Err NoStop
stop_or_fault faulty holds (Some stop) = if faulty then Err BadTables else (if holds then Ok stop else Err BadType)

-- the frame is the first of this list; it may not lie above the landing sp of the innermost cleanup in progress
abbrev pub stop_among : Option ℕ → Bool → Bool → List Frame → Result StopFrame ForceFault
stop_among limit faulty holds [] = Err NoFrame
stop_among limit faulty holds (f ∷ outer) = if is_above limit f.sp then Err InsideCleanup else stop_or_fault faulty holds (stop_in f)

abbrev pub stop_at : Option ℕ → Bool → ℕ → List Frame → Result StopFrame ForceFault
stop_at limit holds number frames = stop_among limit (list_any is_unreadable (take number frames)) holds (drop number frames)

-- ---- one step of the way to it

-- the descriptors of the entry that covers a site
abbrev pub items_by : Image → Option Entry → List (Result Desc DescFault)
items_by image None = []
items_by image (Some e) = items_of e (table_of image e)

unfoldable pub items_at : Image → ℕ → List (Result Desc DescFault)
items_at image site = items_by image (covering (entries_of image) site)

-- what is found where the frame asked for would stand
abbrev pub stop_here : Image → Option ℕ → Bool → Bool → Cursor → Result StopFrame ForceFault
stop_here image limit faulty holds at =
    if is_some (entry_contents_at image at.site)
    then (if is_above limit (slice_index at.vrs.r 13) then Err InsideCleanup else stop_or_fault faulty holds (first_some (stop_by (frame_at at)) (items_at image at.site)))
    else Err NoFrame
