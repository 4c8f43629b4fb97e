-- The list of frames that registers and a memory give, over which the phases go (IHI 0038; docs/rules/phases-and-exceptions.md).
use Rattle.std.specs.Prelude.{ℕ, zero, suc, ◌+◌, ◌-◌, ◌%◌, ◌^◌, ◌==◌, ◌&&◌, ◌||◌, not, Bool, true, false, nat_lt, if◌then◌else◌, List, [], ◌∷◌, slice_index, Option, Some, None, option_map, Result, Ok, Err}
use Rattle.std.specs.Result.{result_ok}
use Rattle.eh_bus.specs.Segment.{Segment}
use Rattle.eh_bus.specs.declared.map.TheConstants.{STACK_END}
use Rattle.elf_image.specs.Image.{Image}
use Rattle.thumb_core.specs.declared.ends.Cause.{Cause}
use Rattle.thumb_core.specs.declared.ends.Cause.TheVariants.{NoHandler, CannotUnwind, LeavesCleanup}
use Rattle.run_gates.specs.declared.gates.TheConstants.{NO_CALLER}
use Rattle.eh_codes.specs.declared.row.Entry.{Entry}
use Rattle.eh_codes.specs.declared.row.EntryBody.{EntryBody}
use Rattle.eh_codes.specs.declared.row.EntryBody.TheVariants.{CantUnwind, Inline, Table}
use Rattle.eh_codes.specs.Cut.{split_codes}
use Rattle.eh_index.specs.Rows.{entries_of}
use Rattle.eh_index.specs.Places.{table_of}
use Rattle.eh_index.specs.Covering.{covering}
use Rattle.eh_bytecode.specs.Codes.{inline_codes, table_codes}
use Rattle.eh_bytecode.specs.Meaning.{unwind_result}
use Rattle.eh_bytecode.specs.declared.frame.UnwindEnd.{UnwindEnd}
use Rattle.eh_bytecode.specs.declared.frame.Vrs.{Vrs}
use Rattle.eh_desc.specs.Grammar.{items_of}
use Rattle.eh_phase.specs.declared.walk.CoveringEntry.{CoveringEntry}
use Rattle.eh_phase.specs.Phases.{Frame, Frames}

-- what unwinding needs: the segments of a memory, and the end of the running stack
pub record Stack : Type 0 where
  pub segments : List Segment
  pub end : ℕ

-- ---- the entry that covers a site

-- the unwind instructions of an entry; None if they can't be read
abbrev pub codes_of : EntryBody → Option (List ℕ) → Option (List ℕ)
codes_of CantUnwind bytes = None
codes_of (Inline word) bytes = result_ok (inline_codes word)
codes_of (Table address) None = None
codes_of (Table address) (Some bytes) = result_ok (table_codes bytes)

abbrev pub with_items : Entry → Option (List ℕ) → List ℕ → CoveringEntry
with_items e bytes codes = record { codes = codes; descs = items_of e bytes }

abbrev pub entry_contents : Image → Option Entry → Option CoveringEntry
entry_contents image None = None
entry_contents image (Some e) = option_map (with_items e (table_of image e)) (codes_of e.body (table_of image e))

-- the unwind instructions and descriptors for a site; None if no entry covers it, or the entry can't be unwound, or its instructions
-- can't be read
unfoldable pub entry_contents_at : Image → ℕ → Option CoveringEntry
entry_contents_at image site = entry_contents image (covering (entries_of image) site)

-- ---- the registers of the next frame, or the reason why there is none

-- a stack pointer is refused if it is below the inner frame's, equal to it (unless that frame is the innermost), or above the stack's
-- end
abbrev pub is_no_frame : ℕ → Bool → ℕ → ℕ → Bool
is_no_frame end innermost sp next = nat_lt next sp || ((not innermost && next == sp) || nat_lt end next)

abbrev pub is_above : Option ℕ → ℕ → Bool
is_above None sp = false
is_above (Some limit) sp = nat_lt limit sp

-- the registers that unwind instructions give; None if they don't finish
abbrev pub caller_of : Result (List ℕ) UnwindEnd → Option Vrs
caller_of (Ok r) = Some (record { r = r })
caller_of (Err why) = None

abbrev pub caller_by : List Segment → List ℕ → Option CoveringEntry → Option Vrs
caller_by segments r None = None
caller_by segments r (Some c) = caller_of (unwind_result segments r (split_codes c.codes))

-- the registers of the caller, from those of a frame at a site
abbrev pub caller_at : Image → List Segment → ℕ → List ℕ → Option Vrs
caller_at image segments site r = caller_by segments r (entry_contents_at image site)

abbrev pub check_caller : ℕ → Option ℕ → Bool → ℕ → Option Vrs → Result Vrs Cause
check_caller end limit innermost sp None = Err CannotUnwind
check_caller end limit innermost sp (Some next) =
    if is_no_frame end innermost sp (slice_index next.r 13) then Err CannotUnwind
    else (if is_above limit (slice_index next.r 13) then Err LeavesCleanup
    else (if slice_index next.r 15 == NO_CALLER then Err NoHandler else Ok next))

unfoldable pub outer : Stack → Option ℕ → Bool → List ℕ → List ℕ → Result Vrs Cause
outer stack limit innermost codes r = check_caller stack.end limit innermost (slice_index r 13) (caller_of (unwind_result stack.segments r (split_codes codes)))

-- the site of a frame that has called: its return address without bit 0, less 2
abbrev pub site_of : List ℕ → ℕ
site_of r = (slice_index r 15 - slice_index r 15 % 2 + (2 ^ 32 - 2)) % 2 ^ 32

-- ---- the frames

abbrev pub end_of_frames : Cause → Frames
end_of_frames cause = record { frames = []; last = cause }

abbrev pub frame_and_outer : Frame → Frames → Frames
frame_and_outer f further = record { frames = f ∷ further.frames; last = further.last }

abbrev pub frames_of_caller : (List ℕ → Frames) → Result Vrs Cause → Frames
frames_of_caller further (Ok next) = further next.r
frames_of_caller further (Err cause) = end_of_frames cause

abbrev pub frame_of : ℕ → List ℕ → CoveringEntry → Frame
frame_of site r c = record { site = site; sp = slice_index r 13; r = r; items = c.descs }

abbrev pub frames_of_entry : (List ℕ → Frames) → Stack → Option ℕ → Bool → ℕ → List ℕ → Option CoveringEntry → Frames
frames_of_entry further stack limit innermost site r None = end_of_frames CannotUnwind
frames_of_entry further stack limit innermost site r (Some c) = frame_and_outer (frame_of site r c) (frames_of_caller further (outer stack limit innermost c.codes r))

-- at most so many frames
unfoldable pub frames_in : ℕ → Image → Stack → Option ℕ → Bool → ℕ → List ℕ → Frames
frames_in zero image stack limit innermost site r = end_of_frames CannotUnwind
frames_in (suc most) image stack limit innermost site r =
    frames_of_entry (λ new. frames_in most image stack limit false (site_of new) new) stack limit innermost site r (entry_contents_at image site)

-- stack pointers rise from frame to frame, so a list of frames is never this long
abbrev pub MOST_FRAMES : ℕ
MOST_FRAMES = STACK_END + 3

-- the frames from a site and registers on, the innermost first; those above a limit are left out
abbrev pub frames_of : Image → Stack → Option ℕ → ℕ → List ℕ → Frames
frames_of image stack limit site r = frames_in MOST_FRAMES image stack limit true site r
