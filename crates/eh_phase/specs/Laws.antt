-- What the two phases guarantee each other, in the terms of the standard (docs/rules/phases-and-exceptions.md, "Laws").
use Rattle.std.specs.Prelude.{◌≡◌, ◌⊎◌, ℕ, zero, suc, ◌+◌, ◌%◌, ◌^◌, ◌<◌, ◌≤◌, Bool, true, false, if◌then◌else◌, List, [], ◌∷◌, ◌++◌, map, All, slice_index, take, Option, Some, None, is_some, Result}
use Rattle.eh_bus.specs.declared.map.TheConstants.{STACK_END}
use Rattle.elf_image.specs.Image.{Image, IsSound}
use Rattle.thumb_core.specs.declared.ends.Cause.{Cause}
use Rattle.eh_bytecode.specs.declared.frame.Vrs.{Vrs}
use Rattle.eh_match.specs.declared.rules.Match.TheVariants.{Failed, Object}
use Rattle.eh_desc.specs.declared.descriptor.DescKind.TheVariants.{Spec}
use Rattle.eh_desc.specs.declared.descriptor.Desc.{Desc}
use Rattle.eh_desc.specs.declared.descriptor.DescFault.{DescFault}
use Rattle.eh_desc.specs.Laws.{Follow, Rise}
use Rattle.eh_phase.specs.declared.verdict.Verdict.{Verdict}
use Rattle.eh_phase.specs.declared.verdict.Verdict.TheVariants as says
use Rattle.eh_phase.specs.declared.phase1.Barrier.{Barrier}
use Rattle.eh_phase.specs.declared.phase1.Found.{Found}
use Rattle.eh_phase.specs.declared.phase1.Found.TheVariants as found
use Rattle.eh_phase.specs.declared.phase2.Goal.{Goal}
use Rattle.eh_phase.specs.declared.phase2.Entered.{Entered}
use Rattle.eh_phase.specs.declared.phase2.Entered.TheVariants as enters
use Rattle.eh_phase.specs.Verdict.{Meeting, desc_verdict_by, heard, verdict_of}
use Rattle.eh_phase.specs.Phases.{Frame, Frames, verdict_result, phase1, phase2, vrs_of}
use Rattle.eh_phase.specs.Frames.{Stack, MOST_FRAMES, frames_in, frames_of, entry_contents_at, frames_of_entry, site_of}
use Rattle.eh_phase.specs.Cleanups.{remaining_landings, is_reached}

-- ---- the frames

-- the bound on the number of frames never cuts their list: the frames outside a frame are those that its registers give under the same
-- bound
abbrev pub FramesAreWhole : Type 0
FramesAreWhole =
    (image : Image) (stack : Stack) (limit : Option ℕ) (innermost : Bool) (site : ℕ) (r : List ℕ) → stack.end ≤ STACK_END
    → frames_in MOST_FRAMES image stack limit innermost site r
    ≡ frames_of_entry (λ new. frames_in MOST_FRAMES image stack limit false (site_of new) new) stack limit innermost site r (entry_contents_at image site)

-- The site of a frame that has called lies in its call, which is one or two halfwords long. The return address is that of the next
-- instruction, with bit 0 set.
abbrev pub SitesStandInCalls : Type 0
SitesStandInCalls =
    (call size : ℕ) (r : List ℕ) → call % 2 ≡ 0 → (size ≡ 2) ⊎ (size ≡ 4) → call + size < 2 ^ 32 → slice_index r 15 ≡ call + size + 1
    → (call ≤ site_of r) × (site_of r < call + size)

-- above the frame inside it; the second frame may stand at the same place as the innermost
abbrev pub IsAbove : Bool → ℕ → ℕ → Type 0
IsAbove true sp next = sp ≤ next
IsAbove false sp next = sp < next

-- not above the limit
abbrev pub IsWithin : Option ℕ → ℕ → Type 0
IsWithin None sp = Unit {0}
IsWithin (Some limit) sp = sp ≤ limit

-- the frames outside one: each is above the one inside it, and none is above the stack's end or the limit
abbrev pub RiseFrom : ℕ → Option ℕ → Bool → ℕ → List Frame → Type 0
RiseFrom end limit innermost sp [] = Unit {0}
RiseFrom end limit innermost sp (f ∷ more) = IsAbove innermost sp f.sp × (f.sp ≤ end) × IsWithin limit f.sp × RiseFrom end limit false f.sp more

abbrev pub RiseOutwards : ℕ → Option ℕ → Bool → List Frame → Type 0
RiseOutwards end limit innermost [] = Unit {0}
RiseOutwards end limit innermost (f ∷ more) = RiseFrom end limit innermost f.sp more

abbrev pub FramesRise : Type 0
FramesRise =
    (image : Image) (stack : Stack) (limit : Option ℕ) (site : ℕ) (r : List ℕ) → RiseOutwards stack.end limit true (frames_of image stack limit site r).frames

-- ---- which frame decides

-- no descriptor has a verdict, or the verdict is that of the first descriptor that has one
pub record SpeaksFirst (m : Meeting) (site : ℕ) (items : List (Result Desc DescFault)) (v : Verdict) : Type 0 where
  pub before : List (Result Desc DescFault)
  pub item : Result Desc DescFault
  pub later : List (Result Desc DescFault)
  pub parts : items ≡ before ++ item ∷ later
  pub silent : All (λ i. heard m site i ≡ None) before
  pub says : heard m site item ≡ Some v

abbrev pub IsVerdict : Meeting → ℕ → List (Result Desc DescFault) → Option Verdict → Type 0
IsVerdict m site items None = All (λ i. heard m site i ≡ None) items
IsVerdict m site items (Some v) = SpeaksFirst m site items v

abbrev pub VerdictsAreFirst : Type 0
VerdictsAreFirst = (m : Meeting) (site : ℕ) (items : List (Result Desc DescFault)) → IsVerdict m site items (verdict_of m site items)

-- A specification is the barrier, with the object itself, if no type of its matches. A type that it names lets the object pass if the
-- types before that don't match.
pub record IsViolatedByOthers (m : Meeting) (at types count : ℕ) (pad : Option ℕ) : Type 0 where
  pub violated : All (λ t. m.matched t ≡ Failed) (m.types (Spec types count pad)) → desc_verdict_by m at (Spec types count pad) ≡ Some (says.Barrier at (Object m.object))
  pub named :
      (before : List ℕ) (t : ℕ) (later : List ℕ) (x : ℕ) → m.types (Spec types count pad) ≡ before ++ t ∷ later → All (λ u. m.matched u ≡ Failed) before
      → m.matched t ≡ Object x → desc_verdict_by m at (Spec types count pad) ≡ None

abbrev pub SpecificationsNameTypes : Type 0
SpecificationsNameTypes = (m : Meeting) (at types count : ℕ) (pad : Option ℕ) → IsViolatedByOthers m at types count pad

-- the innermost frame with a verdict decides what phase 1 finds; if there is none, the reason why the frames end does
pub record IsDecided (m : Meeting) (frames : List Frame) (answer : Found) : Type 0 where
  pub inner : List Frame
  pub frame : Frame
  pub outer : List Frame
  pub parts : frames ≡ inner ++ frame ∷ outer
  pub silent : All (λ (f : Frame). verdict_of m f.site f.items ≡ None) inner
  pub verdict : Verdict
  pub says : verdict_of m frame.site frame.items ≡ Some verdict
  pub found : answer ≡ verdict_result frame verdict

abbrev pub InnermostDecides : Type 0
InnermostDecides =
    (m : Meeting) (fs : Frames)
    → (All (λ (f : Frame). verdict_of m f.site f.items ≡ None) fs.frames × (phase1 m fs ≡ found.Terminate fs.last)) ⊎ IsDecided m fs.frames (phase1 m fs)

-- ---- registers

-- a frame with its registers seen through a function
abbrev pub frame_through : (List ℕ → List ℕ) → Frame → Frame
frame_through view f = record f { r = view f.r }

abbrev pub frames_through : (List ℕ → List ℕ) → Frames → Frames
frames_through view fs = record { frames = map (frame_through view) fs.frames; last = fs.last }

abbrev pub vrs_through : (List ℕ → List ℕ) → Vrs → Vrs
vrs_through view vrs = record { r = view vrs.r }

abbrev pub entered_through : (List ℕ → List ℕ) → Entered → Entered
entered_through view (enters.Cleanup vrs pad next site) = enters.Cleanup (vrs_through view vrs) pad next site
entered_through view (enters.Catch vrs pad) = enters.Catch (vrs_through view vrs) pad
entered_through view (enters.Spec vrs pad) = enters.Spec (vrs_through view vrs) pad
entered_through view enters.Unexpected = enters.Unexpected
entered_through view (enters.Terminate cause) = enters.Terminate cause

-- the phases choose by sites, stack pointers and descriptors alone, and return the registers unchanged
pub record HandsOn (view : List ℕ → List ℕ) (fs : Frames) : Type 0 where
  pub search : (m : Meeting) → phase1 m (frames_through view fs) ≡ phase1 m fs
  pub advance : (g : Goal) (from : ℕ) → phase2 g from (frames_through view fs) ≡ entered_through view (phase2 g from fs)

abbrev pub RegistersAreHandedOn : Type 0
RegistersAreHandedOn = (view : List ℕ → List ℕ) (fs : Frames) → HandsOn view fs

-- ---- phase 2 from the barrier that a phase 1 gave

abbrev pub goal_of : Barrier → Goal
goal_of b = record { sp = b.sp; desc = b.desc }

-- a cleanup, or the barrier
abbrev pub Lands : Entered → Type 0
Lands (enters.Cleanup vrs pad next site) = Unit {0}
Lands (enters.Catch vrs pad) = Unit {0}
Lands (enters.Spec vrs pad) = Unit {0}
Lands enters.Unexpected = Unit {0}
Lands (enters.Terminate cause) = ⊥

-- the frames up to and with the first that has a verdict
unfoldable pub frames_up_to_verdict : Meeting → List Frame → List Frame
frames_up_to_verdict m [] = []
frames_up_to_verdict m (f ∷ more) = f ∷ (if is_some (verdict_of m f.site f.items) then [] else frames_up_to_verdict m more)

-- phase 2 enters the first of the cleanups, or the barrier; frames outside the barrier's make no difference
pub record Reaches (m : Meeting) (b : Barrier) (fs : Frames) : Type 0 where
  pub entered : Entered
  pub later : List Entered
  pub lands : Lands entered
  pub first : remaining_landings (goal_of b) 0 fs.frames ≡ entered ∷ later
  pub enters : phase2 (goal_of b) 0 fs ≡ entered
  pub no_further : (more : List Frame) (last : Cause) → phase2 (goal_of b) 0 (record { frames = frames_up_to_verdict m fs.frames ++ more; last = last }) ≡ entered

-- phase 2 has no limit, unlike phase 1, and still enters nothing outside the barrier's frame
abbrev pub BarriersAreReached : Type 0
BarriersAreReached =
    (m : Meeting) (image : Image) (stack : Stack) (limit : Option ℕ) (site : ℕ) (r : List ℕ) (b : Barrier)
    → phase1 m (frames_of image stack limit site r) ≡ found.Barrier b → Reaches m b (frames_of image stack None site r)

-- a barrier that can be reached isn't inside the first frame
abbrev pub BarriersStandOutside : Type 0
BarriersStandOutside =
    (g : Goal) (from end : ℕ) (limit : Option ℕ) (innermost : Bool) (f : Frame) (more : List Frame)
    → RiseFrom end limit innermost f.sp more → is_reached g from (f ∷ more) ≡ true → f.sp ≤ g.sp

-- ---- after a cleanup

-- a frame's descriptors have rising addresses
pub record IsInOrder (f : Frame) : Type 0 where
  pub address : ℕ
  pub follow : Follow address f.items
  pub rise : Rise f.items

-- after a cleanup was entered, what is still to be entered begins at its frame, with the descriptor after the cleanup's
pub record GoesOn (g : Goal) (from : ℕ) (fs : List Frame) (vrs : Vrs) (pad next site : ℕ) : Type 0 where
  pub inner : List Frame
  pub frame : Frame
  pub outer : List Frame
  pub place : fs ≡ inner ++ frame ∷ outer
  pub registers : vrs_of frame ≡ vrs
  pub stands : frame.site ≡ site
  pub due : remaining_landings g from fs ≡ enters.Cleanup vrs pad next site ∷ remaining_landings g next (frame ∷ outer)
  pub reach : is_reached g from fs ≡ true → is_reached g next (frame ∷ outer) ≡ true

abbrev pub CleanupsGoOn : Type 0
CleanupsGoOn =
    (g : Goal) (from : ℕ) (fs : Frames) (vrs : Vrs) (pad next site : ℕ) → All IsInOrder fs.frames
    → phase2 g from fs ≡ enters.Cleanup vrs pad next site → GoesOn g from fs.frames vrs pad next site

-- what phase 2 enters in its first n runs, each from the cleanup that the one before it entered, with nothing changed between them
abbrev pub enters_on : (Vrs → ℕ → ℕ → List Entered) → Entered → List Entered
enters_on further (enters.Cleanup vrs pad next site) = enters.Cleanup vrs pad next site ∷ further vrs next site
enters_on further (enters.Catch vrs pad) = enters.Catch vrs pad ∷ []
enters_on further (enters.Spec vrs pad) = enters.Spec vrs pad ∷ []
enters_on further enters.Unexpected = enters.Unexpected ∷ []
enters_on further (enters.Terminate cause) = enters.Terminate cause ∷ []

unfoldable pub landings_in_turn : ℕ → Image → Stack → Goal → ℕ → ℕ → List ℕ → List Entered
landings_in_turn zero image stack g from site r = []
landings_in_turn (suc n) image stack g from site r =
    enters_on (λ vrs next at. landings_in_turn n image stack g next at vrs.r) (phase2 g from (frames_of image stack None site r))

-- they are the first n of the throw's cleanups and then its barrier, in order
abbrev pub PadsAreInOrder : Type 0
PadsAreInOrder =
    (m : Meeting) (image : Image) (stack : Stack) (limit : Option ℕ) (site : ℕ) (r : List ℕ) (b : Barrier) (n : ℕ)
    → IsSound image → stack.end ≤ STACK_END → phase1 m (frames_of image stack limit site r) ≡ found.Barrier b
    → landings_in_turn n image stack (goal_of b) 0 site r ≡ take n (remaining_landings (goal_of b) 0 (frames_of image stack None site r).frames)
