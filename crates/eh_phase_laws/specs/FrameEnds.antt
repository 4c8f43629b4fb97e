-- Why the frames of a throw end (docs/rules/phases-and-exceptions.md, "Frames"): the conditions in order, in numbers.
use Rattle.std.specs.Prelude.{◌≡◌, ◌≢◌, ◌⊎◌, ℕ, ◌<◌, ◌≤◌, Bool, true, false, List, [], ◌∷◌, slice_index, Option, Some, None, Ok, Err}
use Rattle.elf_image.specs.Image.{Image}
use Rattle.thumb_core.specs.declared.ends.Cause.{Cause}
use Rattle.thumb_core.specs.declared.ends.Cause.TheVariants.{NoHandler, CannotUnwind, LeavesCleanup}
use Rattle.eh_codes.specs.Cut.{split_codes}
use Rattle.eh_bytecode.specs.Meaning.{unwind_result}
use Rattle.eh_bytecode.specs.declared.frame.UnwindEnd.{UnwindEnd}
use Rattle.eh_phase.specs.declared.walk.CoveringEntry.{CoveringEntry}
use Rattle.eh_phase.specs.Phases.{Frames}
use Rattle.eh_phase.specs.Frames.{Stack, MOST_FRAMES, frames_in, entry_contents_at, site_of}

-- the frames from a frame on, the innermost one or another
abbrev pub frames_from_site : Image → Stack → Option ℕ → Bool → ℕ → List ℕ → Frames
frames_from_site image stack limit innermost site r = frames_in MOST_FRAMES image stack limit innermost site r

-- the frame stands alone, and this is why
abbrev pub EndsAt : Image → Stack → Option ℕ → Bool → ℕ → List ℕ → CoveringEntry → Cause → Type 0
EndsAt image stack limit innermost site r c why =
    frames_from_site image stack limit innermost site r ≡ record { frames = record { site = site; sp = slice_index r 13; r = r; items = c.descs } ∷ []; last = why }

-- the caller's stack pointer is below the frame's own, or equal to it outside the innermost frame, or above the end of the stack
abbrev pub IsNoFrame : Bool → ℕ → ℕ → ℕ → Type 0
IsNoFrame true end sp next = (next < sp) ⊎ (end < next)
IsNoFrame false end sp next = (next ≤ sp) ⊎ (end < next)

-- it is one of a frame
abbrev pub IsFrame : Bool → ℕ → ℕ → ℕ → Type 0
IsFrame true end sp next = (sp ≤ next) × (next ≤ end)
IsFrame false end sp next = (sp < next) × (next ≤ end)

-- not above a limit, if there is one
abbrev pub IsWithin : Option ℕ → ℕ → Type 0
IsWithin None next = Unit {0}
IsWithin (Some limit) next = next ≤ limit

-- What comes after a frame whose unwind instructions can be read, from the registers that they give the caller. The reasons to end come
-- in this order: they don't finish; the stack pointer can't be a frame's; it is above the limit; the return address is FFFFFFFF.
pub record Ends (image : Image) (stack : Stack) (limit : Option ℕ) (innermost : Bool) (site : ℕ) (r : List ℕ) (c : CoveringEntry) : Type 0 where
  pub refused : (why : UnwindEnd) → unwind_result stack.segments r (split_codes c.codes) ≡ Err why → EndsAt image stack limit innermost site r c CannotUnwind
  pub no_frame : (caller : List ℕ) → unwind_result stack.segments r (split_codes c.codes) ≡ Ok caller → IsNoFrame innermost stack.end (slice_index r 13) (slice_index caller 13)
      → EndsAt image stack limit innermost site r c CannotUnwind
  pub leaves : (caller : List ℕ) (bound : ℕ) → unwind_result stack.segments r (split_codes c.codes) ≡ Ok caller → IsFrame innermost stack.end (slice_index r 13) (slice_index caller 13)
      → limit ≡ Some bound → bound < slice_index caller 13 → EndsAt image stack limit innermost site r c LeavesCleanup
  pub last : (caller : List ℕ) → unwind_result stack.segments r (split_codes c.codes) ≡ Ok caller → IsFrame innermost stack.end (slice_index r 13) (slice_index caller 13)
      → IsWithin limit (slice_index caller 13) → slice_index caller 15 ≡ 0xFFFFFFFF → EndsAt image stack limit innermost site r c NoHandler
  pub goes_on : (caller : List ℕ) → unwind_result stack.segments r (split_codes c.codes) ≡ Ok caller → IsFrame innermost stack.end (slice_index r 13) (slice_index caller 13)
      → IsWithin limit (slice_index caller 13) → slice_index caller 15 ≢ 0xFFFFFFFF
      → frames_from_site image stack limit innermost site r ≡ record {
        frames = record { site = site; sp = slice_index r 13; r = r; items = c.descs } ∷ (frames_from_site image stack limit false (site_of caller) caller).frames;
        last = (frames_from_site image stack limit false (site_of caller) caller).last;
      }

abbrev pub FramesEnd : Type 0
FramesEnd =
    (image : Image) (stack : Stack) (limit : Option ℕ) (innermost : Bool) (site : ℕ) (r : List ℕ) (c : CoveringEntry)
    → stack.end ≤ 0x40000000 → entry_contents_at image site ≡ Some c → Ends image stack limit innermost site r c

-- where no codes are there, no frame is
abbrev pub UncoveredEnds : Type 0
UncoveredEnds =
    (image : Image) (stack : Stack) (limit : Option ℕ) (innermost : Bool) (site : ℕ) (r : List ℕ)
    → stack.end ≤ 0x40000000 → entry_contents_at image site ≡ None → frames_from_site image stack limit innermost site r ≡ record { frames = []; last = CannotUnwind }
