-- What the entry that covers a site decides for any frame there. If such a frame is passed, the next frame at the same site can use the
-- same unwind instructions.
use Rattle.std.specs.Prelude.{◌≡◌, ℕ, List, slice_index, Option, Some, None, Result, Ok, Err}
use Rattle.elf_image.specs.Image.{Image}
use Rattle.thumb_core.specs.declared.ends.Cause.TheVariants.{CannotUnwind}
use Rattle.eh_phase.specs.declared.walk.CoveringEntry.{CoveringEntry}
use Rattle.eh_phase.specs.declared.verdict.Verdict.{Verdict}
use Rattle.eh_phase.specs.declared.verdict.Verdict.TheVariants as says
use Rattle.eh_phase.specs.declared.phase2.Goal.{Goal}
use Rattle.eh_phase.specs.declared.phase2.Entered.{Entered}
use Rattle.eh_phase.specs.declared.phase2.Entered.TheVariants as enters
use Rattle.eh_phase.specs.Firsts.{first_some}
use Rattle.eh_phase.specs.Verdict.{Meeting, verdict_of}
use Rattle.eh_phase.specs.Phases.{Frame, enter_item, from_address}
use Rattle.eh_phase.specs.Frames.{entry_contents_at}

-- the unwind instructions, unless there is a result
abbrev pub unless : {A : Type 0} → List ℕ → Option A → Result (List ℕ) A
unless codes None = Ok codes
unless codes (Some a) = Err a

abbrev pub verdict_or_codes_by : Meeting → ℕ → Option CoveringEntry → Result (List ℕ) Verdict
verdict_or_codes_by m site None = Err (says.Terminate CannotUnwind)
verdict_or_codes_by m site (Some c) = unless c.codes (verdict_of m site c.descs)

-- the unwind instructions of a site whose descriptors have no verdict on a thrown object, else their verdict
unfoldable pub verdict_or_codes : Meeting → Image → ℕ → Result (List ℕ) Verdict
verdict_or_codes m image site = verdict_or_codes_by m site (entry_contents_at image site)

abbrev pub enters_by : Goal → ℕ → Frame → Option CoveringEntry → Result (List ℕ) Entered
enters_by g from f None = Err (enters.Terminate CannotUnwind)
enters_by g from f (Some c) = unless c.codes (first_some (enter_item g f) (from_address from c.descs))

-- the unwind instructions of a frame if its descriptors from an address on enter nothing, else what they enter
unfoldable pub enters_at : Goal → ℕ → Image → Frame → Result (List ℕ) Entered
enters_at g from image f = enters_by g from f (entry_contents_at image f.site)

-- no frame at the site enters anything, whatever its registers, unless it is the barrier's
abbrev pub IsQuiet : Goal → Image → ℕ → List ℕ → Type 0
IsQuiet g image site codes =
    (f : Frame) → f.site ≡ site → (f.sp ≡ g.sp → ⊥) → enters_at g 0 image f ≡ Ok codes
