-- The pads that are still to be entered for an exception whose cleanup is in progress.
use Rattle.std.specs.Prelude.{ℕ, ◌==◌, Bool, true, false, if◌then◌else◌, List, [], ◌∷◌, ◌≡◌, length, Option, Some, None}
use Rattle.run_events.specs.Runs.{Event, Goes, Ends}
use Rattle.elf_image.specs.Image.{Image}
use Rattle.run_images.specs.Profiles.{profile_of}
use Rattle.eh_cxa.specs.Lists.{Cleanup}
use Rattle.eh_phase.specs.Cleanups.{remaining_landings}
use Rattle.eh_phase.specs.Phases.{Frame}
use Rattle.thumb_core.specs.declared.ends.End.{End}
use Rattle.sim_machines.specs.Activations.{Activation, Recorded, frames_at, InProgress}
use Rattle.sim_relation.specs.Cleanups.{goal_at, by_sp}
use Rattle.sim_landings.specs.Landings.{Pad, Landing, landing_by, pads, AreFirst}

-- the frames from a cleanup's activation outwards, the one with so many outside it, at the kept site
abbrev pub kept_frames : Image → ℕ → Cleanup → List Activation → List Frame
kept_frames image n c [] = []
kept_frames image n c (a ∷ more) = if length more == n then (frames_at image None c.site (by_sp c.sp) a more).frames else kept_frames image n c more

-- from the kept next descriptor on: the cleanups in order, and then the barrier
abbrev pub due_of : Image → Recorded → ℕ → Cleanup → List Pad
due_of image s n c = pads (remaining_landings (goal_at s c.slot) c.next (kept_frames image n c (s.first ∷ s.outer)))

-- those of the first cleanup of a slot, in a list of cleanups
abbrev pub due_among : Image → Recorded → ℕ → List InProgress → List Pad
due_among image s slot [] = []
due_among image s slot (c ∷ more) = if c.cleanup.slot == slot then due_of image s c.place c.cleanup else due_among image s slot more

-- none if no cleanup of it is in progress
abbrev pub left_due : Image → Recorded → ℕ → List Pad
left_due image s slot = due_among image s slot s.cleanups

-- ---- one event

-- a resume enters the pad that is due next; any other event, with or without a landing, leaves the pads that are due
abbrev pub GoesOnBy : Bool → Bool → Pad → List Pad → List Pad → Type 0
GoesOnBy true true at old new = AreFirst (at ∷ new) old
GoesOnBy true false at old new = Unit {0}
GoesOnBy false resumes at old new = new ≡ old

abbrev pub GoesOn : ℕ → List Pad → List Pad → Option Landing → Type 0
GoesOn slot old new None = new ≡ old
GoesOn slot old new (Some l) = GoesOnBy (l.exception == slot) l.resumes l.pad old new

abbrev pub DueAfter : Image → Recorded → ℕ → Event Recorded End → Type 0
DueAfter image s slot (Goes t text left) = GoesOn slot (left_due image s slot) (left_due image t slot) (landing_by (profile_of image) s t)
DueAfter image s slot (Ends end t) = Unit {0}
