-- Where the frames of a throw end with recorded activations (docs/rules/machine.md, "Laws").
use Rattle.std.specs.Prelude.{◌≡◌, ℕ, ◌+◌, ◌-◌, ◌<◌, true, false, List, [], ◌∷◌, ◌++◌, length, take, Option, Some, None}
use Rattle.elf_image.specs.Image.{Image}
use Rattle.eh_phase.specs.Frames.{entry_contents_at, site_of}
use Rattle.eh_phase.specs.Phases.{Frames}
use Rattle.eh_phase.specs.declared.walk.CoveringEntry.{CoveringEntry}
use Rattle.thumb_core.specs.declared.ends.Cause.TheVariants.{NoHandler, CannotUnwind, LeavesCleanup}
use Rattle.sim_machines.specs.Activations.{Caller, Activation, registers_of, frames_at}
use Rattle.sim_machines.specs.ActivationMachine.{can_unwind}

-- the sites of the activations outside one, each as the one inside it recorded
abbrev pub recorded_sites : Caller → List Activation → List ℕ
recorded_sites c [] = []
recorded_sites c (a ∷ more) = site_of (registers_of c) ∷ recorded_sites a.caller more

-- an entry covers the site, and its codes have a recipe
abbrev pub CanUnwind : Image → ℕ → Type 0
CanUnwind image site = can_unwind (entry_contents_at image site) ≡ true

abbrev pub AllUnwind : Image → List ℕ → Type 0
AllUnwind image [] = Unit {0}
AllUnwind image (site ∷ more) = CanUnwind image site × AllUnwind image more

-- how many activations a throw sees: up to that of the innermost cleanup in progress, which has so many outside it
abbrev pub searched_count : Option ℕ → ℕ → ℕ
searched_count None all = all
searched_count (Some outside) all = all - outside

-- an activation that can't be unwound still has a frame if an entry covers it
abbrev pub last_frame : Option CoveringEntry → ℕ
last_frame None = 0
last_frame (Some c) = 1

-- If all activations that are seen can be unwound, each has a frame. The frames then end after the cleanup's activation, or after the
-- outermost if no cleanup is in progress. Otherwise they end at the first activation that can't be unwound.
pub record EndAsTold (image : Image) (place : Option ℕ) (sites : List ℕ) (fs : Frames) : Type 0 where
  pub in_cleanup :
      (outside : ℕ) → place ≡ Some outside → outside < length sites → AllUnwind image (take (length sites - outside) sites)
      → (length fs.frames ≡ length sites - outside) × (fs.last ≡ LeavesCleanup)
  pub outermost : place ≡ None → AllUnwind image sites → (length fs.frames ≡ length sites) × (fs.last ≡ NoHandler)
  pub stuck :
      (inner outer : List ℕ) (site : ℕ) → sites ≡ inner ++ site ∷ outer → length inner < searched_count place (length sites)
      → AllUnwind image inner → can_unwind (entry_contents_at image site) ≡ false
      → (length fs.frames ≡ length inner + last_frame (entry_contents_at image site)) × (fs.last ≡ CannotUnwind)

abbrev pub FramesEndAsTold : Type 0
FramesEndAsTold =
    (image : Image) (place : Option ℕ) (site : ℕ) (r : List ℕ) (a : Activation) (outer : List Activation)
    → EndAsTold image place (site ∷ recorded_sites a.caller outer) (frames_at image place site r a outer)
