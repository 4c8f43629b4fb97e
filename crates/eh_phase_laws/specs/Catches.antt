-- The verdict of a descriptor in scope on a thrown object, and which descriptors are in scope (IHI 0038, "Phase 1 unwinding";
-- docs/rules/phases-and-exceptions.md): laws above the two phases.
use Rattle.std.specs.Prelude.{◌≡◌, ◌≢◌, ◌⊎◌, ℕ, ◌+◌, ◌<◌, ◌≤◌, Bool, List, ◌∷◌, Option, Some, None, Result, Ok, Err}
use Rattle.thumb_core.specs.declared.ends.Cause.{Cause}
use Rattle.thumb_core.specs.declared.ends.Cause.TheVariants.{CannotUnwind, NoThrow}
use Rattle.eh_match.specs.declared.rules.Match.TheVariants.{Failed, Object, PointerToBase, Unreadable}
use Rattle.eh_desc.specs.declared.descriptor.CatchType.{CatchType}
use Rattle.eh_desc.specs.declared.descriptor.CatchType.TheVariants.{All, AllFails, One}
use Rattle.eh_desc.specs.declared.descriptor.DescKind.TheVariants.{Cleanup, Catch, Spec}
use Rattle.eh_desc.specs.declared.descriptor.Desc.{Desc}
use Rattle.eh_desc.specs.declared.descriptor.DescFault.{DescFault}
use Rattle.eh_phase.specs.declared.phase1.Found.TheVariants as found
use Rattle.eh_phase.specs.declared.phase2.Goal.{Goal}
use Rattle.eh_phase.specs.declared.phase2.Entered.TheVariants as enters
use Rattle.eh_phase.specs.Verdict.{Meeting}
use Rattle.eh_phase.specs.Phases.{Frame, Frames, phase1, phase2}

-- frames, of which the innermost has these descriptors
abbrev pub frames : Frame → List (Result Desc DescFault) → List Frame → Cause → Frames
frames f items outer last = record { frames = record f { items = items } ∷ outer; last = last }

-- ---- scopes

-- a site from the start of a scope to below its end
pub record IsInside (site : ℕ) (d : Desc) : Type 0 where
  pub from : d.start ≤ site
  pub below : site < d.start + d.size
  pub low : d.start + d.size < 4294967296

-- one below its start, or at its end or above it
pub record IsOutside (site : ℕ) (d : Desc) : Type 0 where
  pub apart : (site < d.start) ⊎ (d.start + d.size ≤ site)
  pub low : d.start + d.size < 4294967296

-- a descriptor out of scope is as none at all, in both phases
pub record IsPassed (f : Frame) (d : Desc) (more : List (Result Desc DescFault)) (outer : List Frame) (last : Cause) : Type 0 where
  pub search : (m : Meeting) → phase1 m (frames f (Ok d ∷ more) outer last) ≡ phase1 m (frames f more outer last)
  pub advance : (g : Goal) → phase2 g 0 (frames f (Ok d ∷ more) outer last) ≡ phase2 g 0 (frames f more outer last)

abbrev pub OutsideIsPassed : Type 0
OutsideIsPassed = (f : Frame) (d : Desc) (more : List (Result Desc DescFault)) (outer : List Frame) (last : Cause) → IsOutside f.site d → IsPassed f d more outer last

-- a cleanup in scope says nothing to the search, and is what phase 2 enters
pub record Cleans (f : Frame) (d : Desc) (pad : ℕ) (more : List (Result Desc DescFault)) (outer : List Frame) (last : Cause) : Type 0 where
  pub search : (m : Meeting) → phase1 m (frames f (Ok d ∷ more) outer last) ≡ phase1 m (frames f more outer last)
  pub advance : (g : Goal) → phase2 g 0 (frames f (Ok d ∷ more) outer last) ≡ enters.Cleanup (record { r = f.r }) pad d.next f.site

abbrev pub CleanupsAreEntered : Type 0
CleanupsAreEntered =
    (f : Frame) (d : Desc) (pad : ℕ) (more : List (Result Desc DescFault)) (outer : List Frame) (last : Cause) → IsInside f.site d → d.kind ≡ Cleanup pad → Cleans f d pad more outer last

-- ---- catches

-- a catch of everything stops each object, as itself
abbrev pub EverythingStops : Type 0
EverythingStops =
    (m : Meeting) (f : Frame) (d : Desc) (pad : ℕ) (reference : Bool) (more : List (Result Desc DescFault)) (outer : List Frame) (last : Cause)
    → IsInside f.site d → d.kind ≡ Catch pad reference All
    → phase1 m (frames f (Ok d ∷ more) outer last) ≡ found.Barrier (record { sp = f.sp; desc = d.at; site = f.site; hit = Object m.object })

-- one that fails ends the throw, and says so
abbrev pub EverythingFails : Type 0
EverythingFails =
    (m : Meeting) (f : Frame) (d : Desc) (pad : ℕ) (reference : Bool) (more : List (Result Desc DescFault)) (outer : List Frame) (last : Cause)
    → IsInside f.site d → d.kind ≡ Catch pad reference AllFails → phase1 m (frames f (Ok d ∷ more) outer last) ≡ found.Terminate NoThrow

-- a catch of a type stops an object that matches the type, with this match, and passes one that doesn't; an object that can't be read
-- ends the search
pub record CatchesOf (m : Meeting) (f : Frame) (d : Desc) (type : ℕ) (more : List (Result Desc DescFault)) (outer : List Frame) (last : Cause) : Type 0 where
  pub object : (x : ℕ) → m.matched type ≡ Object x
      → phase1 m (frames f (Ok d ∷ more) outer last) ≡ found.Barrier (record { sp = f.sp; desc = d.at; site = f.site; hit = Object x })
  pub pointer : (x : ℕ) → m.matched type ≡ PointerToBase x
      → phase1 m (frames f (Ok d ∷ more) outer last) ≡ found.Barrier (record { sp = f.sp; desc = d.at; site = f.site; hit = PointerToBase x })
  pub silent : m.matched type ≡ Failed → phase1 m (frames f (Ok d ∷ more) outer last) ≡ phase1 m (frames f more outer last)
  pub unreadable : (a : ℕ) → m.matched type ≡ Unreadable a → phase1 m (frames f (Ok d ∷ more) outer last) ≡ found.ObjectRead a

abbrev pub TypesStop : Type 0
TypesStop =
    (m : Meeting) (f : Frame) (d : Desc) (pad type : ℕ) (reference : Bool) (more : List (Result Desc DescFault)) (outer : List Frame) (last : Cause)
    → IsInside f.site d → d.kind ≡ Catch pad reference (One type) → CatchesOf m f d type more outer last

-- what can't be read ends both phases
pub record IsNotRead (f : Frame) (fault : DescFault) (more : List (Result Desc DescFault)) (outer : List Frame) (last : Cause) : Type 0 where
  pub search : (m : Meeting) → phase1 m (frames f (Err fault ∷ more) outer last) ≡ found.Terminate CannotUnwind
  pub advance : (g : Goal) → phase2 g 0 (frames f (Err fault ∷ more) outer last) ≡ enters.Terminate CannotUnwind

abbrev pub FaultsEnd : Type 0
FaultsEnd = (f : Frame) (fault : DescFault) (more : List (Result Desc DescFault)) (outer : List Frame) (last : Cause) → IsNotRead f fault more outer last

-- ---- the barrier

-- the barrier stands in the frame with its sp, at its address
pub record IsBarrier (g : Goal) (f : Frame) (d : Desc) : Type 0 where
  pub sp : f.sp ≡ g.sp
  pub at : d.at ≡ g.desc

-- any other descriptor stands in another frame, or at another address
abbrev pub IsElsewhere : Goal → Frame → Desc → Type 0
IsElsewhere g f d = (f.sp ≢ g.sp) ⊎ (d.at ≢ g.desc)

-- phase 2 enters a catch or a specification if it is the barrier, and passes every other one
pub record StopsAt (g : Goal) (f : Frame) (d : Desc) (more : List (Result Desc DescFault)) (outer : List Frame) (last : Cause) : Type 0 where
  pub catch : (pad : ℕ) (reference : Bool) (type : CatchType) → d.kind ≡ Catch pad reference type → IsBarrier g f d
      → phase2 g 0 (frames f (Ok d ∷ more) outer last) ≡ enters.Catch (record { r = f.r }) pad
  pub padded : (types count pad : ℕ) → d.kind ≡ Spec types count (Some pad) → IsBarrier g f d
      → phase2 g 0 (frames f (Ok d ∷ more) outer last) ≡ enters.Spec (record { r = f.r }) pad
  pub bare : (types count : ℕ) → d.kind ≡ Spec types count None → IsBarrier g f d → phase2 g 0 (frames f (Ok d ∷ more) outer last) ≡ enters.Unexpected
  pub other_catch : (pad : ℕ) (reference : Bool) (type : CatchType) → d.kind ≡ Catch pad reference type → IsElsewhere g f d
      → phase2 g 0 (frames f (Ok d ∷ more) outer last) ≡ phase2 g 0 (frames f more outer last)
  pub other_spec : (types count : ℕ) (pad : Option ℕ) → d.kind ≡ Spec types count pad → IsElsewhere g f d
      → phase2 g 0 (frames f (Ok d ∷ more) outer last) ≡ phase2 g 0 (frames f more outer last)

abbrev pub BarriersStop : Type 0
BarriersStop =
    (g : Goal) (f : Frame) (d : Desc) (more : List (Result Desc DescFault)) (outer : List Frame) (last : Cause) → IsInside f.site d → StopsAt g f d more outer last
