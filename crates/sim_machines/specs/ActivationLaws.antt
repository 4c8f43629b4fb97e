-- Laws of how the machine with recorded activations and the machine over bytes fit (docs/rules/machine.md, "Laws").
use Rattle.std.specs.Prelude.{◌≡◌, ℕ, ◌≤◌, List, [], ◌∷◌, length, map, take, drop, slice_index, Option, None, IsSome}
use Rattle.run_events.specs.Runs.{Event, Goes, Ends}
use Rattle.elf_image.specs.Image.{Image}
use Rattle.run_gates.specs.declared.gates.TheConstants.{INPUT_GATE}
use Rattle.eh_bus.specs.Memory.{Memory}
use Rattle.eh_cxa.specs.Words.{word}
use Rattle.eh_cxa.specs.Cleanup.{innermost_of}
use Rattle.eh_cxa.specs.ListCalls.{innermost_in}
use Rattle.eh_phase.specs.Frames.{site_of}
use Rattle.eh_phase.specs.Phases.{Frame, Frames, vrs_of, phase2}
use Rattle.eh_phase.specs.declared.phase2.Entered.{Entered}
use Rattle.eh_phase.specs.declared.phase2.Entered.TheVariants as enters
use Rattle.eh_phase.specs.declared.phase2.Goal.{Goal}
use Rattle.thumb_core.specs.Registers.{even}
use Rattle.thumb_core.specs.Step.{step_for}
use Rattle.thumb_core.specs.declared.regs.TheConstants.{SP}
use Rattle.thumb_core.specs.declared.regs.Regs.{Regs}
use Rattle.thumb_core.specs.declared.regs.Stepped.{Stepped}
use Rattle.thumb_core.specs.declared.regs.Stepped.TheVariants.{Done, Call, Return, Gate, Trap}
use Rattle.thumb_core.specs.declared.ends.End.{End}
use Rattle.eh_gates.specs.State.{State}
use Rattle.sim_machines.specs.Program.{Program, profile_in}
use Rattle.sim_machines.specs.Machine.{machine_event}
use Rattle.sim_machines.specs.Start.{start_of}
use Rattle.sim_machines.specs.Activations.{Caller, Activation, Recorded, memory_of, heads, bytes_of, callee, registers_of, frames_at, recorded_start, lists_of, cleanups_in}
use Rattle.sim_machines.specs.ActivationMachine.{pops_back, recorded_event, passed_frame_count}

-- ---- the same event

-- Both go on or both end, alike. Their states agree: guarded words correspond to slots, and chains to lists.
abbrev pub Matches : Event State End → Event Recorded End → Type 0
Matches (Goes b text left) (Goes s said rest) = (b ≡ bytes_of s) × (text ≡ said) × (left ≡ rest)
Matches (Ends end b) (Ends why s) = (end ≡ why) × (b ≡ bytes_of s)
Matches (Goes b text left) (Ends why s) = ⊥
Matches (Ends end b) (Goes s said rest) = ⊥

-- all instructions but returns and gates of exceptions; a POP into pc is a return, whatever word it finds
abbrev pub IsPlain : Program → Recorded → Stepped → Type 0
IsPlain p s Done = Unit {0}
IsPlain p s (Call target ret) = Unit {0}
IsPlain p s (Return to) = ⊥
IsPlain p s (Gate number) = number ≤ INPUT_GATE
IsPlain p s (Trap trap) = pops_back p s ≡ None

-- the pool and the list have the same landing sp for the innermost cleanup
abbrev pub KnowsLanding : Recorded → Type 0
KnowsLanding s = innermost_of (word (memory_of s)) (heads (lists_of s)) ≡ innermost_in (cleanups_in s.cleanups)

-- an instruction that is no return and no gate of exceptions does the same in both machines
abbrev pub PlainEventsMatch : Type 0
PlainEventsMatch =
    (p : Program) (s : Recorded) (input : List ℕ) → KnowsLanding s → IsPlain p s (step_for (profile_in p) s.regs (memory_of s)).0
    → Matches (machine_event p (bytes_of s) input) (recorded_event p s input)

-- ---- the start

abbrev pub IsNoReturn : Program → Recorded → Stepped → Type 0
IsNoReturn p s Done = Unit {0}
IsNoReturn p s (Call target ret) = Unit {0}
IsNoReturn p s (Return to) = ⊥
IsNoReturn p s (Gate number) = Unit {0}
IsNoReturn p s (Trap trap) = pops_back p s ≡ None

-- both start in the same state, and do the same first event if it is no return
pub record StartsAlike (p : Program) : Type 0 where
  pub same : bytes_of (recorded_start p) ≡ start_of p
  pub first : (input : List ℕ) → IsNoReturn p (recorded_start p) (step_for (profile_in p) (start_of p).regs (start_of p).memory).0
      → Matches (machine_event p (start_of p) input) (recorded_event p (recorded_start p) input)

abbrev pub MachinesStartAlike : Type 0
MachinesStartAlike = (p : Program) → StartsAlike p

-- ---- a return

-- r4 to r11 are eight words
abbrev pub IsWhole : Activation → Type 0
IsWhole a = length a.caller.saved ≡ 8

abbrev pub AreWhole : List Activation → Type 0
AreWhole [] = Unit {0}
AreWhole (a ∷ more) = IsWhole a × AreWhole more

-- the registers are those that the first activation recorded at its call
pub record IsBack (c : Caller) (t : Recorded) : Type 0 where
  pub pc : t.regs.pc ≡ even c.back
  pub sp : slice_index t.regs.r SP ≡ c.sp
  pub saved : callee t.regs.r ≡ c.saved

-- the instruction is a return; a POP into pc whose words can be loaded is one, whatever they are
abbrev pub IsReturn : Program → Recorded → Stepped → Type 0
IsReturn p s (Return to) = Unit {0}
IsReturn p s (Trap trap) = IsSome (pops_back p s)
IsReturn p s Done = ⊥
IsReturn p s (Call target ret) = ⊥
IsReturn p s (Gate number) = ⊥

-- a return that goes on restores what was recorded, whatever the stack holds
abbrev pub ReturnsGiveBack : Type 0
ReturnsGiveBack =
    (p : Program) (s t : Recorded) (input text left : List ℕ) → IsReturn p s (step_for (profile_in p) s.regs (memory_of s)).0
    → recorded_event p s input ≡ Goes t text left → IsWhole s.first → IsBack s.first.caller t

-- ---- a call

-- an activation without slots, of the called function, which records the return address, and sp and r4 to r11 as they are
pub record IsRecorded (target ret : ℕ) (t : Recorded) : Type 0 where
  pub function : t.first.function ≡ target
  pub back : t.first.caller.back ≡ ret
  pub sp : t.first.caller.sp ≡ slice_index t.regs.r SP
  pub saved : t.first.caller.saved ≡ callee t.regs.r
  pub slots : t.first.slots ≡ []

abbrev pub callers : List Activation → List Caller
callers acts = map (λ (a : Activation). a.caller) acts

-- a call that goes on adds it in front of the activations that were there
pub record IsCalled (target ret : ℕ) (s t : Recorded) : Type 0 where
  pub recorded : IsRecorded target ret t
  pub outer : callers t.outer ≡ callers (s.first ∷ s.outer)

abbrev pub CallsRecord : Type 0
CallsRecord =
    (p : Program) (s t : Recorded) (input text left : List ℕ) (target ret : ℕ) (regs : Regs) (m : Memory)
    → step_for (profile_in p) s.regs (memory_of s) ≡ (Call target ret, regs, m) → recorded_event p s input ≡ Goes t text left → IsCalled target ret s t

-- ---- the frames of a throw

-- a frame's site and sp
abbrev pub site_and_sp : Frame → ℕ × ℕ
site_and_sp f = (f.site, f.sp)

-- those of each activation, as the one inside it recorded them
abbrev pub recorded_places : Caller → List Activation → List (ℕ × ℕ)
recorded_places c [] = []
recorded_places c (a ∷ more) = (site_of (registers_of c), c.sp) ∷ recorded_places a.caller more

-- the frames of a throw are one for each activation, from the first to where they end
abbrev pub FramesAreActivations : Type 0
FramesAreActivations =
    (image : Image) (place : Option ℕ) (site : ℕ) (r : List ℕ) (a : Activation) (outer : List Activation) → AreWhole (a ∷ outer)
    → map site_and_sp (frames_at image place site r a outer).frames
    ≡ take (length (frames_at image place site r a outer).frames) ((site, slice_index r SP) ∷ recorded_places a.caller outer)

-- ---- a landing

-- phase 2 enters something in this frame
abbrev pub StandsIn : Frame → Entered → Type 0
StandsIn f (enters.Cleanup vrs pad next site) = (vrs ≡ vrs_of f) × (site ≡ f.site)
StandsIn f (enters.Catch vrs pad) = vrs ≡ vrs_of f
StandsIn f (enters.Spec vrs pad) = vrs ≡ vrs_of f
StandsIn f enters.Unexpected = Unit {0}
StandsIn f (enters.Terminate why) = Unit {0}

-- Phase 2 enters the first frame that it doesn't pass. If it passes all of them, it ends by the cause that ends the frames.
pub record IsPassed (g : Goal) (from : ℕ) (fs : Frames) : Type 0 where
  pub lands : (f : Frame) (rest : List Frame) → drop (passed_frame_count g from fs.frames) fs.frames ≡ f ∷ rest → StandsIn f (phase2 g from fs)
  pub ends : drop (passed_frame_count g from fs.frames) fs.frames ≡ [] → phase2 g from fs ≡ enters.Terminate fs.last

abbrev pub LandingsStandInTheirFrames : Type 0
LandingsStandInTheirFrames = (g : Goal) (from : ℕ) (fs : Frames) → IsPassed g from fs
