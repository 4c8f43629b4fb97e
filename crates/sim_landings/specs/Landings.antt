-- The landings along a run of the machine with recorded activations, and those of one throw (docs/inside/simulation.md).
use Rattle.std.specs.Prelude.{ℕ, zero, suc, ◌==◌, Bool, true, false, if◌then◌else◌, List, [], ◌∷◌, ◌++◌, ◌≡◌, Option, Some, None, ◌⊎◌}
use Rattle.std.specs.List.{filter_map, cons_option}
use Rattle.run_events.specs.Runs.{Event, Goes, Ends}
use Rattle.eh_cxa.specs.Lists.{Cleanup}
use Rattle.eh_cxa.specs.Words.{object_slot}
use Rattle.eh_phase.specs.declared.phase2.Entered.{Entered}
use Rattle.eh_phase.specs.declared.phase2.Entered.TheVariants as enters
use Rattle.eh_phase.specs.declared.verdict.Thrown.{Thrown}
use Rattle.std.specs.Prelude.{slice_index}
use Rattle.thumb_core.specs.Registers.{even}
use Rattle.thumb_isa.specs.declared.profile.Profile.{Profile}
use Rattle.thumb_core.specs.Step.{step_for}
use Rattle.thumb_core.specs.declared.regs.TheConstants.{SP}
use Rattle.thumb_core.specs.declared.regs.Stepped.{Stepped}
use Rattle.thumb_core.specs.declared.regs.Stepped.TheVariants.{Done, Call, Return, Gate, Trap}
use Rattle.thumb_core.specs.declared.ends.End.{End}
use Rattle.eh_gates.specs.declared.gates.TheConstants.{THROW_GATE, RETHROW_GATE, END_CLEANUP_GATE}
use Rattle.sim_machines.specs.Program.{Program, profile_in}
use Rattle.sim_machines.specs.Activations.{Recorded, reg_in, memory_of, lists_of, InProgress}
use Rattle.sim_machines.specs.ActivationMachine.{recorded_event, gate_thrown, slot_thrown}

-- ---- what an event throws, and what it resumes

-- the number of the gate that an instruction is, by the rows of a profile
abbrev pub gate_in : Stepped → Option ℕ
gate_in (Gate number) = Some number
gate_in Done = None
gate_in (Call target ret) = None
gate_in (Return to) = None
gate_in (Trap trap) = None

abbrev pub gate_at : Profile → Recorded → Option ℕ
gate_at p s = gate_in (step_for p s.regs (memory_of s)).0

abbrev pub top_of : List ℕ → Option ℕ
top_of [] = None
top_of (slot ∷ more) = Some slot

-- The exception that a gate throws, by its slot: that of the object in r0, or for a rethrow the top of the caught stack.
abbrev pub slot_thrown_by : Recorded → Option ℕ → Option ℕ
slot_thrown_by s None = None
slot_thrown_by s (Some number) =
    if number == THROW_GATE then object_slot (reg_in s 0) else (if number == RETHROW_GATE then top_of s.caught else None)

abbrev pub slot_thrown_at : Profile → Recorded → Option ℕ
slot_thrown_at p s = slot_thrown_by s (gate_at p s)

-- .. and with it the object and the type
abbrev pub ThrowsWhat : Profile → Recorded → ℕ → Thrown → Type 0
ThrowsWhat p s slot thrown =
    ((gate_at p s ≡ Some THROW_GATE) × (object_slot (reg_in s 0) ≡ Some slot) × (thrown ≡ gate_thrown s))
    ⊎ ((gate_at p s ≡ Some RETHROW_GATE) × (top_of s.caught ≡ Some slot) × (thrown ≡ slot_thrown (lists_of s) (Some slot)))

-- the exception of the innermost cleanup in progress
abbrev pub innermost : List InProgress → Option ℕ
innermost [] = None
innermost (c ∷ more) = Some c.cleanup.slot

-- the exception that flies on when a gate ends a cleanup
abbrev pub slot_resumed_by : Recorded → Option ℕ → Option ℕ
slot_resumed_by s None = None
slot_resumed_by s (Some number) = if number == END_CLEANUP_GATE then innermost s.cleanups else None

abbrev pub slot_resumed_at : Profile → Recorded → Option ℕ
slot_resumed_at p s = slot_resumed_by s (gate_at p s)

-- ---- landings

-- a landing pad and the sp there
abbrev pub Pad : Type 0
Pad = ℕ × ℕ

-- an exception landed: by its throw, or when a cleanup of it ended
pub record Landing : Type 0 where
  pub exception : ℕ
  pub resumes : Bool
  pub pad : Pad

abbrev pub landing_by_slots : Pad → Option ℕ → Option ℕ → Option Landing
landing_by_slots at (Some slot) resumed = Some (record { exception = slot; resumes = false; pad = at })
landing_by_slots at None (Some slot) = Some (record { exception = slot; resumes = true; pad = at })
landing_by_slots at None None = None

-- a state's pc and sp
abbrev pub stands_at : Recorded → Pad
stands_at t = (t.regs.pc, reg_in t SP)

-- an event that goes on from one state to another, and threw or resumed an exception, is a landing
abbrev pub landing_by : Profile → Recorded → Recorded → Option Landing
landing_by p s t = landing_by_slots (stands_at t) (slot_thrown_at p s) (slot_resumed_at p s)

abbrev pub landings_from : Profile → Recorded → Event Recorded End → (Recorded → List ℕ → List Landing) → List Landing
landings_from p s (Goes t text left) further = cons_option (landing_by p s t) (further t left)
landings_from p s (Ends end t) further = []

-- the landings of at most so many events, in order
unfoldable pub landings : Program → ℕ → Recorded → List ℕ → List Landing
landings p zero s input = []
landings p (suc n) s input = landings_from (profile_in p) s (recorded_event p s input) (landings p n)

-- ---- the landings of one throw

abbrev pub if_own : Bool → Bool → Pad → List Pad → List Pad
if_own true true at further = at ∷ further
if_own true false at further = []
if_own false resumes at further = further

-- the landings of an exception's resumes, up to where it is thrown again
abbrev pub resumes_of : ℕ → List Landing → List Pad
resumes_of slot [] = []
resumes_of slot (l ∷ more) = if_own (l.exception == slot) l.resumes l.pad (resumes_of slot more)

-- the landing of a throw, which is the first of these, and those of its resumes
abbrev pub flight_of : ℕ → List Landing → List Pad
flight_of slot [] = []
flight_of slot (l ∷ more) = l.pad ∷ resumes_of slot more

-- ---- the pads of what phase 2 enters

abbrev pub pad_in : Entered → Option Pad
pad_in (enters.Cleanup vrs pad next site) = Some (even pad, slice_index vrs.r SP)
pad_in (enters.Catch vrs pad) = Some (even pad, slice_index vrs.r SP)
pad_in (enters.Spec vrs pad) = Some (even pad, slice_index vrs.r SP)
pad_in enters.Unexpected = None
pad_in (enters.Terminate why) = None

abbrev pub pads : List Entered → List Pad
pads es = filter_map pad_in es

-- the first of some pads, in order
pub record AreFirst (some all : List Pad) : Type 0 where
  pub rest : List Pad
  pub is : all ≡ some ++ rest
