-- No event ends a run as its budget does.
use Rattle.std.proofs.Common.{◌≡◌, ℕ, ◌==◌, ◌&&◌, nat_lt, Bool, true, false, Option, Some, None, Result, Ok, Err, List, [], ◌∷◌, slice_index, length, drop, refl, sym, ap, ◌∙◌, subst}
use Rattle.std.specs.Prelude.{is_some}
use Rattle.std.specs.Option.{option_or}
use Rattle.run_events.specs.Runs.{Event, Goes, Ends}
use Rattle.eh_bus.specs.Memory.{Memory}
use Rattle.eh_cxa.specs.Words.{word, block, object_slot, block_slot}
use Rattle.eh_cxa.specs.Lists.{Cleanup}
use Rattle.eh_cxa.specs.ListCalls.{allocate_list, free_list, end_list, innermost_in}
use Rattle.eh_cxa.specs.Allocate.{allocate_of, free_of}
use Rattle.eh_cxa.specs.Cleanup.{innermost_of}
use Rattle.eh_cxa.specs.Catch.{begin_catch_of, end_catch_of}
use Rattle.eh_cxa.specs.declared.globals.CxaFault.{CxaFault}
use Rattle.eh_types.specs.Graph.{row_of}
use Rattle.eh_phase.specs.Frames.{entry_contents_at}
use Rattle.eh_phase.specs.Phases.{Frames, phase2}
use Rattle.eh_phase.specs.declared.verdict.Thrown.{Thrown}
use Rattle.eh_phase.specs.declared.phase1.Barrier.{Barrier}
use Rattle.eh_phase.specs.declared.phase2.Entered.{Entered}
use Rattle.eh_phase.specs.declared.phase2.Entered.TheVariants as enters
use Rattle.eh_phase.specs.declared.phase2.Goal.{Goal}
use Rattle.eh_trace.specs.declared.event.EventKind.{EventKind}
use Rattle.eh_trace.specs.declared.event.EventKind.TheVariants as event
use Rattle.run_gates.specs.declared.gates.TheConstants.{NO_CALLER, EXIT_GATE, OUTPUT_GATE, INPUT_GATE}
use Rattle.run_gates.specs.Gates.{gate_event}
use Rattle.run_images.specs.Start.{State as Raw}
use Rattle.run_flat.specs.Machine.{event_after_instr, in_memory, stepped_event, flat_event}
use Rattle.thumb_ahead.specs.Ahead.{branches_some}
use Rattle.thumb_isa.specs.declared.profile.Profile.TheVariants.{One}
use Rattle.thumb_core.specs.Outcome.{Outcome as Stepping}
use Rattle.thumb_core.specs.Step.{step_for, instr_for}
use Rattle.thumb_core.specs.declared.regs.TheConstants.{SP}
use Rattle.thumb_core.specs.declared.regs.Regs.{Regs}
use Rattle.thumb_core.specs.declared.regs.CoreTrap.{CoreTrap}
use Rattle.thumb_core.specs.declared.regs.Stepped.{Stepped}
use Rattle.thumb_core.specs.declared.regs.Stepped.TheVariants.{Done, Call, Return, Gate, Trap}
use Rattle.thumb_core.specs.declared.ends.End.{End}
use Rattle.thumb_core.specs.declared.ends.End.TheVariants as the_end
use Rattle.eh_gates.specs.declared.state.Turned.TheVariants.{Went, Ended}
use Rattle.eh_gates.specs.declared.gates.TheConstants.{ALLOCATE_GATE, FREE_GATE, THROW_GATE, BEGIN_CATCH_GATE, END_CATCH_GATE, RETHROW_GATE, END_CLEANUP_GATE, UNEXPECTED_GATE, TERMINATE_GATE, UNCAUGHT_GATE}
use Rattle.eh_gates.specs.State.{State, Tables, reg}
use Rattle.sim_machines.specs.Program.{Program, program_tables, profile_in}
use Rattle.sim_machines.specs.Activations.{Activation, Recorded, reg_in, memory_of, words_in, heads, with_lists, lists_of, cleanups_in, InProgress}
use Rattle.sim_machines.specs.Machine.{is_raised, leaves_cleanup, sp_end, control_flow_trap, fell_off}
use Rattle.sim_machines.specs.Machine as bytes
use Rattle.sim_machines.specs.ActivationMachine as acts
use Rattle.sim_event_laws.specs.Ends.{NoEventIsBudget}
use Rattle.sim_event_laws.proofs.GateEnds.{is_gates, fault_is, rethrow_is, BarrierEnds, barrier_is}
use Rattle.sim_event_laws.proofs.EventEnds.{either, is_budget, gates_budget, trap_budget, Lacks, OfEvent, flow_trap_is, acted_is}

-- an end that may come of a test
abbrev Fine : Option End → Type 0
Fine o = Lacks is_budget gates_budget (λ n. refl) (λ v pc. refl) (λ v pc. refl) o

flow_traps : (p : Program) (branches : Bool) (pc : ℕ) (what : Stepped) (regs : Regs) → Fine (control_flow_trap p branches pc what regs)
flow_traps p branches pc what regs = flow_trap_is is_budget gates_budget (λ n. refl) (λ v pc. refl) (λ v pc. refl) p branches pc what regs

sps : (lowers : Bool) (landing : Option ℕ) (low pc old new : ℕ) → Fine (sp_end lowers landing low pc old new)
sps lowers landing low pc old new =
    either Fine (is_raised lowers old new) _ _ refl (either Fine (leaves_cleanup landing old new) _ _ refl (either Fine (nat_lt new low) _ _ refl tt))

one_of : (a b : Option End) → Fine a → Fine b → Fine (option_or a b)
one_of (Some end) b h k = h
one_of None b h k = k

not_budget : (end : End) → is_budget end ≡ false → end ≡ the_end.Budget → ⊥
not_budget end h e = let t : is_budget end ≡ true = ap is_budget e in let f : true ≡ false = sym t ∙ h in absurd (cc)

-- ---- over bytes

abbrev OfBytes : Event State End → Type 0
OfBytes e = OfEvent is_budget gates_budget (λ n. refl) (λ v pc. refl) (λ v pc. refl) e

module _ (p : Program) (s : State) (input : List ℕ) where
  tested_bytes : (what : Stepped) (regs : Regs) (m : Memory) (o : Option End) → Fine o → OfBytes (bytes.event_after_pass p s (bytes.pass_tests p s what regs m o) input)
  tested_bytes what regs m (Some end) h = h
  tested_bytes what regs m None h =
      acted_is is_budget gates_budget (λ n. refl) (λ v pc. refl) (λ v pc. refl) p s what (record s { regs = regs; memory = bytes.update_guards_at p s regs m }) input

  tests_bytes : (what : Stepped) (regs : Regs) → Fine (bytes.tests p s what regs)
  tests_bytes what regs =
      one_of (sp_end (p.look s.regs.pc).lowers (innermost_of (word s.memory) s.globals) s.memory.home.0 s.regs.pc (reg s SP) (slice_index regs.r SP))
      (control_flow_trap p (branches_some (instr_for (profile_in p) s.memory s.regs.pc) s.regs) s.regs.pc what regs)
      (sps (p.look s.regs.pc).lowers (innermost_of (word s.memory) s.globals) s.memory.home.0 s.regs.pc (reg s SP) (slice_index regs.r SP))
      (flow_traps p (branches_some (instr_for (profile_in p) s.memory s.regs.pc) s.regs) s.regs.pc what regs)

  stepped_bytes : (o : Stepping) → OfBytes (bytes.event_after_pass p s (bytes.pass_step p s o) input)
  stepped_bytes (Trap trap, regs, m) = trap_budget trap s.regs.pc
  stepped_bytes (Done, regs, m) = tested_bytes Done regs m (bytes.tests p s Done regs) (tests_bytes Done regs)
  stepped_bytes (Call target ret, regs, m) = tested_bytes (Call target ret) regs m (bytes.tests p s (Call target ret) regs) (tests_bytes (Call target ret) regs)
  stepped_bytes (Return to, regs, m) = tested_bytes (Return to) regs m (bytes.tests p s (Return to) regs) (tests_bytes (Return to) regs)
  stepped_bytes (Gate number, regs, m) = tested_bytes (Gate number) regs m (bytes.tests p s (Gate number) regs) (tests_bytes (Gate number) regs)

  checked_bytes : (b : Bool) → OfBytes (bytes.event_after_pass p s (bytes.pass_if_checked p s b) input)
  checked_bytes true = stepped_bytes (step_for (profile_in p) s.regs s.memory)
  checked_bytes false = refl

  of_bytes : OfBytes (bytes.machine_event p s input)
  unfolding bytes.machine_event bytes.pass_instruction
  of_bytes = checked_bytes (p.look s.regs.pc).is_instr

-- ---- with recorded activations

abbrev GateEnds : acts.Outcome → Type 0
GateEnds (Went, t) = Unit {0}
GateEnds (Ended end, t) = is_gates end ≡ true

abbrev OfRecorded : Event Recorded End → Type 0
OfRecorded (Goes t text left) = Unit {0}
OfRecorded (Ends end t) = is_budget end ≡ false

allocates : (next : ℕ) (s new : Recorded) (r : Result ℕ CxaFault) → GateEnds (acts.allocate_outcome next s new r)
allocates next s new (Ok x) = tt
allocates next s new (Err why) = fault_is why (reg_in s 0) s.regs.pc

frees : (next : ℕ) (s new : Recorded) (r : Result (Unit {0}) CxaFault) → GateEnds (acts.free_outcome next s new r)
frees next s new (Ok x) = tt
frees next s new (Err why) = fault_is why (reg_in s 0) s.regs.pc

catches : (next : ℕ) (s new : Recorded) (r : Result ℕ CxaFault) → GateEnds (acts.begin_catch_outcome next s new r)
catches next s new (Ok x) = tt
catches next s new (Err why) = fault_is why (reg_in s 0) s.regs.pc

drops : (next : ℕ) (s new : Recorded) (r : Result (ℕ × ℕ) CxaFault) → GateEnds (acts.end_catch_outcome next s new r)
drops next s new (Ok (x, y)) = tt
drops next s new (Err why) = fault_is why 0 s.regs.pc

lands : (s : Recorded) (activations : List Activation) (block object : ℕ) (e : Entered) → GateEnds (acts.enter_landing s activations block object e)
lands s activations block object (enters.Cleanup vrs pad next site) = tt
lands s activations block object (enters.Catch vrs pad) = tt
lands s activations block object (enters.Spec vrs pad) = tt
lands s activations block object enters.Unexpected = refl
lands s activations block object (enters.Terminate why) = refl

advances : (s : Recorded) (activations : List Activation) (block object : ℕ) (g : Goal) (from : ℕ) (fs : Frames) → GateEnds (acts.advances s activations block object g from fs)
advances s activations block object g from fs = lands s (drop (acts.passed_frame_count g from fs.frames) activations) block object (phase2 g from fs)

flies : (g : Tables) (site block : ℕ) (b : Barrier) (s : Recorded) → GateEnds (acts.throw_to g site block b s)
unfolding acts.throw_to
flies g site block b s = advances _ _ block _ _ 0 _

from_is : (further : Barrier → Recorded → acts.Outcome) (p : Result Barrier End × Recorded) → BarrierEnds p.0 → ((b : Barrier) (t : Recorded) → GateEnds (further b t)) → GateEnds (acts.from_barrier further p)
from_is further (Ok b, t) h f = f b t
from_is further (Err end, t) h f = h

sought_is : (g : Tables) (s : Recorded) (what : EventKind) (thrown : Thrown) → BarrierEnds (acts.find_barrier g s what thrown).0
unfolding acts.find_barrier
sought_is g s what thrown =
    either (λ (p : Result Barrier End × Recorded). BarrierEnds p.0) (is_some (row_of g.types thrown.ty)) _ _ (barrier_is s.regs.pc (acts.phase1_result g s thrown)) refl

throws_is : (g : Tables) (s : Recorded) (r : Result ℕ CxaFault) → GateEnds (acts.throw_outcome g s r)
throws_is g s (Err why) = fault_is why (reg_in s 0) s.regs.pc
throws_is g s (Ok block) =
    from_is (λ b t. acts.throw_to g s.regs.pc block b (acts.flies_first t)) (acts.find_barrier g s event.Throw (acts.gate_thrown s)) (sought_is g s event.Throw (acts.gate_thrown s))
    (λ b t. flies g s.regs.pc block b (acts.flies_first t))

rethrows_is : (g : Tables) (s : Recorded) (r : Result ℕ CxaFault) → GateEnds (acts.rethrow_outcome g s r)
rethrows_is g s (Err why) = rethrow_is why _ s.regs.pc
rethrows_is g s (Ok block) =
    from_is (λ b t. acts.throw_to g s.regs.pc block b (acts.flies_again t)) (acts.find_barrier g s event.Rethrow (acts.slot_thrown (lists_of s) (block_slot block)))
    (sought_is g s event.Rethrow (acts.slot_thrown (lists_of s) (block_slot block))) (λ b t. flies g s.regs.pc block b (acts.flies_again t))

resumes_in_is : (g : Tables) (s : Recorded) (c : InProgress) (more : List InProgress) (outer : List Activation) → GateEnds (acts.resumes_in g s c more outer)
resumes_in_is g s c more [] = refl
resumes_in_is g s c more (a ∷ outer) =
    either GateEnds ((s.first.caller.sp == c.cleanup.sp) && (length outer == c.place)) _ _ (advances _ _ _ _ _ _ _) refl

resumes_is : (g : Tables) (s : Recorded) (cleanups : List InProgress) → GateEnds (acts.resume_outcome g s cleanups)
resumes_is g s [] = refl
resumes_is g s (c ∷ more) = either GateEnds (acts.can_unwind (entry_contents_at g.image s.regs.pc)) _ _ (resumes_in_is g s c more s.outer) refl

gate_is : (g : Tables) (number next : ℕ) (s : Recorded) → GateEnds (acts.gate_of g number next s)
unfolding acts.gate_of
gate_is g number next s =
    let P : acts.Outcome → Type 0 = λ o. GateEnds o in
    either P (number == ALLOCATE_GATE) _ _ (allocates next s (with_lists (allocate_list (lists_of s) (reg_in s 0)).lists (allocate_of (words_in (lists_of s)) (reg_in s 0)).writes s) _) (
    either P (number == FREE_GATE) _ _ (frees next s (with_lists (free_list (lists_of s) (object_slot (reg_in s 0))).lists (free_of (words_in (lists_of s)) (object_slot (reg_in s 0))).writes s) _) (
    either P (number == THROW_GATE) _ _ (throws_is g s (acts.first_flight s).answer) (
    either P (number == BEGIN_CATCH_GATE) _ _ (catches next s (with_lists (acts.begin_catch s).lists (begin_catch_of (words_in (lists_of s)) (heads (lists_of s)) (reg_in s 0)).writes s) _) (
    either P (number == END_CATCH_GATE) _ _ (drops next s (with_lists (end_list (lists_of s)).lists (end_catch_of (words_in (lists_of s)) (heads (lists_of s))).writes s) _) (
    either P (number == RETHROW_GATE) _ _ (rethrows_is g s _) (
    either P (number == END_CLEANUP_GATE) _ _ (resumes_is g s s.cleanups) (
    either P (number == UNEXPECTED_GATE) _ _ refl (either P (number == TERMINATE_GATE) _ _ refl (either P (number == UNCAUGHT_GATE) _ _ tt refl)))))))))

module _ (p : Program) (s : Recorded) (input : List ℕ) where
  outcome_is : (o : acts.Outcome) → GateEnds o → OfRecorded (acts.event_of o input)
  outcome_is (Went, t) h = tt
  outcome_is (Ended end, t) h = gates_budget end h

  plain_is : (number : ℕ) (regs : Regs) → OfRecorded (acts.in_state s (gate_event number s.regs regs input))
  plain_is number regs =
      let P : Event Regs End → Type 0 = λ e. OfRecorded (acts.in_state s e) in
      either P (number == EXIT_GATE) _ _ refl (either P (number == OUTPUT_GATE) _ _ tt (either P (number == INPUT_GATE) _ _ tt refl))

  acted_recorded : (what : Stepped) (t : Recorded) → OfRecorded (acts.event_after_step p s what t input)
  acted_recorded (Gate number) t =
      either OfRecorded (nat_lt INPUT_GATE number) _ _ (outcome_is (acts.gate_of (program_tables p) number t.regs.pc s) (gate_is (program_tables p) number t.regs.pc s)) (plain_is number t.regs)
  acted_recorded Done t = tt
  acted_recorded (Call target ret) t = tt
  acted_recorded (Return to) t = tt
  acted_recorded (Trap trap) t = tt

  return_is : (outer : List Activation) (regs : Regs) → Fine (acts.return_end p s.regs.pc outer regs)
  return_is [] regs = refl
  return_is (a ∷ more) regs = either Fine (p.look regs.pc).is_function _ _ refl tt

  flow_trap_of : (branches : Bool) (what : Stepped) (regs : Regs) → Fine (acts.control_flow_trap_of p s branches what regs)
  flow_trap_of branches Done regs = flow_traps p branches s.regs.pc Done regs
  flow_trap_of branches (Call target ret) regs = flow_traps p branches s.regs.pc (Call target ret) regs
  flow_trap_of branches (Return to) regs = return_is s.outer regs
  flow_trap_of branches (Gate number) regs = flow_traps p branches s.regs.pc (Gate number) regs
  flow_trap_of branches (Trap trap) regs = tt

  tests_are : (what : Stepped) (regs : Regs) → Fine (acts.tests p s what regs)
  tests_are what regs =
      one_of (sp_end (p.look s.regs.pc).lowers (innermost_in (cleanups_in s.cleanups)) s.home.0 s.regs.pc (reg_in s SP) (slice_index regs.r SP))
      (acts.control_flow_trap_of p s (branches_some (instr_for (profile_in p) (memory_of s) s.regs.pc) s.regs) what regs)
      (sps (p.look s.regs.pc).lowers (innermost_in (cleanups_in s.cleanups)) s.home.0 s.regs.pc (reg_in s SP) (slice_index regs.r SP)) (flow_trap_of (branches_some (instr_for (profile_in p) (memory_of s) s.regs.pc) s.regs) what regs)

  tested_recorded : (what : Stepped) (regs : Regs) (m : Memory) (o : Option End) → Fine o → OfRecorded (acts.event_after_pass p s (acts.pass_tests p s what regs m o) input)
  tested_recorded what regs m (Some end) h = h
  tested_recorded what regs m None h = acted_recorded what (acts.record_step p s what regs m)

  with_tests : (what : Stepped) (regs : Regs) (m : Memory) → OfRecorded (acts.event_after_pass p s (acts.with_tests p s what regs m) input)
  with_tests what regs m = tested_recorded what regs m (acts.tests p s what regs) (tests_are what regs)

  trapped_is : (trap : CoreTrap) (o : Option Regs) → OfRecorded (acts.event_after_pass p s (acts.trap_or_return p s trap o) input)
  trapped_is trap None = trap_budget trap s.regs.pc
  trapped_is trap (Some regs) = with_tests (Return s.first.caller.back) (acts.caller_registers s.first.caller regs) (memory_of s)

  stepped_recorded : (o : Stepping) → OfRecorded (acts.event_after_pass p s (acts.pass_step p s o) input)
  stepped_recorded (Trap trap, regs, m) = trapped_is trap (acts.pops_back p s)
  stepped_recorded (Done, regs, m) = with_tests Done regs m
  stepped_recorded (Call target ret, regs, m) = with_tests (Call target ret) regs m
  stepped_recorded (Return to, regs, m) = with_tests (Return to) (acts.caller_registers s.first.caller regs) m
  stepped_recorded (Gate number, regs, m) = with_tests (Gate number) regs m

  checked_recorded : (b : Bool) → OfRecorded (acts.event_after_pass p s (acts.pass_if_checked p s b) input)
  checked_recorded true = stepped_recorded (step_for (profile_in p) s.regs (memory_of s))
  checked_recorded false = refl

  of_recorded : OfRecorded (acts.recorded_event p s input)
  unfolding acts.recorded_event acts.pass_instruction
  of_recorded = checked_recorded (p.look s.regs.pc).is_instr

-- ---- of raw code

abbrev OfRegs : Event Regs End → Type 0
OfRegs (Goes t text left) = Unit {0}
OfRegs (Ends end t) = is_budget end ≡ false

abbrev OfRaw : Event Raw End → Type 0
OfRaw (Goes t text left) = Unit {0}
OfRaw (Ends end t) = is_budget end ≡ false

gate_raw : (number : ℕ) (old new : Regs) (input : List ℕ) → OfRegs (gate_event number old new input)
gate_raw number old new input =
    either OfRegs (number == EXIT_GATE) _ _ refl (either OfRegs (number == OUTPUT_GATE) _ _ tt (either OfRegs (number == INPUT_GATE) _ _ tt refl))

went_raw : (what : Stepped) (old new : Regs) (input : List ℕ) → OfRegs (event_after_instr what old new input)
went_raw Done old new input = tt
went_raw (Call target ret) old new input = tt
went_raw (Return to) old new input = either OfRegs (to == NO_CALLER) _ _ refl tt
went_raw (Gate number) old new input = gate_raw number old new input
went_raw (Trap trap) old new input = trap_budget trap old.pc

memory_raw : (old new : Memory) (e : Event Regs End) → OfRegs e → OfRaw (in_memory old new e)
memory_raw old new (Goes t text left) h = tt
memory_raw old new (Ends end t) h = h

stepped_raw : (o : Stepping) (s : Raw) (input : List ℕ) → OfRaw (stepped_event o s input)
stepped_raw (what, regs, m) s input = memory_raw s.memory m (event_after_instr what s.regs regs input) (went_raw what s.regs regs input)

of_raw : (s : Raw) (input : List ℕ) → OfRaw (flat_event s input)
unfolding flat_event
of_raw s input = stepped_raw (step_for One s.regs s.memory) s input

-- ---- all three

pub is_none : NoEventIsBudget
is_none = record {
  bytes = λ p s t input e. not_budget the_end.Budget (subst (λ (x : Event State End). OfBytes x) e (of_bytes p s input)) refl;
  recorded = λ p s t input e. not_budget the_end.Budget (subst (λ (x : Event Recorded End). OfRecorded x) e (of_recorded p s input)) refl;
  flat = λ s t input e. not_budget the_end.Budget (subst (λ (x : Event Raw End). OfRaw x) e (of_raw s input)) refl;
}
