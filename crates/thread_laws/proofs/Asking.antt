-- The trap of the gate that starts a thread comes of that gate alone, and leaves the state.
use Rattle.std.proofs.Common.{slice_index, ◌≡◌, ℕ, ◌+◌, ◌==◌, ◌&&◌, ◌||◌, nat_lt, nat_le, Bool, true, false, cond, List, [], ◌∷◌, ◌++◌, length, Option, Some, None, Result, Ok, Err, refl, sym, ap, subst, ◌∙◌}
use Rattle.std.specs.Prelude.{is_some, ◌%◌, ◌^◌}
use Rattle.std.specs.List.{list_all}
use Rattle.std.specs.Option.{option_or}
use Rattle.std.proofs.lemmas.Bool.{eqb-true}
use Rattle.std.proofs.lemmas.Option.{same_Some}
use Rattle.run_events.specs.Runs.{Event, Goes, Ends}
use Rattle.eh_bus.specs.Memory.{Memory, fetch}
use Rattle.eh_bus.specs.declared.fault.BusFault.{BusFault}
use Rattle.eh_bus.specs.declared.fault.BusFault.TheVariants as bus
use Rattle.run_gates.specs.declared.gates.TheConstants.{EXIT_GATE, OUTPUT_GATE, INPUT_GATE}
use Rattle.run_gates.specs.Ends.{trap_end}
use Rattle.run_gates.specs.Gates.{gate_event}
use Rattle.eh_cxa.specs.Allocate.{free_of}
use Rattle.eh_cxa.specs.Catch.{begin_catch_of, end_catch_of}
use Rattle.eh_cxa.specs.ListCalls.{allocate_list, free_list, end_list, rethrow_list, innermost_in}
use Rattle.eh_cxa.specs.Lists.{Cleanup}
use Rattle.eh_cxa.specs.Throw.{barrier_of}
use Rattle.eh_cxa.specs.Words.{word, block, block_slot, object_slot}
use Rattle.eh_cxa.specs.declared.globals.BarrierWords.{BarrierWords}
use Rattle.eh_cxa.specs.declared.globals.CxaFault.{CxaFault}
use Rattle.eh_cxa.specs.declared.globals.CxaFault.TheVariants as fault
use Rattle.eh_phase.specs.Frames.{entry_contents_at}
use Rattle.eh_phase.specs.declared.phase1.Barrier.{Barrier}
use Rattle.eh_phase.specs.declared.phase1.Found.{Found}
use Rattle.eh_phase.specs.declared.phase1.Found.TheVariants as found
use Rattle.eh_phase.specs.declared.phase2.Entered.{Entered}
use Rattle.eh_phase.specs.declared.phase2.Entered.TheVariants as enters
use Rattle.eh_phase.specs.declared.verdict.Thrown.{Thrown}
use Rattle.eh_trace.specs.declared.event.EventKind.{EventKind}
use Rattle.eh_trace.specs.declared.event.EventKind.TheVariants as event
use Rattle.eh_types.specs.Graph.{row_of}
use Rattle.thumb_isa.specs.declared.instr.Instr.{Instr}
use Rattle.thumb_isa.specs.declared.instr.Instr.TheVariants.{Svc}
use Rattle.thumb_isa.specs.declared.instr.Decoded.{Decoded}
use Rattle.thumb_isa.specs.declared.instr.Decoded.TheVariants.{Is, Undefined, Unpredictable, NotInProfile}
use Rattle.thumb_isa.specs.Rows.{Row, fits_row, rows, late_rows, first_fit, decode_result, late_decode_result, decode_result_for}
use Rattle.thumb_isa.specs.declared.profile.Profile.{Profile}
use Rattle.thumb_isa.specs.declared.profile.Profile.TheVariants.{One, Two}
use Rattle.thumb_ahead.specs.Ahead.{branches_some}
use Rattle.thumb_core.specs.Outcome.{Outcome as Stepping}
use Rattle.thumb_core.specs.Step.{step_for, instr_for, instr_of, instr_of_first, instr_of_second}
use Rattle.thumb_core.specs.declared.regs.TheConstants.{SP}
use Rattle.thumb_core.specs.declared.regs.CoreTrap.{CoreTrap}
use Rattle.thumb_core.specs.declared.regs.CoreTrap.TheVariants as core
use Rattle.thumb_core.specs.declared.regs.Regs.{Regs}
use Rattle.thumb_core.specs.declared.regs.Stepped.{Stepped}
use Rattle.thumb_core.specs.declared.regs.Stepped.TheVariants.{Done, Call, Return, Gate, Trap}
use Rattle.thumb_core.specs.declared.ends.TrapKind.{TrapKind}
use Rattle.thumb_core.specs.declared.ends.TrapKind.TheVariants as kind
use Rattle.thumb_core.specs.declared.ends.End.{End}
use Rattle.thumb_core.specs.declared.ends.End.TheVariants as the_end
use Rattle.eh_gates.specs.declared.gates.TheConstants.{ALLOCATE_GATE, FREE_GATE, THROW_GATE, BEGIN_CATCH_GATE, END_CATCH_GATE, RETHROW_GATE, END_CLEANUP_GATE, UNEXPECTED_GATE, TERMINATE_GATE, UNCAUGHT_GATE}
use Rattle.eh_gates.specs.declared.state.Turned.TheVariants.{Went, Ended}
use Rattle.eh_gates.specs.CallGates.{fault_end}
use Rattle.eh_gates.specs.State.{Tables}
use Rattle.eh_gates.specs.Throwing.{barrier_in, rethrow_end, throw_event}
use Rattle.sim_machines.specs.Machine.{sp_end, fell_off, gate_goes_on, is_raised, leaves_cleanup}
use Rattle.sim_machines.specs.Program.{Program, program_tables, profile_in}
use Rattle.sim_machines.specs.Activations.{Caller, Activation, InProgress, Recorded, reg_in, memory_of, lists_of, cleanups_in, heads, words_in, with_lists}
use Rattle.sim_machines.specs.ActivationMachine as acts
use Rattle.eh_threads.specs.declared.starting.TheConstants.{START_GATE}
use Rattle.eh_threads.specs.Ending.{is_start_gate}

-- ---- ends that ask for a start

abbrev pub asks : End → Bool
asks (the_end.Exit number) = false
asks (the_end.Terminate cause) = false
asks (the_end.Trap kind value pc) = is_start_gate kind value
asks the_end.Budget = false
asks the_end.ReadFault = false
asks the_end.WriteFault = false

abbrev Lacks : Option End → Type 0
Lacks None = Unit {0}
Lacks (Some end) = asks end ≡ false

either : {A : Type 0} (P : A → Type 0) (b : Bool) (x y : A) → P x → P y → P (cond b x y)
either P true x y p q = p
either P false x y p q = q

first_lacks : (a b : Option End) → Lacks a → Lacks b → Lacks (option_or a b)
first_lacks None b p q = q
first_lacks (Some end) b p q = p

sp_lacks : (lowers : Bool) (landing : Option ℕ) (low pc old new : ℕ) → Lacks (sp_end lowers landing low pc old new)
sp_lacks lowers landing low pc old new = either Lacks (is_raised lowers old new) _ _ refl (either Lacks (leaves_cleanup landing old new) _ _ refl (either Lacks (nat_lt new low) _ _ refl tt))

fell_lacks : (p : Program) (pc to : ℕ) → Lacks (fell_off p pc to)
fell_lacks p pc to = either Lacks (p.look to).is_function _ _ refl tt

return_lacks : (p : Program) (pc : ℕ) (outer : List Activation) (regs : Regs) → Lacks (acts.return_end p pc outer regs)
return_lacks p pc [] regs = refl
return_lacks p pc (a ∷ more) regs = fell_lacks p pc regs.pc

flow_lacks : (p : Program) (s : Recorded) (branches : Bool) (what : Stepped) (regs : Regs) → Lacks (acts.control_flow_trap_of p s branches what regs)
flow_lacks p s branches Done regs = either Lacks branches _ _ tt (fell_lacks p s.regs.pc regs.pc)
flow_lacks p s branches (Call target ret) regs = either Lacks (p.look target).is_function _ _ tt refl
flow_lacks p s branches (Return to) regs = return_lacks p s.regs.pc s.outer regs
flow_lacks p s branches (Gate number) regs = either Lacks (gate_goes_on number) _ _ (fell_lacks p s.regs.pc regs.pc) tt
flow_lacks p s branches (Trap trap) regs = tt

tests_lack : (p : Program) (s : Recorded) (what : Stepped) (regs : Regs) → Lacks (acts.tests p s what regs)
tests_lack p s what regs =
    first_lacks (sp_end (p.look s.regs.pc).lowers (innermost_in (cleanups_in s.cleanups)) s.home.0 s.regs.pc (reg_in s SP) (slice_index regs.r SP))
    (acts.control_flow_trap_of p s (branches_some (instr_for (profile_in p) (memory_of s) s.regs.pc) s.regs) what regs)
    (sp_lacks (p.look s.regs.pc).lowers (innermost_in (cleanups_in s.cleanups)) s.home.0 s.regs.pc (reg_in s SP) (slice_index regs.r SP)) (flow_lacks p s (branches_some (instr_for (profile_in p) (memory_of s) s.regs.pc) s.regs) what regs)

bus_lacks : (why : BusFault) (pc : ℕ) → asks (trap_end (core.Memory why) pc) ≡ false
bus_lacks (bus.Unmapped a) pc = refl
bus_lacks (bus.Unaligned a) pc = refl
bus_lacks (bus.ReadOnly a) pc = refl
bus_lacks (bus.SavedSlot a) pc = refl
bus_lacks (bus.Protected a) pc = refl
bus_lacks (bus.NotExecutable a) pc = refl

trap_lacks : (trap : CoreTrap) (pc : ℕ) → asks (trap_end trap pc) ≡ false
trap_lacks (core.Undefined first) pc = refl
trap_lacks (core.Unpredictable first) pc = refl
trap_lacks (core.NotInProfile first) pc = refl
trap_lacks (core.EvenTarget target) pc = refl
trap_lacks (core.Memory why) pc = bus_lacks why pc

fault_lacks : (why : CxaFault) (given pc : ℕ) → asks (fault_end why given pc) ≡ false
fault_lacks fault.PoolFull given pc = refl
fault_lacks fault.TooBig given pc = refl
fault_lacks fault.BadObject given pc = refl
fault_lacks fault.BadUcb given pc = refl
fault_lacks fault.CaughtOrder given pc = refl
fault_lacks fault.NoCaught given pc = refl
fault_lacks fault.NoCleanup given pc = refl
fault_lacks fault.CleanupElsewhere given pc = refl

rethrow_lacks : (why : CxaFault) (given pc : ℕ) → asks (rethrow_end why given pc) ≡ false
rethrow_lacks fault.PoolFull given pc = refl
rethrow_lacks fault.TooBig given pc = refl
rethrow_lacks fault.BadObject given pc = refl
rethrow_lacks fault.BadUcb given pc = refl
rethrow_lacks fault.CaughtOrder given pc = refl
rethrow_lacks fault.NoCaught given pc = refl
rethrow_lacks fault.NoCleanup given pc = refl
rethrow_lacks fault.CleanupElsewhere given pc = refl

-- ---- outcomes of gates

never : false ≡ true → ⊥
never e = cc

module _ (s : Recorded) (number : ℕ) where
  abbrev Fine : acts.Outcome → Type 0
  Fine (Went, t) = Unit {0}
  Fine (Ended end, t) = asks end ≡ true → (t ≡ s) × (number ≡ START_GATE)

  lacking : (end : End) (t : Recorded) → asks end ≡ false → asks end ≡ true → (t ≡ s) × (number ≡ START_GATE)
  lacking end t e h = absurd (never (sym e ∙ h))

  entered : (u : Recorded) (xs : List Activation) (blk object : ℕ) (e : Entered) → Fine (acts.enter_landing u xs blk object e)
  entered u xs blk object (enters.Cleanup vrs pad next site) = tt
  entered u xs blk object (enters.Catch vrs pad) = tt
  entered u xs blk object (enters.Spec vrs pad) = tt
  entered u xs blk object enters.Unexpected = λ h. absurd (never h)
  entered u xs blk object (enters.Terminate why) = λ h. absurd (never h)

  throw_to : (g : Tables) (site blk : ℕ) (b : Barrier) (u : Recorded) → Fine (acts.throw_to g site blk b u)
  unfolding acts.throw_to
  throw_to g site blk b u = entered _ _ blk _ _

  from_found : (further : Barrier → Recorded → acts.Outcome) → ((b : Barrier) (u : Recorded) → Fine (further b u)) → (pc : ℕ) (f : Found) (u : Recorded) → Fine (acts.from_barrier further (barrier_in pc f, u))
  from_found further h pc (found.Barrier b) u = h b u
  from_found further h pc (found.Terminate why) u = λ q. absurd (never q)
  from_found further h pc (found.ObjectRead a) u = λ q. absurd (never q)

  sought : (g : Tables) (u : Recorded) (what : EventKind) (thrown : Thrown) (further : Barrier → Recorded → acts.Outcome) → ((b : Barrier) (v : Recorded) → Fine (further b v))
      → Fine (acts.from_barrier further (acts.find_barrier g u what thrown))
  unfolding acts.find_barrier
  sought g u what thrown further h = go (is_some (row_of g.types thrown.ty))
    where
      go : (c : Bool) → Fine (acts.from_barrier further (cond c
          (barrier_in u.regs.pc (acts.phase1_result g u thrown), acts.log_event u (throw_event what (memory_of u) thrown (acts.size_of (lists_of u) (object_slot thrown.object))))
          (Err (the_end.Trap kind.BadType thrown.ty u.regs.pc), u)))
      go true = from_found further h u.regs.pc (acts.phase1_result g u thrown) _
      go false = λ q. absurd (never q)

  refused : (why : CxaFault) (given : ℕ) (u : Recorded) → Fine (acts.refusal_outcome why given u)
  refused why given u = lacking (fault_end why given u.regs.pc) u (fault_lacks why given u.regs.pc)

  throws : (g : Tables) (u : Recorded) (r : Result ℕ CxaFault) → Fine (acts.throw_outcome g u r)
  throws g u (Ok blk) = sought g u event.Throw (acts.gate_thrown u) (λ b t. acts.throw_to g u.regs.pc blk b (acts.flies_first t)) (λ b t. throw_to g u.regs.pc blk b (acts.flies_first t))
  throws g u (Err why) = refused why (reg_in u 0) u

  rethrows : (g : Tables) (u : Recorded) (r : Result ℕ CxaFault) → Fine (acts.rethrow_outcome g u r)
  rethrows g u (Ok blk) =
      sought g u event.Rethrow (acts.slot_thrown (lists_of u) (block_slot blk)) (λ b t. acts.throw_to g u.regs.pc blk b (acts.flies_again t)) (λ b t. throw_to g u.regs.pc blk b (acts.flies_again t))
  rethrows g u (Err why) = lacking (rethrow_end why (heads (lists_of u)).caught u.regs.pc) u (rethrow_lacks why (heads (lists_of u)).caught u.regs.pc)

  goes_on : (g : Tables) (u : Recorded) (c : Cleanup) (from : Caller) (a : Activation) (outer : List Activation) (b : BarrierWords) → Fine (acts.continue_flight g u c from a outer b)
  goes_on g u c from a outer b = entered _ _ (block c.slot) _ _

  resumes_in : (g : Tables) (u : Recorded) (p : InProgress) (more : List InProgress) (xs : List Activation) → Fine (acts.resumes_in g u p more xs)
  resumes_in g u p more [] = refused fault.CleanupElsewhere u.first.caller.sp u
  resumes_in g u p more (a ∷ outer) = either Fine ((u.first.caller.sp == p.cleanup.sp) && (length outer == p.place)) _ _
      (goes_on g (record u { cleanups = more }) p.cleanup u.first.caller a outer (barrier_of (word (memory_of u)) (Some p.cleanup.slot))) (refused fault.CleanupElsewhere u.first.caller.sp u)

  resumes : (g : Tables) (u : Recorded) (ps : List InProgress) → Fine (acts.resume_outcome g u ps)
  resumes g u [] = refused fault.NoCleanup 0 u
  resumes g u (p ∷ more) = either Fine (acts.can_unwind (entry_contents_at g.image u.regs.pc)) _ _ (resumes_in g u p more u.outer) (refused fault.CleanupElsewhere 0 u)

  allocated : (next : ℕ) (new : Recorded) (r : Result ℕ CxaFault) → Fine (acts.allocate_outcome next s new r)
  allocated next new (Ok object) = tt
  allocated next new (Err why) = refused why (reg_in s 0) s

  freed_by : (next : ℕ) (new : Recorded) (r : Result (Unit {0}) CxaFault) → Fine (acts.free_outcome next s new r)
  freed_by next new (Ok done) = tt
  freed_by next new (Err why) = refused why (reg_in s 0) s

  caught : (next : ℕ) (new : Recorded) (r : Result ℕ CxaFault) → Fine (acts.begin_catch_outcome next s new r)
  caught next new (Ok object) = tt
  caught next new (Err why) = refused why (reg_in s 0) s

  dropped : (next : ℕ) (new : Recorded) (r : Result (ℕ × ℕ) CxaFault) → Fine (acts.end_catch_outcome next s new r)
  dropped next new (Ok (object, destructor)) = tt
  dropped next new (Err why) = refused why 0 s

  unknown : Fine (acts.trap_outcome kind.UnknownGate number s)
  unknown h = (refl, eqb-true number START_GATE h)

  gate : (g : Tables) (next : ℕ) → Fine (acts.gate_of g number next s)
  unfolding acts.gate_of
  gate g next =
      let l = lists_of s in
      either Fine (number == ALLOCATE_GATE) _ _ (allocated next (acts.with_new (reg_in s 0) s) (allocate_list l (reg_in s 0)).answer)
      (either Fine (number == FREE_GATE) _ _
      (freed_by next (with_lists (free_list l (object_slot (reg_in s 0))).lists (free_of (words_in l) (object_slot (reg_in s 0))).writes s) (free_list l (object_slot (reg_in s 0))).answer)
      (either Fine (number == THROW_GATE) _ _ (throws g s (acts.first_flight s).answer)
      (either Fine (number == BEGIN_CATCH_GATE) _ _
      (caught next (with_lists (acts.begin_catch s).lists (begin_catch_of (words_in l) (heads l) (reg_in s 0)).writes s) (acts.begin_catch s).answer)
      (either Fine (number == END_CATCH_GATE) _ _ (dropped next (with_lists (end_list l).lists (end_catch_of (words_in l) (heads l)).writes s) (end_list l).answer)
      (either Fine (number == RETHROW_GATE) _ _ (rethrows g s (rethrow_list l).answer)
      (either Fine (number == END_CLEANUP_GATE) _ _ (resumes g s s.cleanups)
      (either Fine (number == UNEXPECTED_GATE) _ _ (λ h. absurd (never h))
      (either Fine (number == TERMINATE_GATE) _ _ (λ h. absurd (never h)) (either Fine (number == UNCAUGHT_GATE) _ _ tt unknown)))))))))

-- ---- events

-- an end that asks for a start comes of the gate, and leaves the state
pub record Asks (p : Program) (s t : Recorded) : Type 0 where
  pub same : t ≡ s
  pub step : (step_for (profile_in p) s.regs (memory_of s)).0 ≡ Gate START_GATE

abbrev asks_in : Event Recorded End → Bool
asks_in (Goes t text left) = false
asks_in (Ends end t) = asks end

module _ (p : Program) (s : Recorded) (input : List ℕ) where
  abbrev Of : Stepped → Event Recorded End → Type 0
  Of what (Goes t text left) = Unit {0}
  Of what (Ends end t) = asks end ≡ true → (t ≡ s) × (what ≡ Gate START_GATE)

  of_outcome : (number : ℕ) (o : acts.Outcome) → Fine s number o → Of (Gate number) (acts.event_of o input)
  of_outcome number (Went, t) h = tt
  of_outcome number (Ended end, t) h = λ q. let w = h q in (w.0, ap (λ (n : ℕ). Gate n) w.1)

  of_low : (number : ℕ) (regs : Regs) → Of (Gate number) (acts.in_state s (gate_event number s.regs regs input))
  of_low number regs =
      let P : Event Regs End → Type 0 = λ e. Of (Gate number) (acts.in_state s e) in
      either P (number == EXIT_GATE) _ _ (λ h. absurd (never h))
      (either P (number == OUTPUT_GATE) _ _ tt (either P (number == INPUT_GATE) _ _ tt (λ h. (refl, ap (λ (n : ℕ). Gate n) (eqb-true number START_GATE h)))))

  of_gate : (number : ℕ) (regs : Regs) → Of (Gate number) (acts.event_at_gate p number s regs input)
  of_gate number regs = either (Of (Gate number)) (nat_lt INPUT_GATE number) _ _ (of_outcome number (acts.gate_of (program_tables p) number regs.pc s) (gate s number (program_tables p) regs.pc)) (of_low number regs)

  of_test : (as_ what : Stepped) (regs : Regs) (m : Memory) (o : Option End) → Lacks o → ((number : ℕ) → what ≡ Gate number → as_ ≡ Gate number) → Of as_ (acts.event_after_pass p s (acts.pass_tests p s what regs m o) input)
  of_test as_ what regs m (Some end) l same = λ h. absurd (never (sym l ∙ h))
  of_test as_ Done regs m None l same = tt
  of_test as_ (Call target ret) regs m None l same = tt
  of_test as_ (Return to) regs m None l same = tt
  of_test as_ (Gate number) regs m None l same = subst (λ (w : Stepped). Of w (acts.event_at_gate p number s regs input)) (sym (same number refl)) (of_gate number regs)
  of_test as_ (Trap trap) regs m None l same = tt

  no_gate : (number : ℕ) → Return s.first.caller.back ≡ Gate number → ⊥
  no_gate number e = cc

  of_step : (o : Stepping) → Of o.0 (acts.event_after_pass p s (acts.pass_step p s o) input)
  of_step (Trap trap, regs, m) = go (acts.pops_back p s)
    where
      go : (o : Option Regs) → Of (Trap trap) (acts.event_after_pass p s (acts.trap_or_return p s trap o) input)
      go None = λ h. absurd (never (sym (trap_lacks trap s.regs.pc) ∙ h))
      go (Some after) =
          of_test (Trap trap) (Return s.first.caller.back) (acts.caller_registers s.first.caller after) (memory_of s) (acts.tests p s (Return s.first.caller.back) (acts.caller_registers s.first.caller after))
          (tests_lack p s (Return s.first.caller.back) (acts.caller_registers s.first.caller after)) (λ number e. absurd (no_gate number e))
  of_step (Done, regs, m) = of_test Done Done regs m (acts.tests p s Done regs) (tests_lack p s Done regs) (λ number e. e)
  of_step (Call target ret, regs, m) = of_test (Call target ret) (Call target ret) regs m (acts.tests p s (Call target ret) regs) (tests_lack p s (Call target ret) regs) (λ number e. e)
  of_step (Return to, regs, m) = of_test (Return to) (Return to) (acts.caller_registers s.first.caller regs) m (acts.tests p s (Return to) (acts.caller_registers s.first.caller regs))
      (tests_lack p s (Return to) (acts.caller_registers s.first.caller regs)) (λ number e. e)
  of_step (Gate number, regs, m) = of_test (Gate number) (Gate number) regs m (acts.tests p s (Gate number) regs) (tests_lack p s (Gate number) regs) (λ n e. e)

  of_check : (b : Bool) → Of (step_for (profile_in p) s.regs (memory_of s)).0 (acts.event_after_pass p s (acts.pass_if_checked p s b) input)
  of_check true = of_step (step_for (profile_in p) s.regs (memory_of s))
  of_check false = λ h. absurd (never h)

  of_event : Of (step_for (profile_in p) s.regs (memory_of s)).0 (acts.recorded_event p s input)
  unfolding acts.recorded_event acts.pass_instruction
  of_event = of_check (p.look s.regs.pc).is_instr

  pub asking : (end : End) (t : Recorded) → acts.recorded_event p s input ≡ Ends end t → asks end ≡ true → Asks p s t
  asking end t e h =
      let w = subst (λ (d : Event Recorded End). Of (step_for (profile_in p) s.regs (memory_of s)).0 d) e of_event h in
      record { same = w.0; step = w.1 }

  -- where the checker reached no instruction the run has fallen off
  pub asking_reached : (kind_ : TrapKind) (value pc : ℕ) (t : Recorded) → acts.recorded_event p s input ≡ Ends (the_end.Trap kind_ value pc) t → is_start_gate kind_ value ≡ true → (p.look s.regs.pc).is_instr ≡ true
  unfolding acts.recorded_event acts.pass_instruction
  asking_reached kind_ value pc t e h = go (p.look s.regs.pc).is_instr refl e
    where
      go : (b : Bool) → (p.look s.regs.pc).is_instr ≡ b → acts.event_after_pass p s (acts.pass_if_checked p s b) input ≡ Ends (the_end.Trap kind_ value pc) t → (p.look s.regs.pc).is_instr ≡ true
      go true is e = is
      go false is e = absurd (never (ap asks_in e ∙ h))

-- ---- SVC has one halfword

is_svc : Instr → Bool
is_svc (Svc number) = true
is_svc i = false

is_short : Decoded → Bool
unfolding is_svc
is_short (Is i size) = (size == 2) || (cond (is_svc i) false true)
is_short Undefined = true
is_short Unpredictable = true
is_short NotInProfile = true

both : (a b : Bool) → (a && b) ≡ true → (a ≡ true) × (b ≡ true)
both true b h = (refl, h)
both false b h = absurd cc

fit_short : (rs : List Row) (first second : ℕ) → list_all (λ row. is_short (row.means first second)) rs ≡ true → is_short (first_fit rs first second) ≡ true
unfolding is_short is_svc
fit_short [] first second h = refl
fit_short (row ∷ more) first second h =
    let two = both (is_short (row.means first second)) (list_all (λ row. is_short (row.means first second)) more) h in
    either (λ (d : Decoded). is_short d ≡ true) (fits_row row first second) (row.means first second) (first_fit more first second) two.0 (fit_short more first second two.1)

decoded_short : (profile : Profile) (first second : ℕ) → is_short (decode_result_for profile first second) ≡ true
unfolding decode_result late_decode_result is_short is_svc
decoded_short One first second = fit_short rows first second refl
decoded_short Two first second = fit_short (late_rows ++ rows) first second refl

short_size : (d : Decoded) (number size : ℕ) → is_short d ≡ true → instr_of d ≡ Some (Svc number, size) → size ≡ 2
unfolding is_short is_svc
short_size (Is i n) number size h e = eqb-true size 2 (svc i n (same_Some _ _ e) h)
  where
    svc : (i : Instr) (n : ℕ) → ◌≡◌ {A = Instr × ℕ} (i, n) (Svc number, size) → ((n == 2) || (cond (is_svc i) false true)) ≡ true → (size == 2) ≡ true
    svc i n q h = go (size == 2) (subst (λ (y : Instr × ℕ). ((y.1 == 2) || (cond (is_svc y.0) false true)) ≡ true) q h)
      where
        go : (b : Bool) → (b || false) ≡ true → b ≡ true
        go true h = refl
        go false h = h
short_size Undefined number size h e = absurd cc
short_size Unpredictable number size h e = absurd cc
short_size NotInProfile number size h e = absurd cc

pub svc_size : (profile : Profile) (m : Memory) (a number size : ℕ) → instr_for profile m a ≡ Some (Svc number, size) → size ≡ 2
svc_size profile m a number size e = by_first (fetch m a) e
  where
    none_is : ◌≡◌ {A = Option (Instr × ℕ)} None (Some (Svc number, size)) → ⊥
    none_is e = cc

    by_second : (first : ℕ) (r : Result ℕ BusFault) → instr_of_second profile r first ≡ Some (Svc number, size) → size ≡ 2
    by_second first (Ok second) e = short_size (decode_result_for profile first second) number size (decoded_short profile first second) e
    by_second first (Err why) e = absurd (none_is e)

    by_width : (first : ℕ) (b : Bool) → cond b (instr_of_second profile (fetch m ((a + 2) % 2 ^ 32)) first) (instr_of (decode_result_for profile first 0)) ≡ Some (Svc number, size) → size ≡ 2
    by_width first true e = by_second first _ e
    by_width first false e = short_size (decode_result_for profile first 0) number size (decoded_short profile first 0) e

    by_first : (r : Result ℕ BusFault) → instr_of_first profile r m a ≡ Some (Svc number, size) → size ≡ 2
    by_first (Ok first) e = by_width first (nat_le 0xe800 first) e
    by_first (Err why) e = absurd (none_is e)
