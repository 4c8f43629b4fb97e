-- What the gates 0, 1 and 2 do.
use Rattle.std.proofs.Common.{◌≡◌, ◌⊎◌, inl, inr, ℕ, ◌%◌, ◌<◌, ◌≤◌, ◌==◌, nat_lt, Bool, true, false, cond, Option, Some, None, List, [], ◌∷◌, slice_index, slice_set, refl, sym, ap, ◌∙◌, arith}
use Rattle.std.specs.Option.{option_or}
use Rattle.std.proofs.lemmas.Bool.{le-ltb, lt-ltb, eqb-true}
use Rattle.run_events.specs.Runs.{Event, Goes, Ends}
use Rattle.eh_cxa.specs.Words.{word}
use Rattle.eh_cxa.specs.Cleanup.{innermost_of}
use Rattle.eh_cxa.specs.ListCalls.{innermost_in}
use Rattle.run_gates.specs.declared.gates.TheConstants.{EXIT_GATE, OUTPUT_GATE, INPUT_GATE}
use Rattle.run_gates.specs.Gates.{gate_event, gate_may_fail, gate_fails}
use Rattle.thumb_ahead.proofs.Stored.{step_is}
use Rattle.thumb_isa.specs.declared.instr.Instr.TheVariants.{Svc}
use Rattle.thumb_isa.specs.declared.profile.Profile.TheVariants.{One}
use Rattle.thumb_core.specs.Outcome.{Outcome as Stepping}
use Rattle.thumb_core.specs.Registers.{with_next}
use Rattle.thumb_core.specs.declared.regs.TheConstants.{SP}
use Rattle.thumb_core.specs.declared.regs.Regs.{Regs}
use Rattle.thumb_core.specs.declared.regs.Stepped.TheVariants.{Gate}
use Rattle.thumb_core.specs.declared.ends.TrapKind.TheVariants as kind
use Rattle.thumb_core.specs.declared.ends.End.{End}
use Rattle.thumb_core.specs.declared.ends.End.TheVariants as the_end
use Rattle.run_images.specs.Start.{State as Raw}
use Rattle.run_flat.specs.Machine.{flat_event, stepped_event, in_memory, may_fail as flat_may_fail}
use Rattle.eh_gates.specs.declared.state.Turned.TheVariants.{Ended}
use Rattle.eh_gates.specs.State.{State, Outcome, reg}
use Rattle.eh_gates.specs.Gates.{gate_of}
use Rattle.sim_machines.specs.Program.{Program, program_tables, profile_in}
use Rattle.sim_machines.specs.Machine.{sp_end, fell_off, gate_goes_on, tests, pass_tests, pass_step, pass_if_checked, pass_instruction, pass_fails, event_of, in_state, event_at_gate, event_after_pass, machine_event, may_fail}
use Rattle.sim_machines.specs.Activations.{Recorded, bytes_of, reg_in, memory_of, cleanups_in}
use Rattle.sim_machines.specs.ActivationMachine as acts
use Rattle.eh_gate_laws.proofs.Refusals.{are_none}
use Rattle.sim_event_laws.specs.GoingOn.{StandsAt}
use Rattle.sim_event_laws.specs.PlainGates.{ComesAt, DoesAsGate, IsNoGate, StandsInCode, PlainGatesAreAsTold, on_at}
use Rattle.sim_event_laws.proofs.Stack.{does_is}
use Rattle.sim_event_laws.proofs.GoingOn.{does, there}

-- ---- an event of the registers

at_zero : (number : ℕ) (old new : Regs) (input : List ℕ) → number ≡ 0 → gate_event number old new input ≡ Ends (the_end.Exit (slice_index new.r 0)) old
at_zero number old new input e = rw e refl

at_one : (number : ℕ) (old new : Regs) (input : List ℕ) → number ≡ 1 → gate_event number old new input ≡ Goes new (slice_index new.r 0 % 256 ∷ []) input
at_one number old new input e = rw e refl

at_two : (number byte : ℕ) (old new : Regs) (rest : List ℕ) → number ≡ 2 → gate_event number old new (byte ∷ rest) ≡ Goes (record new { r = slice_set new.r 0 byte }) [] rest
at_two number byte old new rest e = rw e refl

at_nothing : (number : ℕ) (old new : Regs) → number ≡ 2 → gate_event number old new [] ≡ Goes (record new { r = slice_set new.r 0 0xFFFFFFFF }) [] []
at_nothing number old new e = rw e refl

unless : {A : Type 0} (P : A → Type 0) (b : Bool) (x y : A) → (b ≡ true → ⊥) → P y → P (cond b x y)
unless P true x y never py = absurd (never refl)
unless P false x y never py = py

not_at : (number gate : ℕ) → 3 ≤ number → gate < 3 → (number == gate) ≡ true → ⊥
not_at number gate low high e = let is = eqb-true number gate e in absurd (omega arith)

at_other : (number : ℕ) (old new : Regs) (input : List ℕ) → 3 ≤ number → gate_event number old new input ≡ Ends (the_end.Trap kind.UnknownGate number old.pc) old
at_other number old new input low =
    let P : Event Regs End → Type 0 = λ e. e ≡ Ends (the_end.Trap kind.UnknownGate number old.pc) old in
    unless P (number == EXIT_GATE) _ _ (not_at number 0 low (omega arith)) (
    unless P (number == OUTPUT_GATE) _ _ (not_at number 1 low (omega arith)) (
    unless P (number == INPUT_GATE) _ _ (not_at number 2 low (omega arith)) refl))

comes : (number : ℕ) (end : End) → gate_may_fail number end ≡ true → ComesAt number end
comes number the_end.WriteFault h = eqb-true number 1 h
comes number the_end.ReadFault h = eqb-true number 2 h
comes number (the_end.Exit code) h = absurd (cc)
comes number (the_end.Terminate cause) h = absurd (cc)
comes number (the_end.Trap kind value pc) h = absurd (cc)
comes number the_end.Budget h = absurd (cc)

may_write : (number : ℕ) → number ≡ 1 → gate_may_fail number the_end.WriteFault ≡ true
may_write number e = rw e refl

may_read : (number : ℕ) → number ≡ 2 → gate_may_fail number the_end.ReadFault ≡ true
may_read number e = rw e refl

-- an event in a state, from that of its registers
module _ {S : Type 0} (event : List ℕ → Event S End) (may : End → Bool) (s : S) (with_regs : Regs → S) (old new : Regs) (number next : ℕ) (none : Type 0)
    (lift : Event Regs End → Event S End) (ends : (end : End) → lift (Ends end old) ≡ Ends end s) (goes : (regs : Regs) (text left : List ℕ) → lift (Goes regs text left) ≡ Goes (with_regs regs) text left)
    (after : new ≡ on_at next old) (is : number ≤ 2 → (input : List ℕ) → event input ≡ lift (gate_event number old new input))
    (other : none → (input : List ℕ) → event input ≡ Ends (the_end.Trap kind.UnknownGate number old.pc) s) (fails : (end : End) → may end ≡ gate_may_fail number end) where
  same_r : new.r ≡ old.r
  same_r = ap (λ (r : Regs). r.r) after

  pub as_gate : DoesAsGate event may s with_regs old number next none
  as_gate = record {
    exits = λ e input. is (omega (arith, e)) input ∙ ap lift (at_zero number old new input e) ∙ ends _ ∙ ap (λ (r : List ℕ). Ends (the_end.Exit (slice_index r 0)) s) same_r;
    writes = λ e input.
        is (omega (arith, e)) input ∙ ap lift (at_one number old new input e) ∙ goes new _ input
        ∙ ap (λ (regs : Regs). Goes (with_regs regs) (slice_index regs.r 0 % 256 ∷ []) input) after;
    reads = λ e byte rest.
        is (omega (arith, e)) (byte ∷ rest) ∙ ap lift (at_two number byte old new rest e) ∙ goes _ _ rest
        ∙ ap (λ (regs : Regs). Goes (with_regs (record regs { r = slice_set regs.r 0 byte })) [] rest) after;
    at_end = λ e.
        is (omega (arith, e)) [] ∙ ap lift (at_nothing number old new e) ∙ goes _ _ []
        ∙ ap (λ (regs : Regs). Goes (with_regs (record regs { r = slice_set regs.r 0 0xFFFFFFFF })) [] []) after;
    unknown = other;
    faults = λ end h. comes number end (sym (fails end) ∙ h);
    write_may_fail = λ e. fails the_end.WriteFault ∙ may_write number e;
    read_may_fail = λ e. fails the_end.ReadFault ∙ may_read number e;
  }

-- a gate that lets sp as it is passes the tests
no_sp : (b : Bool) (o : Option ℕ) (low pc sp : ℕ) → low ≤ sp → sp_end b o low pc sp sp ≡ None
no_sp true None low pc sp h = rw (le-ltb sp sp (omega arith), le-ltb sp low h) refl
no_sp true (Some landing) low pc sp h = rw (le-ltb sp sp (omega arith), le-ltb sp low h) refl
no_sp false None low pc sp h = rw (le-ltb sp low h) refl
no_sp false (Some landing) low pc sp h = rw (le-ltb sp sp (omega arith), le-ltb sp low h) refl

no_flow_trap : (p : Program) (b : Bool) (pc to : ℕ) → (p.look to).is_function ≡ false → cond b (fell_off p pc to) None ≡ None
no_flow_trap p true pc to h = rw h refl
no_flow_trap p false pc to h = refl

is_high : (number : ℕ) → 3 ≤ number → nat_lt 2 number ≡ true
is_high number h = lt-ltb 2 number (omega arith)

is_low : (number : ℕ) → number ≤ 2 → nat_lt 2 number ≡ false
is_low number h = le-ltb 2 number h

high : (number : ℕ) → IsNoGate number → 3 ≤ number
high number (inl h) = h.0
high number (inr h) = omega (arith, h)

outside : (number : ℕ) → IsNoGate number → (number < 16) ⊎ (25 < number)
outside number (inl h) = inl h.1
outside number (inr h) = inr h

-- ---- over bytes

module _ (p : Program) (s : State) (number next : ℕ) (at : StandsAt p s number next) (low : s.memory.home.0 ≤ reg s 13) (plain : (p.look next).is_function ≡ false) where
  abbrev after_it : Regs
  after_it = with_next at.size s.regs

  no_test : tests p s (Gate number) after_it ≡ None
  no_test =
      let sp : sp_end (p.look s.regs.pc).lowers (innermost_of (word s.memory) s.globals) s.memory.home.0 s.regs.pc (reg s SP) (slice_index after_it.r SP) ≡ None =
      no_sp (p.look s.regs.pc).lowers (innermost_of (word s.memory) s.globals) s.memory.home.0 s.regs.pc (reg s SP) low in
      let flow_trap : cond (gate_goes_on number) (fell_off p s.regs.pc after_it.pc) None ≡ None =
      no_flow_trap p (gate_goes_on number) s.regs.pc after_it.pc (ap (λ (to : ℕ). (p.look to).is_function) (there p s number next at) ∙ plain) in
      ap (λ (o : Option End). option_or o (cond (gate_goes_on number) (fell_off p s.regs.pc after_it.pc) None)) sp ∙ flow_trap

  is_gated : (input : List ℕ) → machine_event p s input ≡ event_at_gate p number s after_it input
  is_gated input =
      does_is p s input (Gate number) after_it s.memory (does p s number next at)
      ∙ ap (λ (o : Option End). event_after_pass p s (pass_tests p s (Gate number) after_it s.memory o) input) no_test

  is_plain : number ≤ 2 → (input : List ℕ) → machine_event p s input ≡ in_state s (gate_event number s.regs after_it input)
  is_plain h input =
      is_gated input
      ∙ ap (λ (b : Bool). cond b (event_of (gate_of (program_tables p) number after_it.pc s) input) (in_state s (gate_event number s.regs after_it input))) (is_low number h)

  is_unknown : IsNoGate number → (input : List ℕ) → machine_event p s input ≡ Ends (the_end.Trap kind.UnknownGate number s.regs.pc) s
  is_unknown h input =
      is_gated input
      ∙ ap (λ (b : Bool). cond b (event_of (gate_of (program_tables p) number after_it.pc s) input) (in_state s (gate_event number s.regs after_it input))) (is_high number (high number h))
      ∙ ap (λ (o : Outcome). event_of o input) (are_none (program_tables p) number after_it.pc s (outside number h))

  is_passed : pass_instruction p s ≡ pass_tests p s (Gate number) after_it s.memory (tests p s (Gate number) after_it)
  unfolding pass_instruction
  is_passed =
      ap (λ (b : Bool). pass_if_checked p s b) at.checked ∙ ap (λ (o : Stepping). pass_step p s o) (step_is (profile_in p) s.regs s.memory (Svc number) at.size at.gate)

  fails_so : (end : End) → may_fail p s end ≡ gate_may_fail number end
  unfolding may_fail
  fails_so end =
      ap (λ o. pass_fails o end) is_passed ∙ ap (λ (o : Option End). pass_fails (pass_tests p s (Gate number) after_it s.memory o) end) no_test

  pub over_bytes : DoesAsGate (machine_event p s) (may_fail p s) s (λ regs. record s { regs = regs }) s.regs number next (IsNoGate number)
  over_bytes =
      as_gate (machine_event p s) (may_fail p s) s (λ regs. record s { regs = regs }) s.regs after_it number next (IsNoGate number)
      (in_state s) (λ end. refl) (λ regs text left. refl) (ap (λ (pc : ℕ). on_at pc s.regs) (there p s number next at)) is_plain is_unknown fails_so

-- ---- with recorded activations

unknown_in : (p : Program) (number next : ℕ) (s : Recorded) → IsNoGate number → acts.gate_of (program_tables p) number next s ≡ (Ended (the_end.Trap kind.UnknownGate number s.regs.pc), s)
unfolding acts.gate_of
unknown_in p number next s h =
    let P : acts.Outcome → Type 0 = λ o. o ≡ (Ended (the_end.Trap kind.UnknownGate number s.regs.pc), s) in
    unless P (number == 16) _ _ (apart 16 (omega arith) (omega arith)) (
    unless P (number == 17) _ _ (apart 17 (omega arith) (omega arith)) (
    unless P (number == 18) _ _ (apart 18 (omega arith) (omega arith)) (
    unless P (number == 19) _ _ (apart 19 (omega arith) (omega arith)) (
    unless P (number == 20) _ _ (apart 20 (omega arith) (omega arith)) (
    unless P (number == 21) _ _ (apart 21 (omega arith) (omega arith)) (
    unless P (number == 22) _ _ (apart 22 (omega arith) (omega arith)) (
    unless P (number == 23) _ _ (apart 23 (omega arith) (omega arith)) (
    unless P (number == 24) _ _ (apart 24 (omega arith) (omega arith)) (
    unless P (number == 25) _ _ (apart 25 (omega arith) (omega arith)) refl)))))))))
  where
    apart : (gate : ℕ) → 16 ≤ gate → gate ≤ 25 → (number == gate) ≡ true → ⊥
    apart gate low high e = go (eqb-true number gate e) h
      where
        go : number ≡ gate → IsNoGate number → ⊥
        go e (inl h) = omega (arith, e, h.1)
        go e (inr h) = omega (arith, e, h)

module _ (p : Program) (s : Recorded) (number next : ℕ) (at : StandsAt p (bytes_of s) number next) (low : s.home.0 ≤ reg_in s 13) (plain : (p.look next).is_function ≡ false) where
  abbrev after_gate : Regs
  after_gate = with_next at.size s.regs

  there_too : after_gate.pc ≡ next
  there_too = let place = at.place in let is_even = at.is_even in let small = at.small in omega arith

  no_test_too : acts.tests p s (Gate number) after_gate ≡ None
  no_test_too =
      let sp : sp_end (p.look s.regs.pc).lowers (innermost_in (cleanups_in s.cleanups)) s.home.0 s.regs.pc (reg_in s SP) (slice_index after_gate.r SP) ≡ None =
      no_sp (p.look s.regs.pc).lowers (innermost_in (cleanups_in s.cleanups)) s.home.0 s.regs.pc (reg_in s SP) low in
      let flow_trap : cond (gate_goes_on number) (fell_off p s.regs.pc after_gate.pc) None ≡ None =
      no_flow_trap p (gate_goes_on number) s.regs.pc after_gate.pc (ap (λ (to : ℕ). (p.look to).is_function) there_too ∙ plain) in
      ap (λ (o : Option End). option_or o (cond (gate_goes_on number) (fell_off p s.regs.pc after_gate.pc) None)) sp ∙ flow_trap

  passed_too : acts.pass_instruction p s ≡ acts.pass_tests p s (Gate number) after_gate (memory_of s) None
  unfolding acts.pass_instruction
  passed_too =
      ap (λ (b : Bool). acts.pass_if_checked p s b) at.checked ∙ ap (λ (o : Stepping). acts.pass_step p s o) (step_is (profile_in p) s.regs (memory_of s) (Svc number) at.size at.gate)
      ∙ ap (λ (o : Option End). acts.pass_tests p s (Gate number) after_gate (memory_of s) o) no_test_too

  gated_too : (input : List ℕ) → acts.recorded_event p s input ≡ acts.event_at_gate p number s after_gate input
  unfolding acts.recorded_event
  gated_too input = ap (λ (o : acts.PassResult). acts.event_after_pass p s o input) passed_too

  plain_too : number ≤ 2 → (input : List ℕ) → acts.recorded_event p s input ≡ acts.in_state s (gate_event number s.regs after_gate input)
  plain_too h input =
      gated_too input
      ∙ ap (λ (b : Bool). cond b (acts.event_of (acts.gate_of (program_tables p) number after_gate.pc s) input) (acts.in_state s (gate_event number s.regs after_gate input))) (is_low number h)

  unknown_too : IsNoGate number → (input : List ℕ) → acts.recorded_event p s input ≡ Ends (the_end.Trap kind.UnknownGate number s.regs.pc) s
  unknown_too h input =
      gated_too input
      ∙ ap (λ (b : Bool). cond b (acts.event_of (acts.gate_of (program_tables p) number after_gate.pc s) input) (acts.in_state s (gate_event number s.regs after_gate input))) (is_high number (high number h))
      ∙ ap (λ (o : acts.Outcome). acts.event_of o input) (unknown_in p number after_gate.pc s h)

  fails_too : (end : End) → acts.recorded_may_fail p s end ≡ gate_may_fail number end
  unfolding acts.recorded_may_fail
  fails_too end = ap (λ (o : acts.PassResult). acts.pass_fails o end) passed_too

  pub with_activations : DoesAsGate (acts.recorded_event p s) (acts.recorded_may_fail p s) s (λ regs. record s { regs = regs }) s.regs number next (IsNoGate number)
  with_activations =
      as_gate (acts.recorded_event p s) (acts.recorded_may_fail p s) s (λ regs. record s { regs = regs }) s.regs after_gate number next (IsNoGate number)
      (acts.in_state s) (λ end. refl) (λ regs text left. refl) (ap (λ (pc : ℕ). on_at pc s.regs) there_too) plain_too unknown_too fails_too

-- ---- raw code

module _ (s : Raw) (number next : ℕ) (at : StandsInCode s number next) where
  abbrev after_code : Regs
  after_code = with_next at.size s.regs

  there_in_code : after_code.pc ≡ next
  there_in_code = let place = at.place in let is_even = at.is_even in let small = at.small in omega arith

  plain_in_code : (input : List ℕ) → flat_event s input ≡ in_memory s.memory s.memory (gate_event number s.regs after_code input)
  unfolding flat_event
  plain_in_code input = ap (λ (o : Stepping). stepped_event o s input) (step_is One s.regs s.memory (Svc number) at.size at.gate)

  fails_in_code : (end : End) → flat_may_fail s end ≡ gate_may_fail number end
  unfolding flat_may_fail
  fails_in_code end = ap (λ (o : Stepping). gate_fails o.0 end) (step_is One s.regs s.memory (Svc number) at.size at.gate)

  pub in_code : DoesAsGate (flat_event s) (flat_may_fail s) s (λ regs. record s { regs = regs }) s.regs number next (3 ≤ number)
  in_code =
      as_gate (flat_event s) (flat_may_fail s) s (λ regs. record s { regs = regs }) s.regs after_code number next (3 ≤ number)
      (in_memory s.memory s.memory) (λ end. refl) (λ regs text left. refl) (ap (λ (pc : ℕ). on_at pc s.regs) there_in_code) (λ h. plain_in_code)
      (λ h input. plain_in_code input ∙ ap (in_memory s.memory s.memory) (at_other number s.regs after_code input h)) fails_in_code

pub as_told : PlainGatesAreAsTold
as_told = record {
  bytes = over_bytes;
  recorded = with_activations;
  raw = in_code;
}
