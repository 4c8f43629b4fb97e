-- Where a run goes on after a gate.
use Rattle.std.proofs.Common.{◌≡◌, ◌≢◌, inl, inr, ℕ, ◌≤◌, ◌==◌, nat_lt, Bool, true, false, cond, Option, Some, None, List, slice_index, refl, sym, ap, ◌∙◌, subst, arith}
use Rattle.std.specs.Option.{option_or}
use Rattle.std.proofs.lemmas.Bool.{le-ltb}
use Rattle.run_events.specs.Runs.{Event, Goes, Ends}
use Rattle.eh_bus.specs.Lists.{Has}
use Rattle.eh_cxa.specs.Words.{word}
use Rattle.eh_cxa.specs.Cleanup.{innermost_of}
use Rattle.run_gates.specs.declared.gates.TheConstants.{EXIT_GATE, OUTPUT_GATE, INPUT_GATE}
use Rattle.run_gates.specs.Gates.{gate_event}
use Rattle.thumb_ahead.specs.Ahead.{branches_some}
use Rattle.thumb_ahead.proofs.Stored.{step_is}
use Rattle.thumb_isa.specs.declared.instr.Instr.TheVariants.{Svc}
use Rattle.thumb_core.specs.Registers.{with_next}
use Rattle.thumb_core.specs.Step.{instr_for}
use Rattle.thumb_core.specs.declared.regs.TheConstants.{SP}
use Rattle.thumb_core.specs.declared.regs.Regs.{Regs}
use Rattle.thumb_core.specs.declared.regs.Stepped.TheVariants.{Gate}
use Rattle.thumb_core.specs.declared.ends.TrapKind.TheVariants as kind
use Rattle.thumb_core.specs.declared.ends.End.{End}
use Rattle.thumb_core.specs.declared.ends.End.TheVariants as the_end
use Rattle.eh_gates.specs.declared.state.Turned.TheVariants.{Went, Ended}
use Rattle.eh_gates.specs.State.{State, Outcome, reg}
use Rattle.eh_gates.specs.Gates.{gate_of}
use Rattle.sim_machines.specs.Program.{Program, program_tables, profile_in}
use Rattle.sim_machines.specs.Machine.{sp_end, control_flow_trap, fell_off, gate_goes_on, tests, pass_tests, event_of, in_state, event_at_gate, event_after_pass, machine_event}
use Rattle.eh_gate_laws.proofs.Landings.{AfterIn, after_in}
use Rattle.sim_event_laws.specs.Stack.{Does}
use Rattle.sim_event_laws.specs.GoingOn.{StandsAt, gates_that_go_on, GatesGoOn, GatesFallOff}
use Rattle.sim_event_laws.proofs.Stack.{does_is}
use Rattle.sim_event_laws.proofs.EventEnds.{either}

module _ (p : Program) (s : State) (number next : ℕ) (at : StandsAt p s number next) where
  abbrev after : Regs
  after = with_next at.size s.regs

  pub does : Does p s (Gate number) after s.memory
  does = record { checked = at.checked; step = step_is (profile_in p) s.regs s.memory (Svc number) at.size at.gate; no_trap = λ trap e. absurd (cc) }

  pub there : after.pc ≡ next
  there = let place = at.place in let is_even = at.is_even in let small = at.small in omega arith

  -- ---- it goes on there

  abbrev GoesAt : Event State End → Type 0
  GoesAt (Goes t text left) = t.regs.pc ≡ after.pc
  GoesAt (Ends end t) = Unit {0}

  outcome_at : (o : Outcome) (input : List ℕ) → AfterIn after.pc s o → GoesAt (event_of o input)
  outcome_at (Went, t) input h = h.pc
  outcome_at (Ended end, t) input h = tt

  plain_at : (input : List ℕ) → GoesAt (in_state s (gate_event number s.regs after input))
  plain_at input =
      let P : Event Regs End → Type 0 = λ e. GoesAt (in_state s e) in
      either P (number == EXIT_GATE) _ _ tt (either P (number == OUTPUT_GATE) _ _ refl (either P (number == INPUT_GATE) _ _ refl tt))

  gated_at : (input : List ℕ) → number ≢ 18 → number ≢ 21 → number ≢ 22 → GoesAt (event_at_gate p number s after input)
  gated_at input a b c =
      either GoesAt (nat_lt INPUT_GATE number) _ _ (outcome_at (gate_of (program_tables p) number after.pc s) input (after_in (program_tables p) number after.pc s a b c)) (plain_at input)

  tested_at : (input : List ℕ) → number ≢ 18 → number ≢ 21 → number ≢ 22 → (o : Option End) → GoesAt (event_after_pass p s (pass_tests p s (Gate number) after s.memory o) input)
  tested_at input a b c (Some end) = tt
  tested_at input a b c None = gated_at input a b c

  pub goes_there : (t : State) (input text left : List ℕ) → number ≢ 18 → number ≢ 21 → number ≢ 22 → machine_event p s input ≡ Goes t text left → t.regs.pc ≡ next
  goes_there t input text left a b c e =
      subst (λ (x : Event State End). GoesAt x) (sym (does_is p s input (Gate number) after s.memory does) ∙ e) (tested_at input a b c (tests p s (Gate number) after)) ∙ there

  -- ---- or falls off there

  same_sp : (b : Bool) (o : Option ℕ) (low pc sp : ℕ) → low ≤ sp → sp_end b o low pc sp sp ≡ None
  same_sp true None low pc sp h = rw (le-ltb sp sp (omega arith), le-ltb sp low h) refl
  same_sp true (Some landing) low pc sp h = rw (le-ltb sp sp (omega arith), le-ltb sp low h) refl
  same_sp false None low pc sp h = rw (le-ltb sp low h) refl
  same_sp false (Some landing) low pc sp h = rw (le-ltb sp sp (omega arith), le-ltb sp low h) refl

  falls : (b : Bool) → b ≡ true → (p.look next).is_function ≡ true → cond b (fell_off p s.regs.pc next) None ≡ Some (the_end.Trap kind.FellOff next s.regs.pc)
  falls true e h = rw h refl
  falls false e h = absurd (cc)

  pub falls_there : (input : List ℕ) → gate_goes_on number ≡ true → s.memory.home.0 ≤ reg s 13 → (p.look next).is_function ≡ true
      → machine_event p s input ≡ Ends (the_end.Trap kind.FellOff next s.regs.pc) s
  falls_there input following low starts =
      let flow_trap : Option End = control_flow_trap p (branches_some (instr_for (profile_in p) s.memory s.regs.pc) s.regs) s.regs.pc (Gate number) after in
      let sp : sp_end (p.look s.regs.pc).lowers (innermost_of (word s.memory) s.globals) s.memory.home.0 s.regs.pc (reg s SP) (slice_index after.r SP) ≡ None =
      same_sp (p.look s.regs.pc).lowers (innermost_of (word s.memory) s.globals) s.memory.home.0 s.regs.pc (reg s SP) low
      in
      let flow_traps : flow_trap ≡ Some (the_end.Trap kind.FellOff next s.regs.pc) =
      ap (λ (to : ℕ). cond (gate_goes_on number) (fell_off p s.regs.pc to) None) there ∙ falls (gate_goes_on number) following starts
      in
      let test : tests p s (Gate number) after ≡ Some (the_end.Trap kind.FellOff next s.regs.pc) = ap (λ (o : Option End). option_or o flow_trap) sp ∙ flow_traps in
      does_is p s input (Gate number) after s.memory does ∙ ap (λ (o : Option End). event_after_pass p s (pass_tests p s (Gate number) after s.memory o) input) test

pub go_on : GatesGoOn
go_on p s t input text left number next at a b c e = goes_there p s number next at t input text left a b c e

goes : (number : ℕ) → Has gates_that_go_on number → gate_goes_on number ≡ true
goes number (inl e) = subst (λ (n : ℕ). gate_goes_on n ≡ true) e refl
goes number (inr (inl e)) = subst (λ (n : ℕ). gate_goes_on n ≡ true) e refl
goes number (inr (inr (inl e))) = subst (λ (n : ℕ). gate_goes_on n ≡ true) e refl
goes number (inr (inr (inr (inl e)))) = subst (λ (n : ℕ). gate_goes_on n ≡ true) e refl
goes number (inr (inr (inr (inr (inl e))))) = subst (λ (n : ℕ). gate_goes_on n ≡ true) e refl
goes number (inr (inr (inr (inr (inr (inl e)))))) = subst (λ (n : ℕ). gate_goes_on n ≡ true) e refl
goes number (inr (inr (inr (inr (inr (inr (inl e))))))) = subst (λ (n : ℕ). gate_goes_on n ≡ true) e refl
goes number (inr (inr (inr (inr (inr (inr (inr h))))))) = absurd h

pub fall_off : GatesFallOff
fall_off p s input number next at one low starts = falls_there p s number next at input (goes number one) low starts
