-- A call records what a return gives back.
use Rattle.std.proofs.Common.{◌≡◌, ℕ, Bool, true, false, List, [], ◌∷◌, map, Option, Some, None, refl, sym, ap, subst, ◌∙◌}
use Rattle.run_events.specs.Runs.{Event, Goes}
use Rattle.eh_bus.specs.Memory.{Memory}
use Rattle.thumb_core.specs.Step.{step_for}
use Rattle.thumb_core.specs.declared.regs.Regs.{Regs}
use Rattle.thumb_core.specs.declared.regs.Stepped.TheVariants.{Call}
use Rattle.thumb_core.specs.declared.ends.End.{End}
use Rattle.sim_machines.specs.Program.{Program, profile_in}
use Rattle.sim_machines.specs.Activations.{Caller, Activation, Recorded, memory_of, release_raised}
use Rattle.sim_machines.specs.ActivationMachine.{pass_tests, tests, record_step, pass_if_checked, pass_instruction, pass_step, event_after_pass, recorded_event}
use Rattle.sim_machines.specs.ActivationLaws.{IsCalled, CallsRecord, callers}

pub callers_stay : (home : ℕ × ℕ) (old new : ℕ) (acts : List Activation) → callers (map (λ (a : Activation). release_raised home old new a) acts) ≡ callers acts
callers_stay home old new [] = refl
callers_stay home old new (a ∷ more) = ap (λ (cs : List Caller). a.caller ∷ cs) (callers_stay home old new more)

module _ (p : Program) (s t : Recorded) (input text left : List ℕ) (target ret : ℕ) (regs : Regs) (m : Memory) where
  is_called : IsCalled target ret s (record_step p s (Call target ret) regs m)
  is_called = record {
    recorded = record { function = refl; back = refl; sp = refl; saved = refl; slots = refl };
    outer = ap (λ (cs : List Caller). s.first.caller ∷ cs) (callers_stay s.home _ _ s.outer);
  }

  from_test : (o : Option End) → event_after_pass p s (pass_tests p s (Call target ret) regs m o) input ≡ Goes t text left → IsCalled target ret s t
  from_test (Some end) e = absurd (cc)
  from_test None e =
      let goes : ◌≡◌ {A = Event Recorded End} (Goes (record_step p s (Call target ret) regs m) [] input) (Goes t text left) = e in
      let state : record_step p s (Call target ret) regs m ≡ t = cc in
      subst (λ (x : Recorded). IsCalled target ret s x) state is_called

  from_check : (b : Bool) → step_for (profile_in p) s.regs (memory_of s) ≡ (Call target ret, regs, m) → event_after_pass p s (pass_if_checked p s b) input ≡ Goes t text left → IsCalled target ret s t
  from_check true e f = from_test (tests p s (Call target ret) regs) (sym (ap (λ o. event_after_pass p s (pass_step p s o) input) e) ∙ f)
  from_check false e f = absurd (cc)

pub calls_record : CallsRecord
unfolding recorded_event pass_instruction
calls_record p s t input text left target ret regs m e f = from_check p s t input text left target ret regs m (p.look s.regs.pc).is_instr e f
