-- Which events of the machine with recorded activations have no event of an exception: all but those of the gates of exceptions, and of these all
-- that walk no frames.
use Rattle.std.proofs.Common.{◌≡◌, ℕ, ◌==◌, ◌⊎◌, inl, inr, nat_lt, Bool, true, false, cond, List, [], ◌∷◌, Option, Some, None, Result, Ok, Err, refl, sym, ap, ◌∙◌}
use Rattle.std.proofs.lemmas.Bool.{eqb-true}
use Rattle.run_events.specs.Runs.{Event, Goes, Ends}
use Rattle.eh_bus.specs.Memory.{Memory}
use Rattle.eh_cxa.specs.Allocate.{allocate_of, free_of}
use Rattle.eh_cxa.specs.Catch.{begin_catch_of, end_catch_of}
use Rattle.eh_cxa.specs.ListCalls.{allocate_list, free_list, end_list}
use Rattle.eh_cxa.specs.Lists.{Lists}
use Rattle.eh_cxa.specs.Words.{Write, object_slot}
use Rattle.eh_cxa.specs.declared.globals.CxaFault.{CxaFault}
use Rattle.eh_gates.specs.State.{Tables}
use Rattle.eh_gates.specs.declared.gates.TheConstants.{ALLOCATE_GATE, FREE_GATE, THROW_GATE, BEGIN_CATCH_GATE, END_CATCH_GATE, RETHROW_GATE, END_CLEANUP_GATE, UNEXPECTED_GATE, TERMINATE_GATE, UNCAUGHT_GATE}
use Rattle.eh_gates.specs.declared.state.Turned.{Turned}
use Rattle.eh_gates.specs.declared.state.Turned.TheVariants.{Went, Ended}
use Rattle.run_gates.specs.Gates.{gate_event}
use Rattle.run_gates.specs.declared.gates.TheConstants.{INPUT_GATE}
use Rattle.thumb_core.specs.Outcome.{Outcome as Stepping}
use Rattle.thumb_core.specs.Step.{step_for}
use Rattle.thumb_core.specs.declared.ends.End.{End}
use Rattle.thumb_core.specs.declared.regs.Regs.{Regs}
use Rattle.thumb_core.specs.declared.regs.Stepped.{Stepped}
use Rattle.thumb_core.specs.declared.regs.Stepped.TheVariants.{Done, Call, Return, Gate, Trap}
use Rattle.sim_machines.specs.Activations.{Activation, Recorded, reg_in, memory_of, words_in, heads, with_lists, lists_of}
use Rattle.sim_machines.specs.ActivationMachine as machine
use Rattle.sim_machines.specs.Corresponds.{WalksNone}
use Rattle.sim_machines.specs.Program.{Program, program_tables, profile_in}

pub not_went : (end : End) (s t : Recorded) → ◌≡◌ {A = machine.Outcome} (Ended end, s) (Went, t) → ⊥
not_went end s t e = let f : ◌≡◌ {A = Turned} (Ended end) Went = ap (λ (o : machine.Outcome). o.0) e in cc

-- what a gate of exceptions did, where the checker reached its instruction
pub record ByGate (p : Program) (s t : Recorded) : Type 0 where
  pub reached : (p.look s.regs.pc).is_instr ≡ true
  pub number : ℕ
  pub step : (step_for (profile_in p) s.regs (memory_of s)).0 ≡ Gate number
  pub next : ℕ
  pub does : machine.gate_of (program_tables p) number next s ≡ (Went, t)

module _ (p : Program) (s : Recorded) (input : List ℕ) where
  abbrev pub By : Event Recorded End → Type 0
  By (Goes t text left) = (t.events ≡ s.events) ⊎ ByGate p s t
  By (Ends end t) = Unit {0}

  in_state_by : (e : Event Regs End) → By (machine.in_state s e)
  in_state_by (Goes regs text left) = inl refl
  in_state_by (Ends end regs) = tt

  left_same : (acts : List Activation) (u : Recorded) → (machine.with_remaining acts u).events ≡ u.events
  left_same [] u = refl
  left_same (a ∷ more) u = refl

  module _ (reached : (p.look s.regs.pc).is_instr ≡ true) where
    gated_by : (number : ℕ) (regs : Regs) → (step_for (profile_in p) s.regs (memory_of s)).0 ≡ Gate number → By (machine.event_at_gate p number s regs input)
    gated_by number regs step = go (nat_lt INPUT_GATE number)
      where
        by_outcome : (q : machine.Outcome) → machine.gate_of (program_tables p) number regs.pc s ≡ q → By (machine.event_of q input)
        by_outcome (Went, t) e = inr (record { reached = reached; number = number; step = step; next = regs.pc; does = e })
        by_outcome (Ended end, t) e = tt

        go : (b : Bool) → By (cond b (machine.event_of (machine.gate_of (program_tables p) number regs.pc s) input) (machine.in_state s (gate_event number s.regs regs input)))
        go true = by_outcome (machine.gate_of (program_tables p) number regs.pc s) refl
        go false = in_state_by (gate_event number s.regs regs input)

    tested_by : (what : Stepped) → ((number : ℕ) → what ≡ Gate number → (step_for (profile_in p) s.regs (memory_of s)).0 ≡ Gate number) → (regs : Regs) (m : Memory) (o : Option End)
        → By (machine.event_after_pass p s (machine.pass_tests p s what regs m o) input)
    tested_by what h regs m (Some end) = tt
    tested_by Done h regs m None = inl refl
    tested_by (Call target ret) h regs m None = inl refl
    tested_by (Return to) h regs m None = inl (left_same _ _)
    tested_by (Gate number) h regs m None = gated_by number regs (h number refl)
    tested_by (Trap trap) h regs m None = inl refl

    stepped_by : (o : Stepping) → step_for (profile_in p) s.regs (memory_of s) ≡ o → By (machine.event_after_pass p s (machine.pass_step p s o) input)
    stepped_by (Trap trap, regs, m) e = go (machine.pops_back p s)
      where
        go : (o : Option Regs) → By (machine.event_after_pass p s (machine.trap_or_return p s trap o) input)
        go None = tt
        go (Some after) =
            tested_by (Return s.first.caller.back) (λ number f. absurd cc) (machine.caller_registers s.first.caller after) (memory_of s)
            (machine.tests p s (Return s.first.caller.back) (machine.caller_registers s.first.caller after))
    stepped_by (Done, regs, m) e = tested_by Done (λ number f. absurd cc) regs m (machine.tests p s Done regs)
    stepped_by (Call target ret, regs, m) e = tested_by (Call target ret) (λ number f. absurd cc) regs m (machine.tests p s (Call target ret) regs)
    stepped_by (Return to, regs, m) e =
        tested_by (Return to) (λ number f. absurd cc) (machine.registers_after s.first.caller (Return to) regs) m
        (machine.tests p s (Return to) (machine.registers_after s.first.caller (Return to) regs))
    stepped_by (Gate number, regs, m) e =
        tested_by (Gate number) (λ n f. ap (λ (o : Stepping). o.0) e ∙ f) regs m (machine.tests p s (Gate number) regs)

  checked_by : (b : Bool) → (p.look s.regs.pc).is_instr ≡ b → By (machine.event_after_pass p s (machine.pass_if_checked p s b) input)
  checked_by true e = stepped_by e (step_for (profile_in p) s.regs (memory_of s)) refl
  checked_by false e = tt

  pub event_by : By (machine.recorded_event p s input)
  unfolding machine.recorded_event machine.pass_instruction
  event_by = checked_by (p.look s.regs.pc).is_instr refl

-- ---- gates that walk no frames

module _ (s : Recorded) (next : ℕ) where
  abbrev Quiet : machine.Outcome → Type 0
  Quiet (Went, t) = t.events ≡ s.events
  Quiet (Ended end, t) = Unit {0}

  abbrev l : Lists
  l = lists_of s

  allocated : (new : Lists) (ws : List Write) (r : Result ℕ CxaFault) → Quiet (machine.allocate_outcome next s (with_lists new ws s) r)
  allocated new ws (Ok object) = refl
  allocated new ws (Err why) = tt

  freed : (new : Lists) (ws : List Write) (r : Result (Unit {0}) CxaFault) → Quiet (machine.free_outcome next s (with_lists new ws s) r)
  freed new ws (Ok done) = refl
  freed new ws (Err why) = tt

  caught : (new : Lists) (ws : List Write) (r : Result ℕ CxaFault) → Quiet (machine.begin_catch_outcome next s (with_lists new ws s) r)
  caught new ws (Ok object) = refl
  caught new ws (Err why) = tt

  dropped : (new : Lists) (ws : List Write) (r : Result (ℕ × ℕ) CxaFault) → Quiet (machine.end_catch_outcome next s (with_lists new ws s) r)
  dropped new ws (Ok (object, destructor)) = refl
  dropped new ws (Err why) = tt

  choose : (b : Bool) (q q' : machine.Outcome) → (b ≡ true → Quiet q) → Quiet q' → Quiet (cond b q q')
  choose true q q' h k = h refl
  choose false q q' h k = k

  gate_quiet : (g : Tables) (number : ℕ) → WalksNone number → Quiet (machine.gate_of g number next s)
  unfolding machine.gate_of
  gate_quiet g number w =
      choose (number == ALLOCATE_GATE) _ _ (λ e. allocated (allocate_list l (reg_in s 0)).lists (allocate_of (words_in l) (reg_in s 0)).writes (allocate_list l (reg_in s 0)).answer) (
      choose (number == FREE_GATE) _ _ (λ e. freed (free_list l (object_slot (reg_in s 0))).lists (free_of (words_in l) (object_slot (reg_in s 0))).writes (free_list l (object_slot (reg_in s 0))).answer) (
      choose (number == THROW_GATE) _ _ (λ e. absurd (w.throw (eqb-true number THROW_GATE e))) (
      choose (number == BEGIN_CATCH_GATE) _ _ (λ e. caught (machine.begin_catch s).lists (begin_catch_of (words_in l) (heads l) (reg_in s 0)).writes (machine.begin_catch s).answer) (
      choose (number == END_CATCH_GATE) _ _ (λ e. dropped (end_list l).lists (end_catch_of (words_in l) (heads l)).writes (end_list l).answer) (
      choose (number == RETHROW_GATE) _ _ (λ e. absurd (w.rethrow (eqb-true number RETHROW_GATE e))) (
      choose (number == END_CLEANUP_GATE) _ _ (λ e. absurd (w.cleanup (eqb-true number END_CLEANUP_GATE e))) (
      choose (number == UNEXPECTED_GATE) _ _ (λ e. tt) (
      choose (number == TERMINATE_GATE) _ _ (λ e. tt) (
      choose (number == UNCAUGHT_GATE) _ _ (λ e. refl) tt)))))))))

  quiet_is : (q : machine.Outcome) (t : Recorded) → Quiet q → q ≡ (Went, t) → t.events ≡ s.events
  quiet_is (Went, u) t h e = sym (ap (λ (q : machine.Outcome). q.1.events) e) ∙ h
  quiet_is (Ended end, u) t h e = absurd (not_went end u t e)

  pub gate_same : (g : Tables) (number : ℕ) (t : Recorded) → WalksNone number → machine.gate_of g number next s ≡ (Went, t) → t.events ≡ s.events
  gate_same g number t w e = quiet_is (machine.gate_of g number next s) t (gate_quiet g number w) e
