-- The heads of both chains over events and runs.
use Rattle.std.proofs.Common.{◌≡◌, ℕ, zero, suc, ◌==◌, nat_lt, Bool, true, false, Option, Some, None, Ok, Err, List, refl, sym, subst}
use Rattle.run_events.specs.Runs.{Event, Goes, Ends, run_after, run}
use Rattle.eh_bus.specs.Memory.{Memory}
use Rattle.run_gates.specs.declared.gates.TheConstants.{EXIT_GATE, OUTPUT_GATE, INPUT_GATE}
use Rattle.run_gates.specs.Gates.{gate_event}
use Rattle.thumb_core.specs.Outcome.{Outcome as Stepping}
use Rattle.thumb_core.specs.Step.{step_for}
use Rattle.thumb_core.specs.declared.regs.Regs.{Regs}
use Rattle.thumb_core.specs.declared.regs.Stepped.{Stepped}
use Rattle.thumb_core.specs.declared.regs.Stepped.TheVariants.{Done, Call, Return, Gate, Trap}
use Rattle.thumb_core.specs.declared.ends.End.{End}
use Rattle.thumb_core.specs.declared.ends.End.TheVariants.{Budget}
use Rattle.eh_gates.specs.declared.state.Turned.TheVariants.{Went, Ended}
use Rattle.eh_gates.specs.State.{State, Outcome}
use Rattle.eh_gates.specs.Gates.{gate_of}
use Rattle.eh_gates.specs.Laws.{AreHeads}
use Rattle.eh_gates.proofs.Heads.{gate_heads}
use Rattle.sim_machines.specs.Program.{Program, program_tables, profile_in}
use Rattle.sim_machines.specs.Machine.{PassResult, tests, pass_tests, pass_step, pass_if_checked, pass_instruction, event_of, in_state, event_at_gate, event_after_step, event_after_pass, machine_event}
use Rattle.sim_event_laws.specs.Heads.{state_after, HeadsStayHeads}
use Rattle.sim_event_laws.proofs.EventEnds.{either}

abbrev OfEvent : Event State End → Type 0
OfEvent e = AreHeads (state_after e).globals

module _ (p : Program) (s : State) (heads : AreHeads s.globals) where
  -- up to the gates globals stay
  abbrev Same : PassResult → Type 0
  Same (r, t) = t.globals ≡ s.globals

  tested_same : (what : Stepped) (regs : Regs) (m : Memory) (o : Option End) → Same (pass_tests p s what regs m o)
  tested_same what regs m (Some end) = refl
  tested_same what regs m None = refl

  stepped_same : (o : Stepping) → Same (pass_step p s o)
  stepped_same (Trap trap, regs, m) = refl
  stepped_same (Done, regs, m) = tested_same Done regs m (tests p s Done regs)
  stepped_same (Call target ret, regs, m) = tested_same (Call target ret) regs m (tests p s (Call target ret) regs)
  stepped_same (Return to, regs, m) = tested_same (Return to) regs m (tests p s (Return to) regs)
  stepped_same (Gate number, regs, m) = tested_same (Gate number) regs m (tests p s (Gate number) regs)

  checked_same : (b : Bool) → Same (pass_if_checked p s b)
  checked_same true = stepped_same (step_for (profile_in p) s.regs s.memory)
  checked_same false = refl

  passed_same : Same (pass_instruction p s)
  unfolding pass_instruction
  passed_same = checked_same (p.look s.regs.pc).is_instr

  -- and then gates keep them
  outcome_heads : (o : Outcome) (input : List ℕ) → AreHeads o.1.globals → OfEvent (event_of o input)
  outcome_heads (Went, t) input h = h
  outcome_heads (Ended end, t) input h = h

  plain_heads : (number : ℕ) (regs : Regs) (input : List ℕ) → OfEvent (in_state s (gate_event number s.regs regs input))
  plain_heads number regs input =
      let P : Event Regs End → Type 0 = λ e. OfEvent (in_state s e) in
      either P (number == EXIT_GATE) _ _ heads (either P (number == OUTPUT_GATE) _ _ heads (either P (number == INPUT_GATE) _ _ heads heads))

  gated_heads : (number : ℕ) (regs : Regs) (input : List ℕ) → OfEvent (event_at_gate p number s regs input)
  gated_heads number regs input =
      either OfEvent (nat_lt INPUT_GATE number) _ _ (outcome_heads (gate_of (program_tables p) number regs.pc s) input (gate_heads (program_tables p) number regs.pc s heads)) (plain_heads number regs input)

  kept : (t : State) → t.globals ≡ s.globals → AreHeads t.globals
  kept t e = subst AreHeads (sym e) heads

  acted_heads : (what : Stepped) (t : State) (input : List ℕ) → t.globals ≡ s.globals → OfEvent (event_after_step p s what t input)
  acted_heads (Gate number) t input e = gated_heads number t.regs input
  acted_heads Done t input e = kept t e
  acted_heads (Call target ret) t input e = kept t e
  acted_heads (Return to) t input e = kept t e
  acted_heads (Trap trap) t input e = kept t e

  onward_heads : (r : PassResult) (input : List ℕ) → Same r → OfEvent (event_after_pass p s r input)
  onward_heads (Err end, t) input e = kept t e
  onward_heads (Ok what, t) input e = acted_heads what t input e

  pub event_heads : (input : List ℕ) → OfEvent (machine_event p s input)
  unfolding machine_event
  event_heads input = onward_heads (pass_instruction p s) input passed_same

run_heads : (p : Program) (n : ℕ) (s : State) (input : List ℕ) → AreHeads s.globals → AreHeads (run (machine_event p) Budget n s input).state.globals
unfolding run
run_heads p zero s input h = h
run_heads p (suc n) s input h = go (machine_event p s input) (event_heads p s h input) (run_heads p n)
  where
    go : (e : Event State End) → OfEvent e → ((t : State) (left : List ℕ) → AreHeads t.globals → AreHeads (run (machine_event p) Budget n t left).state.globals)
        → AreHeads (run_after e (run (machine_event p) Budget n) n input).state.globals
    go (Goes t text left) k further = further t left k
    go (Ends end t) k further = k

pub stay_heads : HeadsStayHeads
stay_heads = record { event = λ p s input h. event_heads p s h input; run = run_heads }
