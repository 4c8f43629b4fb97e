-- What an event leaves where it ends the run.
use Rattle.std.proofs.Common.{◌≡◌, ℕ, ◌==◌, nat_lt, Bool, true, false, cond, List, Option, Some, None, Result, Ok, Err, refl, sym, subst}
use Rattle.run_events.specs.Runs.{Event, Goes, Ends}
use Rattle.eh_bus.specs.Memory.{Memory}
use Rattle.run_gates.specs.declared.gates.TheConstants.{EXIT_GATE, OUTPUT_GATE, INPUT_GATE}
use Rattle.run_gates.specs.Gates.{gate_event}
use Rattle.thumb_core.specs.Outcome.{Outcome as Stepping}
use Rattle.thumb_core.specs.Step.{step_for}
use Rattle.thumb_core.specs.declared.regs.Regs.{Regs}
use Rattle.thumb_core.specs.declared.regs.Stepped.{Stepped}
use Rattle.thumb_core.specs.declared.regs.Stepped.TheVariants.{Done, Call, Return, Gate, Trap}
use Rattle.thumb_core.specs.declared.ends.End.{End}
use Rattle.eh_gates.specs.declared.state.Turned.TheVariants.{Went, Ended}
use Rattle.eh_gates.specs.State.{State, Outcome}
use Rattle.eh_gates.specs.Gates.{gate_of}
use Rattle.eh_gates.specs.Laws.{IsLeft}
use Rattle.eh_gates.proofs.Leaving.{Leaves, gate_left}
use Rattle.sim_machines.specs.Program.{Program, program_tables, profile_in}
use Rattle.sim_machines.specs.Machine.{PassResult, tests, pass_tests, pass_step, pass_if_checked, pass_instruction, event_of, in_state, event_at_gate, event_after_step, event_after_pass, machine_event}

abbrev pub EventLeaves : State → Event State End → Type 0
EventLeaves s (Goes t text left) = Unit {0}
EventLeaves s (Ends end t) = IsLeft end s t

-- an end before the gates leaves the state
abbrev Same : State → PassResult → Type 0
Same s (Err end, t) = t ≡ s
Same s (Ok what, t) = Unit {0}

either : {A : Type 0} (P : A → Type 0) (b : Bool) (x y : A) → P x → P y → P (cond b x y)
either P true x y px py = px
either P false x y px py = py

stays : (end : End) (s : State) → IsLeft end s s
stays end s = record { regs = refl; globals = λ h. refl; memory = λ h. refl }

tested_same : (p : Program) (s : State) (what : Stepped) (regs : Regs) (m : Memory) (o : Option End) → Same s (pass_tests p s what regs m o)
tested_same p s what regs m (Some end) = refl
tested_same p s what regs m None = tt

stepped_same : (p : Program) (s : State) (o : Stepping) → Same s (pass_step p s o)
stepped_same p s (Trap trap, regs, m) = refl
stepped_same p s (Done, regs, m) = tested_same p s Done regs m (tests p s Done regs)
stepped_same p s (Call target ret, regs, m) = tested_same p s (Call target ret) regs m (tests p s (Call target ret) regs)
stepped_same p s (Return to, regs, m) = tested_same p s (Return to) regs m (tests p s (Return to) regs)
stepped_same p s (Gate number, regs, m) = tested_same p s (Gate number) regs m (tests p s (Gate number) regs)

checked_same : (p : Program) (s : State) (b : Bool) → Same s (pass_if_checked p s b)
checked_same p s true = stepped_same p s (step_for (profile_in p) s.regs s.memory)
checked_same p s false = refl

passed_same : (p : Program) (s : State) → Same s (pass_instruction p s)
unfolding pass_instruction
passed_same p s = checked_same p s (p.look s.regs.pc).is_instr

outcome_left : (s : State) (o : Outcome) (input : List ℕ) → Leaves s o → EventLeaves s (event_of o input)
outcome_left s (Went, t) input l = tt
outcome_left s (Ended end, t) input l = l

plain_left : (s : State) (number : ℕ) (regs : Regs) (input : List ℕ) → EventLeaves s (in_state s (gate_event number s.regs regs input))
plain_left s number regs input =
    let P : Event Regs End → Type 0 = λ e. EventLeaves s (in_state s e) in
    either P (number == EXIT_GATE) _ _ (stays _ s) (either P (number == OUTPUT_GATE) _ _ tt (either P (number == INPUT_GATE) _ _ tt (stays _ s)))

gated_left : (p : Program) (number : ℕ) (s : State) (regs : Regs) (input : List ℕ) → EventLeaves s (event_at_gate p number s regs input)
gated_left p number s regs input =
    either (EventLeaves s) (nat_lt INPUT_GATE number) _ _ (outcome_left s (gate_of (program_tables p) number regs.pc s) input (gate_left (program_tables p) number regs.pc s))
    (plain_left s number regs input)

acted_left : (p : Program) (s : State) (what : Stepped) (t : State) (input : List ℕ) → EventLeaves s (event_after_step p s what t input)
acted_left p s (Gate number) t input = gated_left p number s t.regs input
acted_left p s Done t input = tt
acted_left p s (Call target ret) t input = tt
acted_left p s (Return to) t input = tt
acted_left p s (Trap trap) t input = tt

onward_left : (p : Program) (s : State) (r : PassResult) (input : List ℕ) → Same s r → EventLeaves s (event_after_pass p s r input)
onward_left p s (Err end, t) input e = subst (λ (u : State). IsLeft end s u) (sym e) (stays end s)
onward_left p s (Ok what, t) input e = acted_left p s what t input

pub event_left : (p : Program) (s : State) (input : List ℕ) → EventLeaves s (machine_event p s input)
unfolding machine_event
event_left p s input = onward_left p s (pass_instruction p s) input (passed_same p s)
