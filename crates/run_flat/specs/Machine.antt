-- Runs of raw code without unwinding: an event is one instruction and, for an SVC or a return, what follows from it
-- (docs/rules/memory.md).
use Rattle.std.specs.Prelude.{ℕ, Bool, List, [], Option}
use Rattle.run_events.specs.Runs.{Event, Goes, Ends, Machine, Ran, Runs, machine_run}
use Rattle.eh_bus.specs.Memory.{Memory}
use Rattle.run_gates.specs.Runs.{RunsGiven}
use Rattle.run_gates.specs.Ends.{is_fault, trap_end}
use Rattle.run_gates.specs.Gates.{gate_event, gate_fails, return_event}
use Rattle.run_images.specs.Start.{State}
use Rattle.thumb_core.specs.Outcome.{Outcome}
use Rattle.thumb_core.specs.Step.{step_of}
use Rattle.thumb_core.specs.declared.regs.Regs.{Regs}
use Rattle.thumb_core.specs.declared.regs.Stepped.{Stepped}
use Rattle.thumb_core.specs.declared.regs.Stepped.TheVariants.{Done, Call, Return, Gate, Trap}
use Rattle.thumb_core.specs.declared.ends.End.{End}
use Rattle.thumb_core.specs.declared.ends.End.TheVariants as the_end

-- ---- one event

-- what follows from an instruction: an event of the registers, given those before it and those after it
abbrev pub event_after_instr : Stepped → Regs → Regs → List ℕ → Event Regs End
event_after_instr Done old new input = Goes new [] input
event_after_instr (Call target ret) old new input = Goes new [] input
event_after_instr (Return to) old new input = return_event to old new input
event_after_instr (Gate number) old new input = gate_event number old new input
event_after_instr (Trap trap) old new input = Ends (trap_end trap old.pc) old

-- the same with the memory: that after the instruction if the run goes on, that before it if it ends
abbrev pub in_memory : Memory → Memory → Event Regs End → Event State End
in_memory old new (Goes regs text left) = Goes (record { regs = regs; memory = new }) text left
in_memory old new (Ends end regs) = Ends end (record { regs = regs; memory = old })

-- given the result of a step, and the registers and memory after it
abbrev pub stepped_event : Outcome → State → List ℕ → Event State End
stepped_event (what, regs, memory) old input = in_memory old.memory memory (event_after_instr what old.regs regs input)

unfoldable pub flat_event : State → List ℕ → Event State End
flat_event state input = stepped_event (step_of state.regs state.memory) state input

-- ---- faults

-- a fault is possible in a state whose instruction is a gate that asks for it
unfoldable pub may_fail : State → End → Bool
may_fail state end = gate_fails (step_of state.regs state.memory).0 end

-- ---- runs

abbrev pub flat_machine : Machine State End
flat_machine = record { event = flat_event; spent = the_end.Budget; is_fault = is_fault; may_fail = may_fail }

abbrev pub flat_run_result : ℕ → State → List ℕ → Ran State End
flat_run_result budget state input = machine_run flat_machine budget state input

-- a run was done, or a front part of it up to a fault, however many events it had to spare
abbrev pub FlatRuns : ℕ → State → List ℕ → End → State → Option (List ℕ) → Option (List ℕ) → Option (List ℕ) → Type 0
FlatRuns budget old input end new left before now = (unspent : ℕ) × Runs flat_machine budget old input end new unspent left before now

-- .. each event on bytes that it was given, which the source need not know
abbrev pub FlatRunsGiven : ℕ → State → End → State → Option (List ℕ) → Option (List ℕ) → Type 0
FlatRunsGiven budget old end new before now = (unspent : ℕ) × RunsGiven flat_machine budget old end new unspent before now
