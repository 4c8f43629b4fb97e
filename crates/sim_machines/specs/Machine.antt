-- One event of the machine that unwinds, and its runs (docs/rules/machine.md, "An event"). In order: the instruction is a checked one; it is
-- done; sp is checked; where the run goes on is checked; saved words are guarded; the gate is done.
use Rattle.std.specs.Prelude.{ℕ, ◌+◌, ◌*◌, ◌==◌, ◌&&◌, ◌||◌, nat_lt, Bool, true, false, List, [], map, filter, slice_index, Option, Some, None, Result, Ok, Err, if◌then◌else◌}
use Rattle.std.specs.Int.{bit_at}
use Rattle.std.specs.List.{range_with_len}
use Rattle.std.specs.Option.{option_or}
use Rattle.run_events.specs.Runs.{Event, Goes, Ends, Machine}
use Rattle.eh_bus.specs.Memory.{Memory, guard_all, without_guards_below}
use Rattle.eh_cxa.specs.Words.{word}
use Rattle.eh_cxa.specs.Cleanup.{innermost_of}
use Rattle.run_gates.specs.declared.gates.TheConstants.{NO_CALLER, OUTPUT_GATE, INPUT_GATE}
use Rattle.run_gates.specs.Ends.{trap_end, is_fault}
use Rattle.run_gates.specs.Gates.{r0, gate_event, gate_fails}
use Rattle.eh_gates.specs.declared.gates.TheConstants.{ALLOCATE_GATE, FREE_GATE, BEGIN_CATCH_GATE, END_CATCH_GATE, UNCAUGHT_GATE}
use Rattle.eh_gates.specs.declared.state.Turned.TheVariants.{Went, Ended}
use Rattle.eh_gates.specs.State.{State, Outcome, reg}
use Rattle.eh_gates.specs.Gates.{gate_of}
use Rattle.thumb_ahead.specs.Ahead.{branches_some, pushes_some}
use Rattle.thumb_core.specs.Outcome.{Outcome as Stepping}
use Rattle.thumb_core.specs.Step.{step_for, instr_for}
use Rattle.thumb_core.specs.declared.regs.TheConstants.{SP}
use Rattle.thumb_core.specs.declared.regs.Regs.{Regs}
use Rattle.thumb_core.specs.declared.regs.Stepped.{Stepped}
use Rattle.thumb_core.specs.declared.regs.Stepped.TheVariants.{Done, Call, Return, Gate, Trap}
use Rattle.thumb_core.specs.declared.ends.TrapKind.TheVariants as kind
use Rattle.thumb_core.specs.declared.ends.End.{End}
use Rattle.thumb_core.specs.declared.ends.End.TheVariants as the_end
use Rattle.sim_machines.specs.Program.{Program, program_tables, profile_in}

-- ---- the checks of sp

-- sp rises at a lowering place
abbrev pub is_raised : Bool → ℕ → ℕ → Bool
is_raised lowers old new = lowers && nat_lt old new

-- sp rises above the landing sp of the innermost cleanup in progress
abbrev pub leaves_cleanup : Option ℕ → ℕ → ℕ → Bool
leaves_cleanup None old new = false
leaves_cleanup (Some landing) old new = nat_lt old new && nat_lt landing new

-- the end that a new sp gives, if any; the last check is that it stays at or above the start of the running stack
abbrev pub sp_end : Bool → Option ℕ → ℕ → ℕ → ℕ → ℕ → Option End
sp_end lowers landing low pc old new =
    if is_raised lowers old new then Some (the_end.Trap kind.SpRaised new pc)
    else (if leaves_cleanup landing old new then Some (the_end.Trap kind.SpInCleanup new pc)
    else (if nat_lt new low then Some (the_end.Trap kind.StackLimit new pc) else None))

-- ---- the checks of where the run goes on

-- a run that goes on past the end of its function reaches the start of the function that follows
abbrev pub fell_off : Program → ℕ → ℕ → Option End
fell_off p pc to = if (p.look to).is_function then Some (the_end.Trap kind.FellOff to pc) else None

-- the gates after which a run goes on
abbrev pub gate_goes_on : ℕ → Bool
gate_goes_on n =
    n == OUTPUT_GATE || (n == INPUT_GATE || (n == ALLOCATE_GATE || (n == FREE_GATE || (n == BEGIN_CATCH_GATE || (n == END_CATCH_GATE || n == UNCAUGHT_GATE)))))

-- By what was done: an instruction that takes no branch goes on at the next one, and a call at a function's start. A return of the function
-- that nobody called ends the run with r0; any other return goes on after its call.
abbrev pub control_flow_trap : Program → Bool → ℕ → Stepped → Regs → Option End
control_flow_trap p branches pc Done regs = if branches then None else fell_off p pc regs.pc
control_flow_trap p branches pc (Call target ret) regs =
    if (p.look target).is_function then None else Some (the_end.Trap kind.BadCallTarget target pc)
control_flow_trap p branches pc (Return to) regs = if to == NO_CALLER then Some (the_end.Exit (r0 regs)) else fell_off p pc regs.pc
control_flow_trap p branches pc (Gate number) regs = if gate_goes_on number then fell_off p pc regs.pc else None
control_flow_trap p branches pc (Trap trap) regs = None

-- The end by a failed check, first of sp, then of where the run goes on. sp is checked with the landing sp of the innermost cleanup, the
-- start of the running stack, and pc and sp before the instruction.
abbrev pub refusal : Program → Option ℕ × ℕ → ℕ × ℕ → Bool → Stepped → Regs → Option End
refusal p stack at branches what regs = option_or (sp_end (p.look at.0).lowers stack.0 stack.1 at.0 at.1 (slice_index regs.r SP)) (control_flow_trap p branches at.0 what regs)

-- .. for what was done in a state, and the registers after it
abbrev pub tests : Program → State → Stepped → Regs → Option End
tests p s what regs =
    refusal p (innermost_of (word s.memory) s.globals, s.memory.home.0) (s.regs.pc, reg s SP) (branches_some (instr_for (profile_in p) s.memory s.regs.pc) s.regs) what regs

-- ---- guards

-- the addresses of those of `count` words from sp up that the bits of `saves` name
abbrev pub saved_words : ℕ → ℕ → ℕ → List ℕ
saved_words saves count sp = map (λ k. sp + 4 * k) (filter (λ k. bit_at saves k == 1) (range_with_len 0 count))

-- if sp rose, the guarded words below it are released
abbrev pub release_if_raised : ℕ → ℕ → Memory → Memory
release_if_raised old new m = if nat_lt old new then without_guards_below m new else m

-- the words of a push that are saves are guarded
abbrev pub update_guards : ℕ → ℕ → ℕ → ℕ → Memory → Memory
update_guards saves count old new m = release_if_raised old new (guard_all (saved_words saves count new) m)

abbrev pub update_guards_at : Program → State → Regs → Memory → Memory
update_guards_at p s regs m =
    update_guards (p.look s.regs.pc).saves (pushes_some (instr_for (profile_in p) s.memory s.regs.pc)) (reg s SP) (slice_index regs.r SP) m

-- ---- an event before its gate: the end, which leaves the state as it was, or what was done and the new state

abbrev pub PassResult : Type 0
PassResult = Result Stepped End × State

abbrev pub pass_tests : Program → State → Stepped → Regs → Memory → Option End → PassResult
pass_tests p s what regs m (Some end) = (Err end, s)
pass_tests p s what regs m None = (Ok what, record s { regs = regs; memory = update_guards_at p s regs m })

abbrev pub pass_step : Program → State → Stepping → PassResult
pass_step p s (Trap trap, regs, m) = (Err (trap_end trap s.regs.pc), s)
pass_step p s (what, regs, m) = pass_tests p s what regs m (tests p s what regs)

abbrev pub pass_if_checked : Program → State → Bool → PassResult
pass_if_checked p s true = pass_step p s (step_for (profile_in p) s.regs s.memory)
pass_if_checked p s false = (Err (the_end.Trap kind.FellOff s.regs.pc s.regs.pc), s)

unfoldable pub pass_instruction : Program → State → PassResult
pass_instruction p s = pass_if_checked p s (p.look s.regs.pc).is_instr

-- a state with another pc
abbrev pub with_pc_of : State → ℕ → State
with_pc_of s pc = record s { regs = record s.regs { pc = pc } }

-- ---- gates

abbrev pub event_of : Outcome → List ℕ → Event State End
event_of (Went, s) input = Goes s [] input
event_of (Ended end, s) input = Ends end s

-- a gate that every machine has changes only registers
abbrev pub in_state : State → Event Regs End → Event State End
in_state s (Goes regs text left) = Goes (record s { regs = regs }) text left
in_state s (Ends end regs) = Ends end (record s { regs = regs })

-- in the state before its instruction, with the registers after it
abbrev pub event_at_gate : Program → ℕ → State → Regs → List ℕ → Event State End
event_at_gate p number s regs input =
    if nat_lt INPUT_GATE number then event_of (gate_of (program_tables p) number regs.pc s) input
    else in_state s (gate_event number s.regs regs input)

-- ---- one event

abbrev pub event_after_step : Program → State → Stepped → State → List ℕ → Event State End
event_after_step p s (Gate number) t input = event_at_gate p number s t.regs input
event_after_step p s Done t input = Goes t [] input
event_after_step p s (Call target ret) t input = Goes t [] input
event_after_step p s (Return to) t input = Goes t [] input
event_after_step p s (Trap trap) t input = Goes t [] input

abbrev pub event_after_pass : Program → State → PassResult → List ℕ → Event State End
event_after_pass p s (Err end, t) input = Ends end t
event_after_pass p s (Ok what, t) input = event_after_step p s what t input

unfoldable pub machine_event : Program → State → List ℕ → Event State End
machine_event p s input = event_after_pass p s (pass_instruction p s) input

-- ---- faults of the outside: at a gate that reads or writes, if no check fails before it

abbrev pub pass_fails : PassResult → End → Bool
pass_fails (Err why, t) end = false
pass_fails (Ok what, t) end = gate_fails what end

unfoldable pub may_fail : Program → State → End → Bool
may_fail p s end = pass_fails (pass_instruction p s) end

-- ---- runs

abbrev pub machine_of : Program → Machine State End
machine_of p = record { event = machine_event p; spent = the_end.Budget; is_fault = is_fault; may_fail = may_fail p }
