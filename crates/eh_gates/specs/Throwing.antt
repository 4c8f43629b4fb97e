-- A throw and a rethrow (IHI 0038, "Phase 1 unwinding", "Phase 2 unwinding"; docs/rules/machine.md, "A throw"). In order: what is refused,
-- the type, the event, the search, the exception flies, its barrier, phase 2, and the landing with its event.
use Rattle.std.specs.Prelude.{ℕ, ◌+◌, ◌%◌, ◌^◌, min, nat_lt, List, [], ◌∷◌, map, Option, Some, None, is_some, unwrap_or, Result, Ok, Err, if◌then◌else◌}
use Rattle.std.specs.Result.{result_ok}
use Rattle.eh_bus.specs.Memory.{Memory, load}
use Rattle.eh_types.specs.Graph.{row_of}
use Rattle.eh_match.specs.declared.rules.Match.{Match}
use Rattle.eh_match.specs.declared.rules.Match.TheVariants.{Failed, Object, PointerToBase, Unreadable}
use Rattle.eh_cxa.specs.Words.{word, set_slot_words, block_slot, object_slot, Done}
use Rattle.eh_cxa.specs.Allocate.{size_at}
use Rattle.eh_cxa.specs.Throw.{start_throw_of, throw_fault, set_barrier_of, object_and_type}
use Rattle.eh_cxa.specs.Catch.{rethrow_of}
use Rattle.eh_cxa.specs.Cleanup.{innermost_of}
use Rattle.eh_cxa.specs.declared.globals.BarrierWords.{BarrierWords}
use Rattle.eh_cxa.specs.declared.globals.CxaFault.{CxaFault}
use Rattle.eh_cxa.specs.declared.globals.CxaFault.TheVariants as fault
use Rattle.eh_phase.specs.declared.verdict.Thrown.{Thrown}
use Rattle.eh_phase.specs.declared.phase1.Barrier.{Barrier}
use Rattle.eh_phase.specs.declared.phase1.Found.{Found}
use Rattle.eh_phase.specs.declared.phase1.Found.TheVariants as found
use Rattle.eh_phase.specs.Phases.{Frames, phase1, phase2}
use Rattle.eh_phase.specs.Frames.{frames_of}
use Rattle.eh_phase.specs.Calls.{meeting, stack_of}
use Rattle.eh_phase.specs.Laws.{goal_of}
use Rattle.eh_trace.specs.declared.event.Event.{Event}
use Rattle.eh_trace.specs.declared.event.EventKind.{EventKind}
use Rattle.eh_trace.specs.declared.event.EventKind.TheVariants as kind
use Rattle.eh_trace.specs.declared.event.TheConstants.{MAX_BYTES}
use Rattle.thumb_core.specs.Words.{numbers}
use Rattle.thumb_core.specs.Registers.{all_of}
use Rattle.thumb_core.specs.declared.ends.Cause.TheVariants as cause
use Rattle.thumb_core.specs.declared.ends.TrapKind.TheVariants as trap
use Rattle.thumb_core.specs.declared.ends.End.{End}
use Rattle.thumb_core.specs.declared.ends.End.TheVariants as the_end
use Rattle.eh_gates.specs.declared.state.Turned.TheVariants.{Ended}
use Rattle.eh_gates.specs.declared.throwing.TheConstants.{POINTER_AT}
use Rattle.eh_gates.specs.State.{State, Tables, Outcome, reg, trap_outcome, terminate_outcome, log_event}
use Rattle.eh_gates.specs.CallGates.{fault_end, refusal_outcome}
use Rattle.eh_gates.specs.Landing.{enter_landing}

-- ---- the frames of a state

-- the frames from a site and the current registers outwards; those above a limit are left out
abbrev pub frames_from : Tables → State → Option ℕ → ℕ → Frames
frames_from g s limit site = frames_of g.image (stack_of s.memory) limit site (all_of s.regs)

-- at a gate: the innermost frame is the gate's, and those above the innermost cleanup in progress are left out
abbrev pub frames_at_gate : Tables → State → Frames
frames_at_gate g s = frames_from g s (innermost_of (word s.memory) s.globals) s.regs.pc

-- ---- to a barrier

-- what the handler is given: the object, or for a pointer to a base the address of the word of the control block that holds the pointer
abbrev pub handler_object : ℕ → Match → ℕ
handler_object block Failed = 0
handler_object block (Object object) = object
handler_object block (PointerToBase pointer) = (block + POINTER_AT) % 2 ^ 32
handler_object block (Unreadable a) = 0

abbrev pub handler_pointer : Match → ℕ
handler_pointer Failed = 0
handler_pointer (Object object) = 0
handler_pointer (PointerToBase pointer) = pointer
handler_pointer (Unreadable a) = 0

abbrev pub barrier_words : ℕ → Barrier → BarrierWords
barrier_words block b = record { sp = b.sp; object = handler_object block b.hit; desc = b.desc; pointer = handler_pointer b.hit }

abbrev pub with_barrier : State → ℕ → BarrierWords → State
with_barrier s block w = record s { memory = set_slot_words (set_barrier_of (block_slot block) w) s.memory }

-- records the barrier, and runs phase 2 to it from the registers and a site
abbrev pub fly_to_barrier : Tables → State → ℕ → ℕ → Barrier → Outcome
fly_to_barrier g s site block b = enter_landing s block (handler_object block b.hit) (phase2 (goal_of b) 0 (frames_from g s None site))

unfoldable pub throw_to : Tables → State → ℕ → ℕ → Barrier → Outcome
throw_to g s site block b = fly_to_barrier g (with_barrier s block (barrier_words block b)) site block b

-- ---- the search

-- byte k of the first `count` bytes from an address on, as a load gives it
abbrev pub byte_of : Memory → ℕ → ℕ → ℕ → ℕ
byte_of memory at count k = if nat_lt k count then unwrap_or (result_ok (load 1 memory ((at + k) % 2 ^ 32))) 0 else 0

-- the first bytes of an object, at most sixteen, and zeros after them
abbrev pub bytes_of : Memory → ℕ → ℕ → List ℕ
bytes_of memory at count = map (byte_of memory at count) numbers

abbrev pub throw_event : EventKind → Memory → Thrown → ℕ → Event
throw_event what memory thrown size =
    record { kind = what; a = thrown.object; b = thrown.ty; c = 0; bytes = bytes_of memory thrown.object (min size MAX_BYTES); count = min size MAX_BYTES }

-- a search without a barrier ends the run
abbrev pub barrier_in : ℕ → Found → Result Barrier End
barrier_in pc (found.Barrier b) = Ok b
barrier_in pc (found.Terminate why) = Err (the_end.Terminate why)
barrier_in pc (found.ObjectRead a) = Err (the_end.Trap trap.ObjectRead a pc)

abbrev pub phase1_result : Tables → State → Thrown → Found
phase1_result g s thrown = phase1 (meeting g.image g.types s.memory.segments thrown) (frames_at_gate g s)

abbrev pub size_of : State → Thrown → ℕ
size_of s thrown = size_at (word s.memory) (object_slot thrown.object)

-- the barrier, if the graph has the type; the event of the throw is added before the search
unfoldable pub find_barrier : Tables → State → EventKind → Thrown → Result Barrier End × State
find_barrier g s what thrown =
    if is_some (row_of g.types thrown.ty)
    then (barrier_in s.regs.pc (phase1_result g s thrown), log_event s (throw_event what s.memory thrown (size_of s thrown)))
    else (Err (the_end.Trap trap.BadType thrown.ty s.regs.pc), s)

abbrev pub from_barrier : (Barrier → State → Outcome) → Result Barrier End × State → Outcome
from_barrier further (Ok b, s) = further b s
from_barrier further (Err end, s) = (Ended end, s)

-- ---- the exception flies to its barrier

abbrev pub flies_to : Tables → State → ℕ → Barrier → Result ℕ CxaFault → Outcome
flies_to g s given b (Ok block) = throw_to g s s.regs.pc block b
flies_to g s given b (Err why) = refusal_outcome why given s

abbrev pub flies : Tables → State → ℕ → Done (Result ℕ CxaFault) → Barrier → Outcome
flies g s given d b = flies_to g (record s { globals = d.globals; memory = set_slot_words d.writes s.memory }) given b d.answer

-- ---- a throw of the object at r0, of the type at r1, with the destructor at r2

abbrev pub gate_thrown : State → Thrown
gate_thrown s = record { object = reg s 0; ty = reg s 1 }

abbrev pub first_flight : State → Done (Result ℕ CxaFault)
first_flight s = start_throw_of (word s.memory) s.globals (object_slot (reg s 0)) (record { ty = reg s 1; destructor = reg s 2 })

abbrev pub throw_outcome : Tables → State → Result (Unit {0}) CxaFault → Outcome
throw_outcome g s (Err why) = refusal_outcome why (reg s 0) s
throw_outcome g s (Ok may) =
    from_barrier (λ b t. flies g t (reg s 0) (first_flight t) b) (find_barrier g s kind.Throw (gate_thrown s))

abbrev pub throw_gate : Tables → State → Outcome
throw_gate g s = throw_outcome g s (throw_fault (word s.memory) (object_slot (reg s 0)))

-- ---- a rethrow of the top of the caught stack

-- nothing that is caught: the run terminates
abbrev pub rethrow_end : CxaFault → ℕ → ℕ → End
rethrow_end fault.NoCaught given pc = the_end.Terminate cause.NothingCaught
rethrow_end fault.PoolFull given pc = fault_end fault.PoolFull given pc
rethrow_end fault.TooBig given pc = fault_end fault.TooBig given pc
rethrow_end fault.BadObject given pc = fault_end fault.BadObject given pc
rethrow_end fault.BadUcb given pc = fault_end fault.BadUcb given pc
rethrow_end fault.CaughtOrder given pc = fault_end fault.CaughtOrder given pc
rethrow_end fault.NoCleanup given pc = fault_end fault.NoCleanup given pc
rethrow_end fault.CleanupElsewhere given pc = fault_end fault.CleanupElsewhere given pc

-- the object of a control block and its type
abbrev pub thrown_of_pair : ℕ × ℕ → Thrown
thrown_of_pair (object, ty) = record { object = object; ty = ty }

abbrev pub block_thrown : State → ℕ → Thrown
block_thrown s block = thrown_of_pair (object_and_type (word s.memory) (block_slot block))

abbrev pub second_flight : State → Done (Result ℕ CxaFault)
second_flight s = rethrow_of (word s.memory) s.globals

abbrev pub rethrow_outcome : Tables → State → Result ℕ CxaFault → Outcome
rethrow_outcome g s (Err why) = (Ended (rethrow_end why s.globals.caught s.regs.pc), s)
rethrow_outcome g s (Ok block) =
    from_barrier (λ b t. flies g t block (second_flight t) b) (find_barrier g s kind.Rethrow (block_thrown s block))

abbrev pub rethrow_gate : Tables → State → Outcome
rethrow_gate g s = rethrow_outcome g s (second_flight s).answer
