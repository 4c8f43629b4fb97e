-- The gates that are calls on exceptions alone: a new one and its end, a catch and its end, and how many are uncaught
-- (docs/rules/machine.md, "Gates"; the calls: docs/rules/phases-and-exceptions.md). A call that is refused ends the run and leaves the state as it was.
use Rattle.std.specs.Prelude.{ℕ, Result, Ok, Err, slice_set}
use Rattle.eh_bus.specs.Memory.{Memory}
use Rattle.eh_phase.specs.run_gates.Gates.{with_r0}
use Rattle.eh_cxa.specs.Words.{word, wrote, call_result, object_slot}
use Rattle.eh_cxa.specs.Allocate.{allocate_of, free_of}
use Rattle.eh_cxa.specs.Catch.{begin_catch_of, end_catch_of}
use Rattle.eh_cxa.specs.declared.globals.Globals.{Globals}
use Rattle.eh_cxa.specs.declared.globals.CxaFault.{CxaFault}
use Rattle.eh_cxa.specs.declared.globals.CxaFault.TheVariants as fault
use Rattle.thumb_core.specs.declared.regs.Regs.{Regs}
use Rattle.thumb_core.specs.declared.ends.Cause.TheVariants as cause
use Rattle.thumb_core.specs.declared.ends.TrapKind.TheVariants as kind
use Rattle.thumb_core.specs.declared.ends.End.{End}
use Rattle.thumb_core.specs.declared.ends.End.TheVariants as the_end
use Rattle.eh_gates.specs.declared.state.Turned.TheVariants.{Went, Ended}
use Rattle.eh_gates.specs.State.{State, Outcome, at_next, reg}

-- how a refused call ends the run, from the call's argument
abbrev pub fault_end : CxaFault → ℕ → ℕ → End
fault_end fault.PoolFull given pc = the_end.Terminate cause.PoolFull
fault_end fault.TooBig given pc = the_end.Trap kind.TooBig given pc
fault_end fault.BadObject given pc = the_end.Trap kind.BadObject given pc
fault_end fault.BadUcb given pc = the_end.Trap kind.BadUcb given pc
fault_end fault.CaughtOrder given pc = the_end.Trap kind.CaughtOrder given pc
fault_end fault.NoCaught given pc = the_end.Trap kind.NoCaught 0 pc
fault_end fault.NoCleanup given pc = the_end.Trap kind.NoCleanup 0 pc
fault_end fault.CleanupElsewhere given pc = the_end.Trap kind.CleanupElsewhere given pc

abbrev pub refusal_outcome : CxaFault → ℕ → State → Outcome
refusal_outcome why given s = (Ended (fault_end why given s.regs.pc), s)

-- ---- what a call answers goes into r0, and into r1

abbrev pub with_r1 : ℕ → Regs → Regs
with_r1 x regs = record regs { r = slice_set regs.r 1 x }

abbrev pub allocate_outcome : ℕ → State → Result ℕ CxaFault × Memory → Outcome
allocate_outcome next s (Ok object, memory) = (Went, record s { regs = with_r0 object (at_next next s.regs); memory = memory })
allocate_outcome next s (Err why, memory) = refusal_outcome why (reg s 0) s

abbrev pub free_outcome : ℕ → State → Result (Unit {0}) CxaFault × Memory → Outcome
free_outcome next s (Ok done, memory) = (Went, record s { regs = at_next next s.regs; memory = memory })
free_outcome next s (Err why, memory) = refusal_outcome why (reg s 0) s

abbrev pub begin_catch_outcome : ℕ → State → Result ℕ CxaFault × Globals × Memory → Outcome
begin_catch_outcome next s (Ok object, globals, memory) =
    (Went, record s { regs = with_r0 object (at_next next s.regs); globals = globals; memory = memory })
begin_catch_outcome next s (Err why, globals, memory) = refusal_outcome why (reg s 0) s

abbrev pub end_catch_outcome : ℕ → State → Result (ℕ × ℕ) CxaFault × Globals × Memory → Outcome
end_catch_outcome next s (Ok (object, destructor), globals, memory) =
    (Went, record s { regs = with_r1 destructor (with_r0 object (at_next next s.regs)); globals = globals; memory = memory })
end_catch_outcome next s (Err why, globals, memory) = refusal_outcome why 0 s

-- ---- the gates

-- r0 is the object of a new exception of r0 bytes
abbrev pub allocate_gate : ℕ → State → Outcome
allocate_gate next s = allocate_outcome next s (wrote (allocate_of (word s.memory) (reg s 0)) s.memory)

-- the exception whose object is at r0 is given back
abbrev pub free_gate : ℕ → State → Outcome
free_gate next s = free_outcome next s (wrote (free_of (word s.memory) (object_slot (reg s 0))) s.memory)

-- begins the catch of the control block at r0; r0 becomes the address that the handler is given
abbrev pub begin_catch_gate : ℕ → State → Outcome
begin_catch_gate next s = begin_catch_outcome next s (call_result (begin_catch_of (word s.memory) s.globals (reg s 0)) s.memory)

-- ends the handler of the top; r0 and r1 become an object to destroy and its destructor, or zeros
abbrev pub end_catch_gate : ℕ → State → Outcome
end_catch_gate next s = end_catch_outcome next s (call_result (end_catch_of (word s.memory) s.globals) s.memory)

-- r0 is how many exceptions are uncaught
abbrev pub uncaught_gate : ℕ → State → Outcome
uncaught_gate next s = (Went, record s { regs = with_r0 s.globals.uncaught (at_next next s.regs) })
