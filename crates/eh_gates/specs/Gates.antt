-- The gates of exceptions by their numbers (docs/rules/machine.md, "Gates").
use Rattle.std.specs.Prelude.{ℕ, ◌==◌, if◌then◌else◌}
use Rattle.thumb_core.specs.declared.ends.Cause.TheVariants as cause
use Rattle.thumb_core.specs.declared.ends.TrapKind.TheVariants as kind
use Rattle.eh_gates.specs.declared.gates.TheConstants.{ALLOCATE_GATE, FREE_GATE, THROW_GATE, BEGIN_CATCH_GATE, END_CATCH_GATE, RETHROW_GATE, END_CLEANUP_GATE, UNEXPECTED_GATE, TERMINATE_GATE, UNCAUGHT_GATE}
use Rattle.eh_gates.specs.State.{State, Tables, Outcome, trap_outcome, terminate_outcome}
use Rattle.eh_gates.specs.CallGates.{allocate_gate, free_gate, begin_catch_gate, end_catch_gate, uncaught_gate}
use Rattle.eh_gates.specs.Throwing.{throw_gate, rethrow_gate}
use Rattle.eh_gates.specs.Resuming.{end_cleanup_gate}

-- what a gate does in the state before its instruction, where the next one is at `next`
unfoldable pub gate_of : Tables → ℕ → ℕ → State → Outcome
gate_of g number next s =
    if number == ALLOCATE_GATE then allocate_gate next s
    else (if number == FREE_GATE then free_gate next s
    else (if number == THROW_GATE then throw_gate g s
    else (if number == BEGIN_CATCH_GATE then begin_catch_gate next s
    else (if number == END_CATCH_GATE then end_catch_gate next s
    else (if number == RETHROW_GATE then rethrow_gate g s
    else (if number == END_CLEANUP_GATE then end_cleanup_gate g s
    else (if number == UNEXPECTED_GATE then terminate_outcome cause.Unexpected s
    else (if number == TERMINATE_GATE then terminate_outcome cause.Called s
    else (if number == UNCAUGHT_GATE then uncaught_gate next s else trap_outcome kind.UnknownGate number s)))))))))
