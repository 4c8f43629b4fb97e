-- Gates, what a run keeps, and the trace (docs/rules/machine.md, docs/rules/instructions.md, docs/rules/phases-and-exceptions.md).
use Rattle.std.specs.Prelude.{◌≡◌}
use Rattle.run_gates.specs.declared.gates.TheConstants as run_gates-gates
use Rattle.eh_gates.specs.declared.gates.TheConstants as eh_gates-gates
use Rattle.eh_gates.specs.declared.throwing.TheConstants as eh_gates-throwing
use Rattle.thumb_ahead.specs.declared.undo_record.TheConstants as thumb_ahead-kept
use Rattle.eh_trace.specs.declared.event.TheConstants as eh_trace-event
use Rattle.eh_trace.specs.declared.events.TheConstants as eh_trace-events
use Rattle.eh_trace.specs.declared.text.TheConstants as eh_trace-text

-- the numbers that the definitions of run_gates cite
pub record PlainGateNumbers : Type 0 where
  pub exit_gate : run_gates-gates.EXIT_GATE ≡ 0
  pub output_gate : run_gates-gates.OUTPUT_GATE ≡ 1
  pub input_gate : run_gates-gates.INPUT_GATE ≡ 2
  pub end_of_input : run_gates-gates.END_OF_INPUT ≡ 0xFFFFFFFF
  pub no_caller : run_gates-gates.NO_CALLER ≡ 0xFFFFFFFF

-- the numbers that the definitions of eh_gates cite
pub record GateNumbers : Type 0 where
  pub allocate_gate : eh_gates-gates.ALLOCATE_GATE ≡ 16
  pub free_gate : eh_gates-gates.FREE_GATE ≡ 17
  pub throw_gate : eh_gates-gates.THROW_GATE ≡ 18
  pub begin_catch_gate : eh_gates-gates.BEGIN_CATCH_GATE ≡ 19
  pub end_catch_gate : eh_gates-gates.END_CATCH_GATE ≡ 20
  pub rethrow_gate : eh_gates-gates.RETHROW_GATE ≡ 21
  pub end_cleanup_gate : eh_gates-gates.END_CLEANUP_GATE ≡ 22
  pub unexpected_gate : eh_gates-gates.UNEXPECTED_GATE ≡ 23
  pub terminate_gate : eh_gates-gates.TERMINATE_GATE ≡ 24
  pub uncaught_gate : eh_gates-gates.UNCAUGHT_GATE ≡ 25
  pub pointer_at : eh_gates-throwing.POINTER_AT ≡ 44

-- the numbers that the definitions of thumb_ahead cite
pub record KeptNumbers : Type 0 where
  pub most : thumb_ahead-kept.MOST ≡ 16

-- the numbers that the definitions of eh_trace cite
pub record TraceNumbers : Type 0 where
  pub max_bytes : eh_trace-event.MAX_BYTES ≡ 16
  pub max_kept : eh_trace-events.MAX_KEPT ≡ 10000
  pub max_type_name : eh_trace-text.MAX_TYPE_NAME ≡ 64
