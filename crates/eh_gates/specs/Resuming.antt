-- A cleanup ends and its throw goes on (IHI 0038, "Phase 2 unwinding"; docs/rules/machine.md, "The end of a cleanup"). In order: no cleanup is
-- in progress, the gate's frame is unwound, the cleanup ends with the sp of that frame's caller, phase 2, and the landing with its event.
use Rattle.std.specs.Prelude.{ℕ, Option, Some, None, Result, Ok, Err, slice_index}
use Rattle.eh_bytecode.specs.declared.frame.Vrs.{Vrs}
use Rattle.eh_cxa.specs.Words.{word, set_slot_words, block_slot, Done}
use Rattle.eh_cxa.specs.Throw.{barrier_of}
use Rattle.eh_cxa.specs.Cleanup.{innermost_of, end_cleanup_of}
use Rattle.eh_cxa.specs.declared.globals.BarrierWords.{BarrierWords}
use Rattle.eh_cxa.specs.declared.globals.CleanupWords.{CleanupWords}
use Rattle.eh_cxa.specs.declared.globals.CxaFault.{CxaFault}
use Rattle.eh_cxa.specs.declared.globals.CxaFault.TheVariants as fault
use Rattle.eh_phase.specs.declared.phase2.Goal.{Goal}
use Rattle.eh_phase.specs.Phases.{phase2}
use Rattle.eh_phase.specs.Frames.{frames_of, caller_at}
use Rattle.eh_phase.specs.Calls.{stack_of}
use Rattle.thumb_core.specs.Registers.{all_of}
use Rattle.thumb_core.specs.declared.regs.TheConstants.{SP}
use Rattle.eh_gates.specs.State.{State, Tables, Outcome}
use Rattle.eh_gates.specs.CallGates.{refusal_outcome}
use Rattle.eh_gates.specs.Landing.{enter_landing}

abbrev pub goal_in : BarrierWords → Goal
goal_in b = record { sp = b.sp; desc = b.desc }

-- phase 2 goes on to the barrier of the control block, from registers, the recorded site and the recorded next descriptor
abbrev pub continue_flight_to : Tables → State → Vrs → CleanupWords → ℕ → BarrierWords → Outcome
continue_flight_to g s vrs w block b = enter_landing s block b.object (phase2 (goal_in b) w.next (frames_of g.image (stack_of s.memory) None w.site vrs.r))

abbrev pub continue_flight : Tables → State → Vrs → Result (ℕ × CleanupWords) CxaFault → Outcome
continue_flight g s vrs (Ok (block, w)) = continue_flight_to g s vrs w block (barrier_of (word s.memory) (block_slot block))
continue_flight g s vrs (Err why) = refusal_outcome why (slice_index vrs.r SP) s

-- the cleanup ends
abbrev pub ends_cleanup : Tables → State → Vrs → Done (Result (ℕ × CleanupWords) CxaFault) → Outcome
ends_cleanup g s vrs d = continue_flight g (record s { globals = d.globals; memory = set_slot_words d.writes s.memory }) vrs d.answer

-- the cleanup ends in the caller of the gate's frame; None if that frame can't be unwound
abbrev pub resumes_in : Tables → State → Option Vrs → Outcome
resumes_in g s None = refusal_outcome fault.CleanupElsewhere 0 s
resumes_in g s (Some vrs) = ends_cleanup g s vrs (end_cleanup_of (word s.memory) s.globals (slice_index vrs.r SP))

abbrev pub resumes : Tables → State → Option ℕ → Outcome
resumes g s None = refusal_outcome fault.NoCleanup 0 s
resumes g s (Some sp) = resumes_in g s (caller_at g.image s.memory.segments s.regs.pc (all_of s.regs))

abbrev pub end_cleanup_gate : Tables → State → Outcome
end_cleanup_gate g s = resumes g s (innermost_of (word s.memory) s.globals)
