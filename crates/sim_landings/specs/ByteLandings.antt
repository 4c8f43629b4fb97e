-- Where exceptions land along a run of the machine that unwinds, by its registers, its memory and the heads of its chains.
use Rattle.std.specs.Prelude.{ℕ, zero, suc, ◌==◌, if◌then◌else◌, List, [], Option, Some, None}
use Rattle.std.specs.List.{cons_option}
use Rattle.run_events.specs.Runs.{Event, Goes, Ends}
use Rattle.eh_cxa.specs.Words.{block_slot, object_slot}
use Rattle.eh_gates.specs.State.{State, reg}
use Rattle.eh_gates.specs.declared.gates.TheConstants.{THROW_GATE, RETHROW_GATE, END_CLEANUP_GATE}
use Rattle.thumb_isa.specs.declared.profile.Profile.{Profile}
use Rattle.thumb_core.specs.Step.{step_for}
use Rattle.thumb_core.specs.declared.regs.TheConstants.{SP}
use Rattle.thumb_core.specs.declared.ends.End.{End}
use Rattle.sim_machines.specs.Machine.{machine_event}
use Rattle.sim_machines.specs.Program.{Program, profile_in}
use Rattle.sim_landings.specs.Landings.{Landing, gate_in, landing_by_slots}

abbrev pub byte_gate_at : Profile → State → Option ℕ
byte_gate_at p b = gate_in (step_for p b.regs b.memory).0

-- the exception that a gate throws: that of the object in r0, or the one at the head of the caught chain
abbrev pub byte_slot_thrown_by : State → Option ℕ → Option ℕ
byte_slot_thrown_by b None = None
byte_slot_thrown_by b (Some number) =
    if number == THROW_GATE then object_slot (reg b 0) else (if number == RETHROW_GATE then block_slot b.globals.caught else None)

-- the exception that flies on when a gate ends a cleanup: the one at the head of the chain of cleanups
abbrev pub byte_slot_resumed_by : State → Option ℕ → Option ℕ
byte_slot_resumed_by b None = None
byte_slot_resumed_by b (Some number) = if number == END_CLEANUP_GATE then block_slot b.globals.cleanup else None

abbrev pub byte_landing_by : Profile → State → State → Option Landing
byte_landing_by p b c = landing_by_slots (c.regs.pc, reg c SP) (byte_slot_thrown_by b (byte_gate_at p b)) (byte_slot_resumed_by b (byte_gate_at p b))

abbrev pub byte_landings_from : Profile → State → Event State End → (State → List ℕ → List Landing) → List Landing
byte_landings_from p b (Goes c text left) further = cons_option (byte_landing_by p b c) (further c left)
byte_landings_from p b (Ends end c) further = []

-- the landings of at most so many events, in order
unfoldable pub byte_landings : Program → ℕ → State → List ℕ → List Landing
byte_landings p zero b input = []
byte_landings p (suc n) b input = byte_landings_from (profile_in p) b (machine_event p b input) (byte_landings p n)
