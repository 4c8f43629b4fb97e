-- An event at a gate of exceptions is what the gate does, or a trap by a test in front of it.
use Rattle.std.proofs.Common.{◌≡◌, ℕ, ◌⊎◌, inl, inr, nat_lt, Bool, true, false, cond, List, Option, Some, None, refl, sym, subst}
use Rattle.std.specs.Prelude.{slice_index}
use Rattle.std.specs.Option.{option_or}
use Rattle.run_events.specs.Runs.{Event, Goes, Ends}
use Rattle.eh_bus.specs.Memory.{Memory}
use Rattle.eh_cxa.specs.ListCalls.{innermost_in}
use Rattle.eh_gates.specs.declared.state.Turned.TheVariants.{Went, Ended}
use Rattle.run_gates.specs.declared.gates.TheConstants.{INPUT_GATE}
use Rattle.run_gates.specs.Gates.{gate_event}
use Rattle.thumb_core.specs.Outcome.{Outcome as Stepping}
use Rattle.thumb_core.specs.Step.{step_for}
use Rattle.thumb_core.specs.declared.regs.TheConstants.{SP}
use Rattle.thumb_core.specs.declared.regs.Regs.{Regs}
use Rattle.thumb_core.specs.declared.regs.Stepped.TheVariants.{Gate}
use Rattle.thumb_core.specs.declared.ends.Cause.{Cause}
use Rattle.thumb_core.specs.declared.ends.TrapKind.{TrapKind}
use Rattle.thumb_core.specs.declared.ends.TrapKind.TheVariants as kind
use Rattle.thumb_core.specs.declared.ends.End.{End}
use Rattle.thumb_core.specs.declared.ends.End.TheVariants as the_end
use Rattle.sim_machines.specs.Machine.{is_raised, leaves_cleanup, gate_goes_on}
use Rattle.sim_machines.specs.Program.{Program, program_tables, profile_in}
use Rattle.sim_machines.specs.Activations.{Recorded, reg_in, memory_of, cleanups_in}
use Rattle.sim_machines.specs.ActivationMachine as machine

-- an end that terminates nothing
abbrev pub IsTrap : End → Type 0
IsTrap end = (why : Cause) → end ≡ the_end.Terminate why → ⊥

trap_is : (what : TrapKind) (value pc : ℕ) → IsTrap (the_end.Trap what value pc)
trap_is what value pc why e = absurd cc

module _ (p : Program) (s : Recorded) (input : List ℕ) (number : ℕ) (regs : Regs) (m : Memory) (step : step_for (profile_in p) s.regs (memory_of s) ≡ (Gate number, regs, m)) (high : nat_lt INPUT_GATE number ≡ true) where
  abbrev pub ByGate : Event Recorded End → Type 0
  ByGate (Goes t text left) = (machine.gate_of (program_tables p) number regs.pc s ≡ (Went, t)) × (left ≡ input)
  ByGate (Ends end t) = (machine.gate_of (program_tables p) number regs.pc s ≡ (Ended end, t)) ⊎ IsTrap end

  by_outcome : (q : machine.Outcome) → machine.gate_of (program_tables p) number regs.pc s ≡ q → ByGate (machine.event_of q input)
  by_outcome (Went, t) e = (e, refl)
  by_outcome (Ended end, t) e = inl e

  by_number : ByGate (machine.event_at_gate p number s regs input)
  by_number = go (nat_lt INPUT_GATE number) high
    where
      go : (b : Bool) → b ≡ true → ByGate (cond b (machine.event_of (machine.gate_of (program_tables p) number regs.pc s) input) (machine.in_state s (gate_event number s.regs regs input)))
      go true e = by_outcome (machine.gate_of (program_tables p) number regs.pc s) refl
      go false e = absurd cc

  abbrev Out : Option End → Event Recorded End
  Out o = machine.event_after_pass p s (machine.pass_tests p s (Gate number) regs m o) input

  by_tests : ByGate (machine.event_after_pass p s (machine.with_tests p s (Gate number) regs m) input)
  by_tests =
      go (is_raised (p.look s.regs.pc).lowers (reg_in s SP) (slice_index regs.r SP)) (leaves_cleanup (innermost_in (cleanups_in s.cleanups)) (reg_in s SP) (slice_index regs.r SP)) (nat_lt (slice_index regs.r SP) s.home.0) (gate_goes_on number) (p.look regs.pc).is_function
    where
      go : (r a b c d : Bool)
          → ByGate (Out (option_or (cond r (Some (the_end.Trap kind.SpRaised (slice_index regs.r SP) s.regs.pc)) (cond a (Some (the_end.Trap kind.SpInCleanup (slice_index regs.r SP) s.regs.pc)) (cond b (Some (the_end.Trap kind.StackLimit (slice_index regs.r SP) s.regs.pc)) None)))
          (cond c (cond d (Some (the_end.Trap kind.FellOff regs.pc s.regs.pc)) None) None)))
      go true a b c d = inr (trap_is kind.SpRaised (slice_index regs.r SP) s.regs.pc)
      go false true b c d = inr (trap_is kind.SpInCleanup (slice_index regs.r SP) s.regs.pc)
      go false false true c d = inr (trap_is kind.StackLimit (slice_index regs.r SP) s.regs.pc)
      go false false false true true = inr (trap_is kind.FellOff regs.pc s.regs.pc)
      go false false false true false = by_number
      go false false false false d = by_number

  by_check : (b : Bool) → ByGate (machine.event_after_pass p s (machine.pass_if_checked p s b) input)
  by_check true = subst (λ (o : Stepping). ByGate (machine.event_after_pass p s (machine.pass_step p s o) input)) (sym step) by_tests
  by_check false = inr (trap_is kind.FellOff s.regs.pc s.regs.pc)

  pub by_gate : ByGate (machine.recorded_event p s input)
  unfolding machine.recorded_event machine.pass_instruction
  by_gate = by_check (p.look s.regs.pc).is_instr
