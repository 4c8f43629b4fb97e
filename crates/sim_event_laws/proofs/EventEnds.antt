-- Ends of one event over bytes, by a test that the ends of gates have.
use Rattle.std.proofs.Common.{◌≡◌, ℕ, ◌==◌, nat_lt, Bool, true, false, cond, Option, Some, None, List, refl}
use Rattle.run_events.specs.Runs.{Event, Goes, Ends}
use Rattle.eh_bus.specs.declared.fault.BusFault.TheVariants as bus
use Rattle.run_gates.specs.declared.gates.TheConstants.{NO_CALLER, EXIT_GATE, OUTPUT_GATE, INPUT_GATE}
use Rattle.run_gates.specs.Ends.{trap_end}
use Rattle.run_gates.specs.Gates.{r0, gate_event}
use Rattle.thumb_core.specs.declared.regs.Regs.{Regs}
use Rattle.thumb_core.specs.declared.regs.CoreTrap.{CoreTrap}
use Rattle.thumb_core.specs.declared.regs.CoreTrap.TheVariants as core
use Rattle.thumb_core.specs.declared.regs.Stepped.{Stepped}
use Rattle.thumb_core.specs.declared.regs.Stepped.TheVariants.{Done, Call, Return, Gate, Trap}
use Rattle.thumb_core.specs.declared.ends.TrapKind.{TrapKind}
use Rattle.thumb_core.specs.declared.ends.TrapKind.TheVariants as kind
use Rattle.thumb_core.specs.declared.ends.End.{End}
use Rattle.thumb_core.specs.declared.ends.End.TheVariants as the_end
use Rattle.eh_gates.specs.declared.state.Turned.TheVariants.{Went, Ended}
use Rattle.eh_gates.specs.State.{State, Outcome}
use Rattle.eh_gates.specs.Gates.{gate_of}
use Rattle.sim_machines.specs.Program.{Program, program_tables}
use Rattle.sim_machines.specs.Machine.{fell_off, gate_goes_on, control_flow_trap, event_of, in_state, event_after_step}
use Rattle.sim_event_laws.proofs.GateEnds.{is_gate_kind, is_gates, GateEnds, gate_is}

pub either : {A : Type 0} (P : A → Type 0) (b : Bool) (x y : A) → P x → P y → P (cond b x y)
either P true x y px py = px
either P false x y px py = py

-- a test that no end of a gate has, no exit, and none that says where the run goes on
module _ (is : End → Bool) (gates : (end : End) → is_gates end ≡ true → is end ≡ false) (exit : (n : ℕ) → is (the_end.Exit n) ≡ false)
    (fell : (value pc : ℕ) → is (the_end.Trap kind.FellOff value pc) ≡ false) (target_is : (value pc : ℕ) → is (the_end.Trap kind.BadCallTarget value pc) ≡ false) where
  abbrev pub Lacks : Option End → Type 0
  Lacks None = Unit {0}
  Lacks (Some end) = is end ≡ false

  abbrev pub OfEvent : Event State End → Type 0
  OfEvent (Goes t text left) = Unit {0}
  OfEvent (Ends end t) = is end ≡ false

  fell_is : (p : Program) (pc to : ℕ) → Lacks (fell_off p pc to)
  fell_is p pc to = either Lacks (p.look to).is_function _ _ (fell to pc) tt

  pub flow_trap_is : (p : Program) (branches : Bool) (pc : ℕ) (what : Stepped) (regs : Regs) → Lacks (control_flow_trap p branches pc what regs)
  flow_trap_is p branches pc Done regs = either Lacks branches _ _ tt (fell_is p pc regs.pc)
  flow_trap_is p branches pc (Call target ret) regs = either Lacks (p.look target).is_function _ _ tt (target_is target pc)
  flow_trap_is p branches pc (Return to) regs = either Lacks (to == NO_CALLER) _ _ (exit (r0 regs)) (fell_is p pc regs.pc)
  flow_trap_is p branches pc (Gate number) regs = either Lacks (gate_goes_on number) _ _ (fell_is p pc regs.pc) tt
  flow_trap_is p branches pc (Trap trap) regs = tt

  outcome_is : (o : Outcome) (input : List ℕ) → GateEnds o → OfEvent (event_of o input)
  outcome_is (Went, t) input h = tt
  outcome_is (Ended end, t) input h = gates end h

  plain_is : (s : State) (number : ℕ) (regs : Regs) (input : List ℕ) → OfEvent (in_state s (gate_event number s.regs regs input))
  plain_is s number regs input =
      let P : Event Regs End → Type 0 = λ e. OfEvent (in_state s e) in
      either P (number == EXIT_GATE) _ _ (exit (r0 regs)) (
      either P (number == OUTPUT_GATE) _ _ tt (either P (number == INPUT_GATE) _ _ tt (gates (the_end.Trap kind.UnknownGate number s.regs.pc) refl)))

  pub acted_is : (p : Program) (s : State) (what : Stepped) (t : State) (input : List ℕ) → OfEvent (event_after_step p s what t input)
  acted_is p s (Gate number) t input =
      either OfEvent (nat_lt INPUT_GATE number) _ _ (outcome_is (gate_of (program_tables p) number t.regs.pc s) input (gate_is (program_tables p) number t.regs.pc s))
      (plain_is s number t.regs input)
  acted_is p s Done t input = tt
  acted_is p s (Call target ret) t input = tt
  acted_is p s (Return to) t input = tt
  acted_is p s (Trap trap) t input = tt

-- ---- tests of one kind

-- SpInCleanup
abbrev pub is_rise : TrapKind → Bool
is_rise kind.Undefined = false
is_rise kind.Unpredictable = false
is_rise kind.NotInProfile = false
is_rise kind.EvenTarget = false
is_rise kind.Unmapped = false
is_rise kind.Unaligned = false
is_rise kind.ReadOnly = false
is_rise kind.SavedSlot = false
is_rise kind.Protected = false
is_rise kind.NotExecutable = false
is_rise kind.FellOff = false
is_rise kind.SpRaised = false
is_rise kind.SpInCleanup = true
is_rise kind.StackLimit = false
is_rise kind.BadCallTarget = false
is_rise kind.UnknownGate = false
is_rise kind.BadObject = false
is_rise kind.BadUcb = false
is_rise kind.TooBig = false
is_rise kind.BadType = false
is_rise kind.CaughtOrder = false
is_rise kind.NoCaught = false
is_rise kind.NoCleanup = false
is_rise kind.CleanupElsewhere = false
is_rise kind.ObjectRead = false

abbrev pub is_sp : End → Bool
is_sp (the_end.Exit number) = false
is_sp (the_end.Terminate why) = false
is_sp (the_end.Trap kind value pc) = is_rise kind
is_sp the_end.Budget = false
is_sp the_end.ReadFault = false
is_sp the_end.WriteFault = false

-- SpRaised
abbrev pub is_raise : TrapKind → Bool
is_raise kind.Undefined = false
is_raise kind.Unpredictable = false
is_raise kind.NotInProfile = false
is_raise kind.EvenTarget = false
is_raise kind.Unmapped = false
is_raise kind.Unaligned = false
is_raise kind.ReadOnly = false
is_raise kind.SavedSlot = false
is_raise kind.Protected = false
is_raise kind.NotExecutable = false
is_raise kind.FellOff = false
is_raise kind.SpRaised = true
is_raise kind.SpInCleanup = false
is_raise kind.StackLimit = false
is_raise kind.BadCallTarget = false
is_raise kind.UnknownGate = false
is_raise kind.BadObject = false
is_raise kind.BadUcb = false
is_raise kind.TooBig = false
is_raise kind.BadType = false
is_raise kind.CaughtOrder = false
is_raise kind.NoCaught = false
is_raise kind.NoCleanup = false
is_raise kind.CleanupElsewhere = false
is_raise kind.ObjectRead = false

abbrev pub is_raised : End → Bool
is_raised (the_end.Exit number) = false
is_raised (the_end.Terminate why) = false
is_raised (the_end.Trap kind value pc) = is_raise kind
is_raised the_end.Budget = false
is_raised the_end.ReadFault = false
is_raised the_end.WriteFault = false

abbrev pub is_budget : End → Bool
is_budget (the_end.Exit number) = false
is_budget (the_end.Terminate why) = false
is_budget (the_end.Trap kind value pc) = false
is_budget the_end.Budget = true
is_budget the_end.ReadFault = false
is_budget the_end.WriteFault = false

no_rise : (k : TrapKind) → is_gate_kind k ≡ true → is_rise k ≡ false
no_rise kind.Undefined h = refl
no_rise kind.Unpredictable h = refl
no_rise kind.NotInProfile h = refl
no_rise kind.EvenTarget h = refl
no_rise kind.Unmapped h = refl
no_rise kind.Unaligned h = refl
no_rise kind.ReadOnly h = refl
no_rise kind.SavedSlot h = refl
no_rise kind.Protected h = refl
no_rise kind.NotExecutable h = refl
no_rise kind.FellOff h = refl
no_rise kind.SpRaised h = refl
no_rise kind.SpInCleanup h = absurd (cc)
no_rise kind.StackLimit h = refl
no_rise kind.BadCallTarget h = refl
no_rise kind.UnknownGate h = refl
no_rise kind.BadObject h = refl
no_rise kind.BadUcb h = refl
no_rise kind.TooBig h = refl
no_rise kind.BadType h = refl
no_rise kind.CaughtOrder h = refl
no_rise kind.NoCaught h = refl
no_rise kind.NoCleanup h = refl
no_rise kind.CleanupElsewhere h = refl
no_rise kind.ObjectRead h = refl

pub gates_sp : (end : End) → is_gates end ≡ true → is_sp end ≡ false
gates_sp (the_end.Exit number) h = refl
gates_sp (the_end.Terminate why) h = refl
gates_sp (the_end.Trap kind value pc) h = no_rise kind h
gates_sp the_end.Budget h = refl
gates_sp the_end.ReadFault h = refl
gates_sp the_end.WriteFault h = refl

no_raise : (k : TrapKind) → is_gate_kind k ≡ true → is_raise k ≡ false
no_raise kind.Undefined h = refl
no_raise kind.Unpredictable h = refl
no_raise kind.NotInProfile h = refl
no_raise kind.EvenTarget h = refl
no_raise kind.Unmapped h = refl
no_raise kind.Unaligned h = refl
no_raise kind.ReadOnly h = refl
no_raise kind.SavedSlot h = refl
no_raise kind.Protected h = refl
no_raise kind.NotExecutable h = refl
no_raise kind.FellOff h = refl
no_raise kind.SpRaised h = absurd (cc)
no_raise kind.SpInCleanup h = refl
no_raise kind.StackLimit h = refl
no_raise kind.BadCallTarget h = refl
no_raise kind.UnknownGate h = refl
no_raise kind.BadObject h = refl
no_raise kind.BadUcb h = refl
no_raise kind.TooBig h = refl
no_raise kind.BadType h = refl
no_raise kind.CaughtOrder h = refl
no_raise kind.NoCaught h = refl
no_raise kind.NoCleanup h = refl
no_raise kind.CleanupElsewhere h = refl
no_raise kind.ObjectRead h = refl

pub gates_raised : (end : End) → is_gates end ≡ true → is_raised end ≡ false
gates_raised (the_end.Exit number) h = refl
gates_raised (the_end.Terminate why) h = refl
gates_raised (the_end.Trap kind value pc) h = no_raise kind h
gates_raised the_end.Budget h = refl
gates_raised the_end.ReadFault h = refl
gates_raised the_end.WriteFault h = refl

pub gates_budget : (end : End) → is_gates end ≡ true → is_budget end ≡ false
gates_budget (the_end.Exit number) h = refl
gates_budget (the_end.Terminate why) h = refl
gates_budget (the_end.Trap kind value pc) h = refl
gates_budget the_end.Budget h = absurd (cc)
gates_budget the_end.ReadFault h = refl
gates_budget the_end.WriteFault h = refl

pub trap_budget : (trap : CoreTrap) (pc : ℕ) → is_budget (trap_end trap pc) ≡ false
trap_budget (core.Undefined first) pc = refl
trap_budget (core.Unpredictable first) pc = refl
trap_budget (core.NotInProfile first) pc = refl
trap_budget (core.EvenTarget target) pc = refl
trap_budget (core.Memory (bus.Unmapped a)) pc = refl
trap_budget (core.Memory (bus.Unaligned a)) pc = refl
trap_budget (core.Memory (bus.ReadOnly a)) pc = refl
trap_budget (core.Memory (bus.SavedSlot a)) pc = refl
trap_budget (core.Memory (bus.Protected a)) pc = refl
trap_budget (core.Memory (bus.NotExecutable a)) pc = refl
