-- The ends that the tests of an event give, and where they end nothing.
use Rattle.std.proofs.Common.{◌≡◌, ◌≢◌, ℕ, ◌<◌, ◌≤◌, Bool, true, false, cond, Option, Some, None, List, [], slice_index, refl, ap, ◌∙◌, arith}
use Rattle.std.specs.Option.{option_or}
use Rattle.std.proofs.lemmas.Bool.{lt-ltb, le-ltb, ne_eqb}
use Rattle.run_events.specs.Runs.{Goes, Ends}
use Rattle.eh_bus.specs.Memory.{Memory}
use Rattle.eh_bus.specs.declared.fault.BusFault.TheVariants as bus
use Rattle.eh_cxa.specs.Words.{word, block_slot}
use Rattle.eh_cxa.specs.Cleanup.{innermost_of, innermost_at}
use Rattle.thumb_ahead.specs.Ahead.{branches_some}
use Rattle.run_gates.specs.Ends.{trap_end}
use Rattle.thumb_core.specs.Outcome.{Outcome as Stepping}
use Rattle.thumb_core.specs.Step.{step_for, instr_for}
use Rattle.thumb_core.specs.declared.regs.TheConstants.{SP}
use Rattle.thumb_core.specs.declared.regs.Regs.{Regs}
use Rattle.thumb_core.specs.declared.regs.CoreTrap.{CoreTrap}
use Rattle.thumb_core.specs.declared.regs.CoreTrap.TheVariants as core
use Rattle.thumb_core.specs.declared.regs.Stepped.{Stepped}
use Rattle.thumb_core.specs.declared.regs.Stepped.TheVariants.{Done, Call, Return, Trap}
use Rattle.thumb_core.specs.declared.ends.TrapKind.TheVariants as kind
use Rattle.thumb_core.specs.declared.ends.End.{End}
use Rattle.thumb_core.specs.declared.ends.End.TheVariants as the_end
use Rattle.eh_gates.specs.State.{State, reg}
use Rattle.sim_machines.specs.Program.{Program, profile_in}
use Rattle.sim_machines.specs.Machine.{sp_end, fell_off, control_flow_trap, tests, pass_tests, pass_step, pass_if_checked, pass_instruction, event_after_step, event_after_pass, update_guards_at, machine_event}
use Rattle.sim_event_laws.specs.Stack.{Does}
use Rattle.sim_event_laws.specs.Tests.{StaysOnStack, branches_at, GoesOnWith, trap_of, TestsEndSo, EventsGoOn}
use Rattle.sim_event_laws.proofs.Stack.{does_is}

module _ (p : Program) (s : State) (input : List ℕ) where
  unreached : (p.look s.regs.pc).is_instr ≡ false → machine_event p s input ≡ Ends (the_end.Trap kind.FellOff s.regs.pc s.regs.pc) s
  unfolding machine_event pass_instruction
  unreached h = ap (λ (b : Bool). event_after_pass p s (pass_if_checked p s b) input) h

  abbrev inner : Option ℕ
  inner = innermost_of (word s.memory) s.globals

  abbrev flow_trap : Stepped → Regs → Option End
  flow_trap what after = control_flow_trap p (branches_some (instr_for (profile_in p) s.memory s.regs.pc) s.regs) s.regs.pc what after

  -- an event ends as its tests do
  ends : (what : Stepped) (after : Regs) (m : Memory) (end : End) → Does p s what after m → tests p s what after ≡ Some end → machine_event p s input ≡ Ends end s
  ends what after m end d is = does_is p s input what after m d ∙ ap (λ (o : Option End). event_after_pass p s (pass_tests p s what after m o) input) is

  falls : (b : Bool) (o : Option ℕ) (low pc old new : ℕ) → new ≤ old → new < low → sp_end b o low pc old new ≡ Some (the_end.Trap kind.StackLimit new pc)
  falls true None low pc old new f h = rw (le-ltb old new f, lt-ltb new low h) refl
  falls true (Some landing) low pc old new f h = rw (le-ltb old new f, lt-ltb new low h) refl
  falls false None low pc old new f h = rw (lt-ltb new low h) refl
  falls false (Some landing) low pc old new f h = rw (le-ltb old new f, lt-ltb new low h) refl

  stays : (b : Bool) (o : Option ℕ) (low pc old new : ℕ) → new ≤ old → low ≤ new → sp_end b o low pc old new ≡ None
  stays true None low pc old new f h = rw (le-ltb old new f, le-ltb new low h) refl
  stays true (Some landing) low pc old new f h = rw (le-ltb old new f, le-ltb new low h) refl
  stays false None low pc old new f h = rw (le-ltb new low h) refl
  stays false (Some landing) low pc old new f h = rw (le-ltb old new f, le-ltb new low h) refl

  low : (what : Stepped) (after : Regs) (m : Memory) → Does p s what after m → slice_index after.r 13 ≤ reg s 13 → slice_index after.r 13 < s.memory.home.0
      → machine_event p s input ≡ Ends (the_end.Trap kind.StackLimit (slice_index after.r 13) s.regs.pc) s
  low what after m d f h =
      ends what after m (the_end.Trap kind.StackLimit (slice_index after.r 13) s.regs.pc) d
      (ap (λ (o : Option End). option_or o (flow_trap what after)) (falls (p.look s.regs.pc).lowers inner s.memory.home.0 s.regs.pc (reg s SP) (slice_index after.r SP) f h))

  nowhere : (target ret : ℕ) (after : Regs) (m : Memory) → Does p s (Call target ret) after m → slice_index after.r 13 ≡ reg s 13 → s.memory.home.0 ≤ reg s 13
      → (p.look target).is_function ≡ false → machine_event p s input ≡ Ends (the_end.Trap kind.BadCallTarget target s.regs.pc) s
  nowhere target ret after m d same high none =
      ends (Call target ret) after m (the_end.Trap kind.BadCallTarget target s.regs.pc) d
      (ap (λ (o : Option End). option_or o (flow_trap (Call target ret) after)) (stays (p.look s.regs.pc).lowers inner s.memory.home.0 s.regs.pc (reg s SP) (slice_index after.r SP) (omega (arith, same)) (omega (arith, same, high)))
      ∙ ap (λ (b : Bool). cond b None (Some (the_end.Trap kind.BadCallTarget target s.regs.pc))) none)

  -- no cleanup is in progress, and this is no lowering place
  no_landing : (b : Bool) (o : Option ℕ) (low pc old new : ℕ) → b ≡ false → o ≡ None → low ≤ new → sp_end b o low pc old new ≡ None
  no_landing true o low pc old new f e h = absurd (cc)
  no_landing false None low pc old new f e h = rw (le-ltb new low h) refl
  no_landing false (Some landing) low pc old new f e h = absurd (cc)

  exits : (after : Regs) (m : Memory) → Does p s (Return 0xFFFFFFFF) after m → (p.look s.regs.pc).lowers ≡ false → block_slot s.globals.cleanup ≡ None → s.memory.home.0 ≤ slice_index after.r 13
      → machine_event p s input ≡ Ends (the_end.Exit (slice_index after.r 0)) s
  exits after m d plain none high =
      ends (Return 0xFFFFFFFF) after m (the_end.Exit (slice_index after.r 0)) d
      (ap (λ (o : Option End). option_or o (flow_trap (Return 0xFFFFFFFF) after))
      (no_landing (p.look s.regs.pc).lowers inner s.memory.home.0 s.regs.pc (reg s SP) (slice_index after.r SP) plain (ap (innermost_at (word s.memory)) none) high))

  back : (to : ℕ) (after : Regs) (m : Memory) → Does p s (Return to) after m → (p.look s.regs.pc).lowers ≡ false → to ≢ 0xFFFFFFFF → block_slot s.globals.cleanup ≡ None → s.memory.home.0 ≤ slice_index after.r 13
      → (p.look after.pc).is_function ≡ true → machine_event p s input ≡ Ends (the_end.Trap kind.FellOff after.pc s.regs.pc) s
  back to after m d plain other none high begins =
      ends (Return to) after m (the_end.Trap kind.FellOff after.pc s.regs.pc) d
      (ap (λ (o : Option End). option_or o (flow_trap (Return to) after))
      (no_landing (p.look s.regs.pc).lowers inner s.memory.home.0 s.regs.pc (reg s SP) (slice_index after.r SP) plain (ap (innermost_at (word s.memory)) none) high)
      ∙ ap (λ (b : Bool). cond b (Some (the_end.Exit (slice_index after.r 0))) (fell_off p s.regs.pc after.pc)) (ne_eqb to 0xFFFFFFFF other)
      ∙ ap (λ (b : Bool). cond b (Some (the_end.Trap kind.FellOff after.pc s.regs.pc)) None) begins)

  -- sp stays on the stack, and the rest is where the run goes on
  by_flow : (what : Stepped) (after : Regs) → StaysOnStack s after → tests p s what after ≡ flow_trap what after
  by_flow what after on = ap (λ (o : Option End). option_or o (flow_trap what after)) (stays (p.look s.regs.pc).lowers inner s.memory.home.0 s.regs.pc (reg s SP) (slice_index after.r SP) on.no_rise on.above)

  past : (after : Regs) (m : Memory) → Does p s Done after m → StaysOnStack s after → branches_at p s ≡ false → (p.look after.pc).is_function ≡ true
      → machine_event p s input ≡ Ends (the_end.Trap kind.FellOff after.pc s.regs.pc) s
  past after m d on straight begins =
      ends Done after m (the_end.Trap kind.FellOff after.pc s.regs.pc) d
      (by_flow Done after on
      ∙ ap (λ (b : Bool). cond b None (fell_off p s.regs.pc after.pc)) straight
      ∙ ap (λ (b : Bool). cond b (Some (the_end.Trap kind.FellOff after.pc s.regs.pc)) None) begins)

  same_trap : (trap : CoreTrap) (pc : ℕ) → trap_end trap pc ≡ trap_of trap pc
  same_trap (core.Undefined first) pc = refl
  same_trap (core.Unpredictable first) pc = refl
  same_trap (core.NotInProfile first) pc = refl
  same_trap (core.EvenTarget target) pc = refl
  same_trap (core.Memory (bus.Unmapped a)) pc = refl
  same_trap (core.Memory (bus.Unaligned a)) pc = refl
  same_trap (core.Memory (bus.ReadOnly a)) pc = refl
  same_trap (core.Memory (bus.SavedSlot a)) pc = refl
  same_trap (core.Memory (bus.Protected a)) pc = refl
  same_trap (core.Memory (bus.NotExecutable a)) pc = refl

  traps : (trap : CoreTrap) (after : Regs) (m : Memory) → (p.look s.regs.pc).is_instr ≡ true → step_for (profile_in p) s.regs s.memory ≡ (Trap trap, after, m)
      → machine_event p s input ≡ Ends (trap_of trap s.regs.pc) s
  unfolding machine_event pass_instruction
  traps trap after m reached step =
      ap (λ (b : Bool). event_after_pass p s (pass_if_checked p s b) input) reached
      ∙ ap (λ (o : Stepping). event_after_pass p s (pass_step p s o) input) step
      ∙ ap (λ (end : End). Ends end s) (same_trap trap s.regs.pc)

  -- ---- where no test ends it

  -- after what was done
  abbrev left_by : Regs → Memory → State
  left_by after m = record s { regs = after; memory = update_guards_at p s after m }

  goes : (what : Stepped) (after : Regs) (m : Memory) → Does p s what after m → tests p s what after ≡ None → event_after_step p s what (left_by after m) input ≡ Goes (left_by after m) [] input
      → GoesOnWith p s input after
  goes what after m d none on = record {
    state = left_by after m;
    event = does_is p s input what after m d ∙ ap (λ (o : Option End). event_after_pass p s (pass_tests p s what after m o) input) none ∙ on;
    regs = refl;
    globals = refl;
    events = refl;
  }

  next : (after : Regs) (m : Memory) → Does p s Done after m → StaysOnStack s after → branches_at p s ≡ false → (p.look after.pc).is_function ≡ false → GoesOnWith p s input after
  next after m d on straight none =
      goes Done after m d
      (by_flow Done after on
      ∙ ap (λ (b : Bool). cond b None (fell_off p s.regs.pc after.pc)) straight
      ∙ ap (λ (b : Bool). cond b (Some (the_end.Trap kind.FellOff after.pc s.regs.pc)) None) none)
      refl

  jumps : (after : Regs) (m : Memory) → Does p s Done after m → StaysOnStack s after → branches_at p s ≡ true → GoesOnWith p s input after
  jumps after m d on branches =
      goes Done after m d (by_flow Done after on ∙ ap (λ (b : Bool). cond b None (fell_off p s.regs.pc after.pc)) branches) refl

  calls : (target ret : ℕ) (after : Regs) (m : Memory) → Does p s (Call target ret) after m → StaysOnStack s after → (p.look target).is_function ≡ true → GoesOnWith p s input after
  calls target ret after m d on begins =
      goes (Call target ret) after m d
      (by_flow (Call target ret) after on ∙ ap (λ (b : Bool). cond b None (Some (the_end.Trap kind.BadCallTarget target s.regs.pc))) begins) refl

  returns : (to : ℕ) (after : Regs) (m : Memory) → Does p s (Return to) after m → (p.look s.regs.pc).lowers ≡ false → to ≢ 0xFFFFFFFF → block_slot s.globals.cleanup ≡ None → s.memory.home.0 ≤ slice_index after.r 13
      → (p.look after.pc).is_function ≡ false → GoesOnWith p s input after
  returns to after m d plain other none high ends_none =
      goes (Return to) after m d
      (ap (λ (o : Option End). option_or o (flow_trap (Return to) after))
      (no_landing (p.look s.regs.pc).lowers inner s.memory.home.0 s.regs.pc (reg s SP) (slice_index after.r SP) plain (ap (innermost_at (word s.memory)) none) high)
      ∙ ap (λ (b : Bool). cond b (Some (the_end.Exit (slice_index after.r 0))) (fell_off p s.regs.pc after.pc)) (ne_eqb to 0xFFFFFFFF other)
      ∙ ap (λ (b : Bool). cond b (Some (the_end.Trap kind.FellOff after.pc s.regs.pc)) None) ends_none)
      refl

pub end_so : TestsEndSo
end_so p s input = record {
  unreached = unreached p s input;
  low = low p s input;
  nowhere = nowhere p s input;
  exits = exits p s input;
  back = back p s input;
  past = past p s input;
  traps = traps p s input;
}

pub go_on : EventsGoOn
go_on p s input = record { next = next p s input; jumps = jumps p s input; calls = calls p s input; returns = returns p s input }
