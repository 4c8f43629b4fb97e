-- The ends by the checks of an event, each with its value, and where the run goes on if no check fails (docs/rules/machine.md, "An event").
use Rattle.std.specs.Prelude.{◌≡◌, ◌≢◌, ℕ, ◌<◌, ◌≤◌, Bool, true, false, List, [], slice_index, None}
use Rattle.run_events.specs.Runs.{Goes, Ends}
use Rattle.eh_bus.specs.Memory.{Memory}
use Rattle.eh_bus.specs.declared.fault.BusFault.TheVariants as bus
use Rattle.eh_cxa.specs.Words.{block_slot}
use Rattle.thumb_ahead.specs.Ahead.{branches_some}
use Rattle.thumb_core.specs.Step.{step_for, instr_for}
use Rattle.thumb_core.specs.declared.regs.Regs.{Regs}
use Rattle.thumb_core.specs.declared.regs.CoreTrap.{CoreTrap}
use Rattle.thumb_core.specs.declared.regs.CoreTrap.TheVariants as core
use Rattle.thumb_core.specs.declared.regs.Stepped.{Stepped}
use Rattle.thumb_core.specs.declared.regs.Stepped.TheVariants.{Done, Call, Return, Trap}
use Rattle.thumb_core.specs.declared.ends.TrapKind.TheVariants as kind
use Rattle.thumb_core.specs.declared.ends.End.{End}
use Rattle.thumb_core.specs.declared.ends.End.TheVariants as the_end
use Rattle.eh_gates.specs.State.{State, reg}
use Rattle.sim_machines.specs.Program.{Program, profile_in}
use Rattle.sim_machines.specs.Machine.{machine_event}
use Rattle.sim_event_laws.specs.Stack.{Does}

-- sp (r13) doesn't rise, and stays on the running stack, down to its first address
pub record StaysOnStack (s : State) (after : Regs) : Type 0 where
  pub no_rise : slice_index after.r 13 ≤ reg s 13
  pub above : s.memory.home.0 ≤ slice_index after.r 13

-- whether the instruction at pc takes a branch of its own
abbrev pub branches_at : Program → State → Bool
branches_at p s = branches_some (instr_for (profile_in p) s.memory s.regs.pc) s.regs

-- The event goes on with these registers. It writes nothing, takes nothing of the input, and leaves exceptions and events unchanged.
pub record GoesOnWith (p : Program) (s : State) (input : List ℕ) (after : Regs) : Type 0 where
  pub state : State
  pub event : machine_event p s input ≡ Goes state [] input
  pub regs : state.regs ≡ after
  pub globals : state.globals ≡ s.globals
  pub events : state.events ≡ s.events

-- the end by a trap of the core, with its name, its value and the pc of its instruction
abbrev pub trap_of : CoreTrap → ℕ → End
trap_of (core.Undefined first) pc = the_end.Trap kind.Undefined first pc
trap_of (core.Unpredictable first) pc = the_end.Trap kind.Unpredictable first pc
trap_of (core.NotInProfile first) pc = the_end.Trap kind.NotInProfile first pc
trap_of (core.EvenTarget target) pc = the_end.Trap kind.EvenTarget target pc
trap_of (core.Memory (bus.Unmapped a)) pc = the_end.Trap kind.Unmapped a pc
trap_of (core.Memory (bus.Unaligned a)) pc = the_end.Trap kind.Unaligned a pc
trap_of (core.Memory (bus.ReadOnly a)) pc = the_end.Trap kind.ReadOnly a pc
trap_of (core.Memory (bus.SavedSlot a)) pc = the_end.Trap kind.SavedSlot a pc
trap_of (core.Memory (bus.Protected a)) pc = the_end.Trap kind.Protected a pc
trap_of (core.Memory (bus.NotExecutable a)) pc = the_end.Trap kind.NotExecutable a pc

-- each end leaves the state as it was
pub record EndsByTests (p : Program) (s : State) (input : List ℕ) : Type 0 where
  -- the checker reached no instruction at pc
  pub unreached : (p.look s.regs.pc).is_instr ≡ false → machine_event p s input ≡ Ends (the_end.Trap kind.FellOff s.regs.pc s.regs.pc) s
  -- sp (r13) falls below the start of the running stack
  pub low :
      (what : Stepped) (after : Regs) (m : Memory) → Does p s what after m → slice_index after.r 13 ≤ reg s 13 → slice_index after.r 13 < s.memory.home.0
      → machine_event p s input ≡ Ends (the_end.Trap kind.StackLimit (slice_index after.r 13) s.regs.pc) s
  -- a call, which leaves sp, whose target is no function's start
  pub nowhere :
      (target ret : ℕ) (after : Regs) (m : Memory) → Does p s (Call target ret) after m → slice_index after.r 13 ≡ reg s 13 → s.memory.home.0 ≤ reg s 13
      → (p.look target).is_function ≡ false → machine_event p s input ≡ Ends (the_end.Trap kind.BadCallTarget target s.regs.pc) s
  -- a return to FFFFFFFF, with no cleanup in progress, exits with r0; there is no return at a lowering place
  pub exits :
      (after : Regs) (m : Memory) → Does p s (Return 0xFFFFFFFF) after m → (p.look s.regs.pc).lowers ≡ false
      → block_slot s.globals.cleanup ≡ None → s.memory.home.0 ≤ slice_index after.r 13
      → machine_event p s input ≡ Ends (the_end.Exit (slice_index after.r 0)) s
  -- any other return, with no cleanup in progress, to a function's start
  pub back :
      (to : ℕ) (after : Regs) (m : Memory) → Does p s (Return to) after m → (p.look s.regs.pc).lowers ≡ false → to ≢ 0xFFFFFFFF
      → block_slot s.globals.cleanup ≡ None → s.memory.home.0 ≤ slice_index after.r 13
      → (p.look after.pc).is_function ≡ true → machine_event p s input ≡ Ends (the_end.Trap kind.FellOff after.pc s.regs.pc) s
  -- an instruction that takes no branch, if a function begins at the next address
  pub past :
      (after : Regs) (m : Memory) → Does p s Done after m → StaysOnStack s after → branches_at p s ≡ false → (p.look after.pc).is_function ≡ true
      → machine_event p s input ≡ Ends (the_end.Trap kind.FellOff after.pc s.regs.pc) s
  -- a trap of the core
  pub traps :
      (trap : CoreTrap) (after : Regs) (m : Memory) → (p.look s.regs.pc).is_instr ≡ true → step_for (profile_in p) s.regs s.memory ≡ (Trap trap, after, m)
      → machine_event p s input ≡ Ends (trap_of trap s.regs.pc) s

-- and where the run goes on
pub record GoesOnByTests (p : Program) (s : State) (input : List ℕ) : Type 0 where
  -- at the next address, if no function begins there
  pub next :
      (after : Regs) (m : Memory) → Does p s Done after m → StaysOnStack s after → branches_at p s ≡ false → (p.look after.pc).is_function ≡ false → GoesOnWith p s input after
  -- by a branch of its own, wherever that leads
  pub jumps : (after : Regs) (m : Memory) → Does p s Done after m → StaysOnStack s after → branches_at p s ≡ true → GoesOnWith p s input after
  -- by a call, at a function's start
  pub calls :
      (target ret : ℕ) (after : Regs) (m : Memory) → Does p s (Call target ret) after m → StaysOnStack s after → (p.look target).is_function ≡ true → GoesOnWith p s input after
  -- by a return, with no cleanup in progress, if no function begins there
  pub returns :
      (to : ℕ) (after : Regs) (m : Memory) → Does p s (Return to) after m → (p.look s.regs.pc).lowers ≡ false → to ≢ 0xFFFFFFFF
      → block_slot s.globals.cleanup ≡ None → s.memory.home.0 ≤ slice_index after.r 13
      → (p.look after.pc).is_function ≡ false → GoesOnWith p s input after

abbrev pub EventsGoOn : Type 0
EventsGoOn = (p : Program) (s : State) (input : List ℕ) → GoesOnByTests p s input

abbrev pub TestsEndSo : Type 0
TestsEndSo = (p : Program) (s : State) (input : List ℕ) → EndsByTests p s input
