-- What a landing pad of GNU code is given, told from the side of the pad's code (docs/rules/gnu-tables.md).
use Rattle.std.specs.Prelude.{◌≡◌, ℕ, ◌<◌, ◌≤◌, List, Some, None, Ok, length}
use Rattle.run_events.specs.Runs.{Goes, Ends}
use Rattle.eh_bus.specs.Memory.{load}
use Rattle.eh_bus.specs.Map.{IsMap}
use Rattle.eh_cxa.specs.Words.{word, block_slot}
use Rattle.eh_cxa.specs.declared.layout.TheConstants.{TYPE, BARRIER_SP, BARRIER_OBJECT, BARRIER_DESCRIPTOR, BARRIER_POINTER}
use Rattle.eh_gates.specs.State.{State, reg}
use Rattle.eh_types.specs.Graph.{kind_of}
use Rattle.eh_types.specs.declared.kind.TypeKind.TheVariants.{Pointer}
use Rattle.gnu_descriptors.specs.Filters.{filter_in}
use Rattle.thumb_core.specs.declared.ends.End.{End}
use Rattle.sim_machines.specs.Machine.{machine_event}
use Rattle.sim_machines.specs.Program.{Program}
use Rattle.gnu_machine.specs.GnuMachine.{gnu_event}

-- two states that differ in one register only
pub record SameBut (k : ℕ) (t u : State) : Type 0 where
  pub others : (j : ℕ) → (j ≡ k → ⊥) → reg u j ≡ reg t j
  pub pc : u.regs.pc ≡ t.regs.pc
  pub n : u.regs.n ≡ t.regs.n
  pub z : u.regs.z ≡ t.regs.z
  pub c : u.regs.c ≡ t.regs.c
  pub v : u.regs.v ≡ t.regs.v
  pub globals : u.globals ≡ t.globals
  pub events : u.events ≡ t.events

-- ---- at a catch whose descriptor has a filter

-- the words of a slot's barrier: the frame's sp and the descriptor are unchanged, and words 0 and 2 both give the handler the same
pub record KeepsBarrierFrame (slot : ℕ) (t u : State) : Type 0 where
  pub sp : word u.memory slot BARRIER_SP ≡ word t.memory slot BARRIER_SP
  pub desc : word u.memory slot BARRIER_DESCRIPTOR ≡ word t.memory slot BARRIER_DESCRIPTOR
  pub pointer : word u.memory slot BARRIER_POINTER ≡ word u.memory slot BARRIER_OBJECT

-- what the handler is given: if the thrown type is a pointer, the pointer at the address; otherwise the address
pub record GivenByValue (p : Program) (slot : ℕ) (t u : State) : Type 0 where
  pub pointer : (flags pointee value : ℕ) → kind_of p.types (word t.memory slot TYPE) ≡ Some (Pointer flags pointee)
      → load 4 t.memory (word t.memory slot BARRIER_OBJECT) ≡ Ok value → word u.memory slot BARRIER_OBJECT ≡ value
  pub other : ((flags pointee : ℕ) → kind_of p.types (word t.memory slot TYPE) ≡ Some (Pointer flags pointee) → ⊥)
      → word u.memory slot BARRIER_OBJECT ≡ word t.memory slot BARRIER_OBJECT

-- r1 is the filter, and every other register is as the landing left it
pub record GivesFilter (p : Program) (slot filter : ℕ) (t u : State) : Type 0 where
  pub switch : reg u 1 ≡ filter
  pub same : SameBut 1 t u
  pub barrier : KeepsBarrierFrame slot t u
  pub value : GivenByValue p slot t u

-- The machine's event goes on and enters a catch, by the totals of its events, with the control block of a slot in r0.
pub record LandsAtCatch (p : Program) (s t : State) (input text left : List ℕ) (slot : ℕ) : Type 0 where
  pub goes : machine_event p s input ≡ Goes t text left
  pub rose : s.events.catches < t.events.catches
  pub control : block_slot (reg t 0) ≡ Some slot
  -- there are so many registers, and the memory is one that a bus may have
  pub count : length t.regs.r ≡ 15
  pub map : IsMap t.memory

abbrev pub CatchesGetTheirFilter : Type 0
CatchesGetTheirFilter =
    (p : Program) (filters : List (ℕ × ℕ)) (s t : State) (input text left : List ℕ) (slot filter : ℕ) → LandsAtCatch p s t input text left slot
    → filter_in filters (word t.memory slot BARRIER_DESCRIPTOR) ≡ Some filter
    → (u : State) × (gnu_event p filters s input ≡ Goes u text left) × GivesFilter p slot filter t u

-- .. and if it has none, nothing is given
abbrev pub CatchesWithoutFilterGetNothing : Type 0
CatchesWithoutFilterGetNothing =
    (p : Program) (filters : List (ℕ × ℕ)) (s t : State) (input text left : List ℕ) (slot : ℕ) → LandsAtCatch p s t input text left slot
    → filter_in filters (word t.memory slot BARRIER_DESCRIPTOR) ≡ None → gnu_event p filters s input ≡ Goes t text left

-- ---- in a cleanup

-- r0 is the control block of the innermost cleanup in progress; nothing else is changed
pub record GivesBlock (t u : State) : Type 0 where
  pub block : reg u 0 ≡ t.globals.cleanup
  pub same : SameBut 0 t u
  pub memory : u.memory ≡ t.memory

abbrev pub CleanupsGetTheirBlock : Type 0
CleanupsGetTheirBlock =
    (p : Program) (filters : List (ℕ × ℕ)) (s t : State) (input text left : List ℕ) → machine_event p s input ≡ Goes t text left
    → t.events.catches ≤ s.events.catches → s.events.cleanups < t.events.cleanups → length t.regs.r ≡ 15
    → (u : State) × (gnu_event p filters s input ≡ Goes u text left) × GivesBlock t u

-- ---- elsewhere

-- an event that enters neither a catch nor a cleanup is the machine's own, and so is one that ends the run
abbrev pub OthersGetNothing : Type 0
OthersGetNothing =
    (p : Program) (filters : List (ℕ × ℕ)) (s t : State) (input text left : List ℕ) → machine_event p s input ≡ Goes t text left
    → t.events.catches ≤ s.events.catches → t.events.cleanups ≤ s.events.cleanups → gnu_event p filters s input ≡ Goes t text left

abbrev pub EndsAreTheMachines : Type 0
EndsAreTheMachines =
    (p : Program) (filters : List (ℕ × ℕ)) (s t : State) (input : List ℕ) (end : End) → machine_event p s input ≡ Ends end t
    → gnu_event p filters s input ≡ Ends end t
