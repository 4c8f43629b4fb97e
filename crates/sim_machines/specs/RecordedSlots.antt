-- Saved words and returns with recorded activations (docs/rules/machine.md, "Laws").
use Rattle.std.specs.Prelude.{◌≡◌, ◌⊎◌, ◌↔◌, ℕ, ◌+◌, ◌%◌, ◌==◌, ◌<◌, ◌≤◌, true, List, [], ◌∷◌, slice_index, Err}
use Rattle.run_events.specs.Runs.{Event, Goes, Ends}
use Rattle.eh_bus.specs.Lists.{Has}
use Rattle.eh_bus.specs.Map.{IsMap}
use Rattle.eh_bus.specs.Memory.{Memory, store}
use Rattle.eh_bus.specs.Place.{IsWidth}
use Rattle.eh_bus.specs.declared.fault.BusFault.TheVariants.{SavedSlot}
use Rattle.run_gates.specs.declared.gates.TheConstants.{NO_CALLER}
use Rattle.thumb_ahead.specs.Ahead.{pushes_some}
use Rattle.thumb_core.specs.Laws.{AreWords}
use Rattle.thumb_core.specs.Step.{step_for, instr_for}
use Rattle.thumb_core.specs.declared.regs.TheConstants.{SP}
use Rattle.thumb_core.specs.declared.regs.Regs.{Regs}
use Rattle.thumb_core.specs.declared.regs.Stepped.TheVariants.{Done, Return}
use Rattle.thumb_core.specs.declared.ends.End.{End}
use Rattle.sim_machines.specs.Program.{Program, profile_in}
use Rattle.sim_machines.specs.Machine.{machine_event, saved_words}
use Rattle.sim_machines.specs.Start.{start_of}
use Rattle.sim_machines.specs.Activations.{Activation, Recorded, slots_of, reg_in, memory_of, bytes_of, recorded_start}
use Rattle.sim_machines.specs.ActivationMachine.{recorded_event, caller_registers}
use Rattle.sim_machines.specs.ActivationLaws.{Matches, KnowsLanding, callers}

-- ---- slots

-- The guarded words are the slots of all activations and the words beyond. A store that reaches a slot is refused with its address and
-- stores nothing.
pub record AreGuarded (s : Recorded) : Type 0 where
  pub guards : (g : ℕ) → Has (memory_of s).guards g ↔ (Has (slots_of (s.first ∷ s.outer)) g ⊎ Has s.beyond g)
  pub refused :
      (n a v g : ℕ) → IsMap (memory_of s) → IsWidth n → (a % n == 0) ≡ true → Has (slots_of (s.first ∷ s.outer)) g → g ≤ a → a < g + 4
      → store n (memory_of s) a v ≡ (Err (SavedSlot g), memory_of s)

abbrev pub SlotsAreGuarded : Type 0
SlotsAreGuarded = (s : Recorded) → AreGuarded s

-- the words of the instruction at pc that are saves: of the words that it pushes, from the sp after it up
abbrev pub saves_of : Program → Recorded → ℕ → List ℕ
saves_of p s new = saved_words (p.look s.regs.pc).saves (pushes_some (instr_for (profile_in p) (memory_of s) s.regs.pc)) new

-- if sp rose, a slot stays if it is at the new sp or above, or below the running stack; if not, each slot stays
abbrev pub Stays : Recorded → ℕ → ℕ → Type 0
Stays s new g = reg_in s SP < new → (new ≤ g) ⊎ (g < s.home.0)

-- the slots of each activation, innermost first: those of its slots that stay
abbrev pub KeepSlots : Recorded → ℕ → List Activation → List Activation → Type 0
KeepSlots s new [] [] = Unit {0}
KeepSlots s new (a ∷ more) (b ∷ later) = ((g : ℕ) → Has b.slots g ↔ (Has a.slots g × Stays s new g)) × KeepSlots s new more later
KeepSlots s new [] (b ∷ later) = ⊥
KeepSlots s new (a ∷ more) [] = ⊥

-- an instruction that goes on in its function adds the words that it saved to the running activation, and to no other
pub record AreSaved (p : Program) (s t : Recorded) : Type 0 where
  pub first :
      (g : ℕ) → Has t.first.slots g
      ↔ ((Has (saves_of p s (reg_in t SP)) g ⊎ Has s.first.slots g) × Stays s (reg_in t SP) g)
  pub outer : KeepSlots s (reg_in t SP) s.outer t.outer
  pub same : callers (t.first ∷ t.outer) ≡ callers (s.first ∷ s.outer)

abbrev pub SavesBecomeSlots : Type 0
SavesBecomeSlots =
    (p : Program) (s t : Recorded) (input text left : List ℕ) (regs : Regs) (m : Memory)
    → step_for (profile_in p) s.regs (memory_of s) ≡ (Done, regs, m) → recorded_event p s input ≡ Goes t text left → AreSaved p s t

-- ---- words beyond the running stack

-- guarded words outside a running stack
abbrev pub AreOutside : ℕ × ℕ → List ℕ → Type 0
AreOutside home gs = (g : ℕ) → Has gs g → (g < home.0) ⊎ (home.1 ≤ g)

-- they are the same after an event that leaves sp in the running stack, and if the run ends
abbrev pub LeavesBeyond : Recorded → Event Recorded End → Type 0
LeavesBeyond s (Goes t text left) = (t.home ≡ s.home) × (reg_in t SP ≤ s.home.1 → t.beyond ≡ s.beyond)
LeavesBeyond s (Ends end t) = (t.home ≡ s.home) × (t.beyond ≡ s.beyond)

abbrev pub WordsBeyondStay : Type 0
WordsBeyondStay = (p : Program) (s : Recorded) (input : List ℕ) → AreOutside s.home s.beyond → LeavesBeyond s (recorded_event p s input)

-- ---- a return

-- A return finds what was recorded: the registers that it leaves are the caller's. It goes to nobody exactly in the last activation. The
-- slots of the activation that it leaves lie between the sp before it and the sp after it.
pub record FindsCaller (s : Recorded) (to : ℕ) (regs : Regs) : Type 0 where
  pub same : caller_registers s.first.caller regs ≡ regs
  pub last : s.outer ≡ [] → to ≡ NO_CALLER
  pub called : (a : Activation) (more : List Activation) → s.outer ≡ a ∷ more → to ≡ NO_CALLER → ⊥
  pub slots : (g : ℕ) → Has s.first.slots g → (s.home.0 ≤ g) × (reg_in s SP ≤ g) × (g < slice_index regs.r SP)

-- such a return does the same in both machines
abbrev pub ReturnsMatch : Type 0
ReturnsMatch =
    (p : Program) (s : Recorded) (input : List ℕ) (to : ℕ) (regs : Regs) (m : Memory) → KnowsLanding s → AreWords 15 s.regs.r
    → step_for (profile_in p) s.regs (memory_of s) ≡ (Return to, regs, m) → FindsCaller s to regs
    → Matches (machine_event p (bytes_of s) input) (recorded_event p s input)

-- the first event of a run is the same in both machines, even if it is a return
abbrev pub FirstEventsMatch : Type 0
FirstEventsMatch =
    (p : Program) (input : List ℕ) → IsMap (start_of p).memory → Matches (machine_event p (start_of p) input) (recorded_event p (recorded_start p) input)
