-- What a fact of the checker says of a running activation: of its registers, of sp, and of the words that its prologue saved.
use Rattle.std.specs.Prelude.{ℕ, ◌-◌, ◌==◌, slice_index, if◌then◌else◌, ◌≡◌, ◌≤◌, List, Ok, take, Contains, ◌+◌, ◌<◌, ◌%◌, ◌^◌, length, [], ◌∷◌}
use Rattle.thumb_core.specs.declared.regs.TheConstants.{LR, SP}
use Rattle.sim_machines.specs.Activations.{Caller, Activation}
use Rattle.eh_bus.specs.Lists.{Has}
use Rattle.eh_bus.specs.Memory.{load_number}
use Rattle.eh_bus.specs.Segment.{Segment}
use Rattle.frame_facts.specs.declared.saves.Save.{Save}
use Rattle.frame_facts.specs.declared.facts.Fact.{Fact}
use Rattle.frame_facts.specs.declared.saves.Prologue.{Prologue}
use Rattle.frame_facts.specs.Saves.{saves_of}
use Rattle.thumb_core.specs.Registers.{reg}
use Rattle.thumb_core.specs.declared.regs.Regs.{Regs}
use Rattle.frame_facts.specs.Machine.{Describes}

-- what r4 to r11 and lr held at the entry of an activation: its caller's registers, and the return address
abbrev pub recorded_register : Caller → ℕ → ℕ
recorded_register c k = if k == LR then c.back else slice_index c.saved (k - 4)

-- the word of a save lies in the frame, holds what its register held at the entry, and is a slot
pub record IsKept (segments : List Segment) (a : Activation) (depth : ℕ) (s : Save) : Type 0 where
  pub low : 4 ≤ s.offset
  pub deep : s.offset ≤ depth
  pub holds : load_number 4 segments (a.caller.sp - s.offset) ≡ Ok (recorded_register a.caller s.reg)
  pub slot : Has a.slots (a.caller.sp - s.offset)

-- this holds for each save that the fact says is kept, counted from the first of the prologue
abbrev pub AreKept : List Segment → Activation → Prologue → Fact → Type 0
AreKept segments a p f = (s : Save) → Contains (take f.kept (saves_of p)) s → IsKept segments a f.depth s

-- The fact is true of an activation's registers and stack. Its sources name values at the entry: those of r4 to r11 and lr are the recorded
-- ones, the others may be anything.
pub record Holds (p : Prologue) (f : Fact) (a : Activation) (segments : List Segment) (regs : Regs) : Type 0 where
  pub entry : ℕ → ℕ
  pub saved : (k : ℕ) → 4 ≤ k → k < 12 → entry k ≡ recorded_register a.caller k
  pub link : entry LR ≡ recorded_register a.caller LR
  -- Each register holds what its source says. Unless the fact says that sp is further below, sp lies exactly depth bytes below the recorded
  -- sp.
  pub describes : Describes entry a.caller.sp f regs
  -- .. and it always lies at least that deep
  pub lower : reg regs SP + f.depth ≤ a.caller.sp
  pub saves : AreKept segments a p f

-- what every activation records: eight words, an odd return address, and an sp that is a multiple of 4
pub record IsWhole (c : Caller) : Type 0 where
  pub count : length c.saved ≡ 8
  pub words : (k : ℕ) → slice_index c.saved k < 2 ^ 32
  pub back : c.back < 2 ^ 32
  pub odd : c.back % 2 ≡ 1
  pub aligned : c.sp % 4 ≡ 0

-- its slots lie from an address up to the sp that it recorded
abbrev pub AreWithin : ℕ → Activation → Type 0
AreWithin low a = (g : ℕ) → Has a.slots g → (low ≤ g) × (g + 4 ≤ a.caller.sp)

-- the words of an activation's slots are the same in both
abbrev pub SameAt : List Segment → List Segment → Activation → Type 0
SameAt old new a = (g : ℕ) → Has a.slots g → load_number 4 new g ≡ load_number 4 old g

abbrev pub AllSameAt : List Segment → List Segment → List Activation → Type 0
AllSameAt old new [] = Unit {0}
AllSameAt old new (a ∷ more) = SameAt old new a × AllSameAt old new more
