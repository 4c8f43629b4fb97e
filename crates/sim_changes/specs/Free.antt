-- What it depends on that a state stands for a recorded one, and what may change, for one thread's running stack.
use Rattle.std.specs.Prelude.{◌≡◌, None, ◌⊎◌, ℕ, length, List, [], ◌∷◌, ◌^◌, ◌<◌, Option, slice_index, Some, false, ◌+◌, ◌==◌, true, replicate}
use Rattle.std.specs.List.{list_any}
use Rattle.eh_cxa.specs.Lists.{Entry, Free, state_in, Lists, entry}
use Rattle.eh_cxa.specs.declared.layout.TheConstants.{SLOTS, CLOSED_WORDS}
use Rattle.eh_bus.specs.Guards.{insert_all}
use Rattle.eh_bus.specs.Memory.{Memory}
use Rattle.eh_bus.specs.Segment.{Segment}
use Rattle.sim_machines.specs.Activations.{Recorded, guarded_words, memory_of, reg_in, callee, recorded_start, lists_of, with_exceptions}
use Rattle.sim_machines.specs.ActivationMachine.{with_new, in_flight}
use Rattle.sim_machines.specs.Program.{Program}
use Rattle.sim_machines.specs.Start.{start_of}
use Rattle.eh_bus.specs.Map.{IsMap, SameMap}
use Rattle.eh_cxa.specs.Stands.{entry_of}
use Rattle.eh_cxa.specs.Words.{word}
use Rattle.sim_machines.specs.RecordedSlots.{AreOutside}
use Rattle.frame_check.specs.Accepts.{Accepted}
use Rattle.elf_image.specs.Functions.{Function}
use Rattle.frame_dataflow.specs.Flow.{AreValid, AreStates, fact_at}
use Rattle.frame_facts.specs.declared.cause.FrameCause.{FrameCause}
use Rattle.frame_facts.specs.declared.facts.Fact.{Fact}
use Rattle.frame_facts.specs.Facts.{IsAtMost, source}
use Rattle.frame_reach.specs.Marks.{Marks}
use Rattle.frame_flow.specs.Flows.{flow_of}
use Rattle.thumb_core.specs.Laws.{AreWords, AreSound}
use Rattle.thumb_core.specs.declared.regs.TheConstants.{SP, LR}
use Rattle.thumb_core.specs.declared.regs.Regs.{Regs}
use Rattle.thumb_core.specs.Registers.{reg}
use Rattle.frame_facts.specs.declared.facts.Source.TheVariants.{Other}
use Rattle.frame_check.specs.Roles.{look}
use Rattle.run_images.specs.Start.{begins_function, image_start}
use Rattle.thumb_isa.specs.declared.instr.Instr.TheVariants.{Svc}
use Rattle.frame_facts.specs.Branches.{gate_changes}
use Rattle.eh_trace.specs.Trace.{Trace, no_events}
use Rattle.run_gates.specs.declared.gates.TheConstants.{NO_CALLER}
use Rattle.eh_cxa.specs.Throw.{Throw}
use Rattle.sim_relation.specs.Holds.{AllSameAt}
use Rattle.sim_relation.specs.Stands.{Keeps, IsProgram, DoesAt}
use Rattle.sim_relation.specs.Chain.{code, StandsAt}

-- a slot of the pool without an exception
abbrev pub IsIdle : Entry → Type 0
IsIdle e = state_in e ≡ None

-- lists that differ at most in which slots without an exception are free and which are out of use
pub record SameRecords (l new : Lists) : Type 0 where
  pub caught : new.caught ≡ l.caught
  pub cleanups : new.cleanups ≡ l.cleanups
  pub uncaught : new.uncaught ≡ l.uncaught
  pub sized : length new.entries ≡ SLOTS
  pub entries : (t : ℕ) → (entry new t ≡ entry l t) ⊎ (IsIdle (entry l t) × IsIdle (entry new t))

abbrev pub memory_over : Recorded → List Segment → List ℕ → Memory
memory_over s segments beyond = record { segments = segments; guards = insert_all (guarded_words beyond (s.first ∷ s.outer)) []; home = s.home }

-- segments with the same contents wherever it depends on them, and any guarded words beyond the running stack
pub record SameParts (s : Recorded) (new : Lists) (segments : List Segment) (beyond : List ℕ) : Type 0 where
  pub map : IsMap (memory_over s segments beyond)
  pub outside : AreOutside s.home beyond
  pub image : SameMap s.segments segments
  pub words : AllSameAt s.segments segments (s.first ∷ s.outer)
  pub small : (t k : ℕ) → t < SLOTS → k < CLOSED_WORDS → word (memory_over s segments beyond) t k < 2 ^ 32
  pub records : (t k : ℕ) → t < SLOTS → k < CLOSED_WORDS → (IsIdle (entry (lists_of s) t) → ⊥) → word (memory_over s segments beyond) t k ≡ word (memory_of s) t k
  pub others : (t : ℕ) → t < SLOTS → IsIdle (entry (lists_of s) t) → entry new t ≡ entry_of (word (memory_over s segments beyond)) t

abbrev pub FreeMemory : Type 0
FreeMemory = (x : Accepted) (s : Recorded) (new : Lists) (segments : List Segment) (beyond : List ℕ) → Keeps x s → SameRecords (lists_of s) new → SameParts s new segments beyond
    → Keeps x (record (with_exceptions new s) { segments = segments; beyond = beyond })

-- ---- registers but sp

-- valid facts of a function, each of which is a state
pub record AreFacts (x : Accepted) (f : Function) (m : Marks) (facts : List (Option Fact)) : Type 0 where
  pub valid : AreValid Fact FrameCause (flow_of (code x f m)) IsAtMost facts
  pub states : AreStates Fact FrameCause (flow_of (code x f m)) facts

-- other registers at the same place, with sp as it is
pub record OtherRegisters (s : Recorded) (new : Regs) : Type 0 where
  pub pc : new.pc ≡ s.regs.pc
  pub words : AreWords 15 new.r
  pub sp : slice_index new.r SP ≡ reg_in s SP

-- A register of which nothing is known may change. What is known is the fact in a table of valid facts, each of which is a state of the
-- flow.
abbrev pub FreeRegisters : Type 0
FreeRegisters = (x : Accepted) (s : Recorded) (new : Regs) → Keeps x s → OtherRegisters s new → (at : StandsAt x s.first s.segments s.regs s.regs.pc)
    → (facts : List (Option Fact)) → AreFacts x at.function at.marks facts → (h : Fact) → fact_at facts at.place ≡ Some h
    → ((j : ℕ) → (source h j ≡ Other) ⊎ (reg new j ≡ reg s.regs j)) → Keeps x (record s { regs = new })

-- if no checked instruction stands at pc, all registers but sp may change
abbrev pub FreeAnywhere : Type 0
FreeAnywhere = (x : Accepted) (s : Recorded) (new : Regs) → Keeps x s → OtherRegisters s new → (look x.roles s.regs.pc).is_instr ≡ false → Keeps x (record s { regs = new })

-- ---- after a gate

abbrev pub FreeAfterGates : Type 0
FreeAfterGates = (x : Accepted) (s : Recorded) (number : ℕ) (new : Regs) → IsProgram x → Keeps x s → (does : DoesAt x s (Svc number)) → begins_function x.image.functions (s.regs.pc + does.size) ≡ false
    → new.pc ≡ s.regs.pc + does.size → AreSound new.r new.pc → ((j : ℕ) → list_any (λ (i : ℕ). i == j) gate_changes ≡ false → reg new j ≡ reg s.regs j) → Keeps x (record s { regs = new })

-- ---- a start

-- these lists, with nothing caught, in progress or uncaught
abbrev pub quiet_lists : List Entry → Lists
quiet_lists entries = record { entries = entries; caught = []; cleanups = []; uncaught = 0 }

-- one activation, of the function at pc, which records the registers as they are
abbrev pub recorded_start_at : Regs → List Entry → List Segment → ℕ × ℕ → Trace → List ℕ → Recorded
recorded_start_at regs entries segments home events beyond = record {
  regs = regs;
  entries = entries;
  caught = [];
  cleanups = [];
  uncaught = 0;
  segments = segments;
  home = home;
  events = events;
  first = record { function = regs.pc; caller = record { back = slice_index regs.r LR; sp = slice_index regs.r SP; saved = callee regs.r }; slots = [] };
  outer = [];
  beyond = beyond;
}

pub record IsFresh (x : Accepted) (regs : Regs) (entries : List Entry) (segments : List Segment) (home : ℕ × ℕ) (beyond : List ℕ) : Type 0 where
  pub begins : begins_function x.image.functions regs.pc ≡ true
  pub sound : AreSound regs.r regs.pc
  pub link : slice_index regs.r LR ≡ NO_CALLER
  pub sp : slice_index regs.r SP ≡ home.1
  pub map : IsMap (record { segments = segments; guards = insert_all beyond []; home = home })
  pub outside : AreOutside home beyond
  pub image : SameMap (image_start x.image).memory.segments segments
  pub sized : length entries ≡ SLOTS
  pub idle : (t : ℕ) → IsIdle (entry (quiet_lists entries) t)
  pub shown : (t : ℕ) → t < SLOTS → entry (quiet_lists entries) t ≡ entry_of (word (record { segments = segments; guards = insert_all beyond []; home = home })) t
  pub small : (t k : ℕ) → t < SLOTS → k < CLOSED_WORDS → word (record { segments = segments; guards = insert_all beyond []; home = home }) t k < 2 ^ 32

abbrev pub FreeStarts : Type 0
FreeStarts = (x : Accepted) (regs : Regs) (entries : List Entry) (segments : List Segment) (home : ℕ × ℕ) (events : Trace) (beyond : List ℕ) → IsProgram x
    → IsFresh x regs entries segments home beyond → Keeps x (recorded_start_at regs entries segments home events beyond)

-- the start of a run with recorded activations is such a start, with all slots free and the whole stack
abbrev pub StartsAreFresh : Type 0
StartsAreFresh =
    (p : Program) → recorded_start p ≡ recorded_start_at (start_of p).regs (replicate SLOTS Free) (start_of p).memory.segments (start_of p).memory.home no_events []

-- ---- a new exception, and then a throw of it

pub record ThrowsKept (x : Accepted) (s : Recorded) : Type 0 where
  pub allocate : (size : ℕ) → size < 2 ^ 32 → Keeps x (with_new size s)
  pub start_throw : (object : ℕ) (t : Throw) → t.ty < 2 ^ 32 → t.destructor < 2 ^ 32 → Keeps x (in_flight object t s)

abbrev pub KeepThrows : Type 0
KeepThrows = (x : Accepted) (s : Recorded) → Keeps x s → ThrowsKept x s
