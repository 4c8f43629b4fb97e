-- A state of the machine with recorded activations (docs/rules/machine.md, "With recorded activations"). It has activations in place of
-- guarded words, and lists in place of chains of exceptions.
use Rattle.std.specs.Prelude.{ℕ, ◌+◌, ◌-◌, ◌^◌, ◌==◌, nat_lt, Bool, false, List, [], ◌∷◌, ◌++◌, length, filter, take, drop, slice_index, Option, Some, None, Result, Ok, Err, if◌then◌else◌, ℤ, pos, negsuc}
use Rattle.eh_bus.specs.Guards.{insert_all}
use Rattle.eh_bus.specs.Memory.{Memory, stays_guarded}
use Rattle.eh_bus.specs.Segment.{Segment}
use Rattle.eh_bus.specs.declared.map.TheConstants.{STACK_END}
use Rattle.elf_image.specs.Image.{Image}
use Rattle.run_gates.specs.declared.gates.TheConstants.{NO_CALLER}
use Rattle.frame_check.specs.run_images.Start.{image_start}
use Rattle.eh_codes.specs.Cut.{split_codes}
use Rattle.eh_bytecode.specs.Recipe.{recipe}
use Rattle.eh_bytecode.specs.declared.recipe.Recipe.{Recipe}
use Rattle.eh_bytecode.specs.declared.recipe.RecipeFault.{RecipeFault}
use Rattle.eh_cxa.specs.Lists.{Entry, Free, OutOfUse, Live, Cleanup, Lists, entry, slots, count_in}
use Rattle.eh_cxa.specs.Runs.{empty_lists}
use Rattle.eh_cxa.specs.States.{code}
use Rattle.eh_cxa.specs.Words.{Pool, Write, block, set_slot_words}
use Rattle.eh_cxa.specs.declared.globals.Globals.{Globals}
use Rattle.eh_cxa.specs.declared.layout.TheConstants.{STATE, COUNT}
use Rattle.eh_cxa.specs.declared.state.TheConstants.{FREE, ENDED}
use Rattle.eh_phase.specs.Phases.{Frames}
use Rattle.eh_phase.specs.Frames.{entry_contents_at, end_of_frames, frame_and_outer, frame_of, site_of}
use Rattle.eh_phase.specs.declared.walk.CoveringEntry.{CoveringEntry}
use Rattle.eh_trace.specs.Trace.{Trace, no_events}
use Rattle.thumb_core.specs.declared.regs.TheConstants.{LR}
use Rattle.thumb_core.specs.declared.regs.Regs.{Regs}
use Rattle.thumb_core.specs.declared.ends.Cause.TheVariants.{NoHandler, CannotUnwind, LeavesCleanup}
use Rattle.eh_gates.specs.State.{State}
use Rattle.sim_machines.specs.Program.{Program}

-- ---- activations

-- what an activation records at the call: the return address, and the caller's sp and r4 to r11
pub record Caller : Type 0 where
  pub back : ℕ
  pub sp : ℕ
  pub saved : List ℕ

-- a function that was called and hasn't returned, given by its start; its slots are the addresses of the words that it saved
pub record Activation : Type 0 where
  pub function : ℕ
  pub caller : Caller
  pub slots : List ℕ

-- r4 to r11
abbrev pub callee : List ℕ → List ℕ
callee r = take 8 (drop 4 r)

-- registers, with sp and r4 to r11 as a caller had them
abbrev pub with_caller : Caller → List ℕ → List ℕ
with_caller c r =
    slice_index r 0 ∷ slice_index r 1 ∷ slice_index r 2 ∷ slice_index r 3 ∷ (c.saved ++ (slice_index r 12 ∷ c.sp ∷ slice_index r LR ∷ []))

-- the registers of a caller; pc is the return address, and those that no frame restores are 0
abbrev pub registers_of : Caller → List ℕ
registers_of c = 0 ∷ 0 ∷ 0 ∷ 0 ∷ (c.saved ++ (0 ∷ c.sp ∷ 0 ∷ c.back ∷ []))

-- ---- slots

abbrev pub slots_of : List Activation → List ℕ
slots_of [] = []
slots_of (a ∷ more) = a.slots ++ slots_of more

-- those, followed by guarded words beyond the running stack
abbrev pub guarded_words : List ℕ → List Activation → List ℕ
guarded_words beyond [] = beyond
guarded_words beyond (a ∷ more) = a.slots ++ guarded_words beyond more

-- the guarded words that stay when sp goes from `old` to `new`
abbrev pub staying_words : ℕ × ℕ → ℕ → ℕ → List ℕ → List ℕ
staying_words home old new gs = if nat_lt old new then filter (stays_guarded home new) gs else gs

-- an activation without its slots in the running stack below an sp
abbrev pub release_slots : ℕ × ℕ → ℕ → Activation → Activation
release_slots home sp a = record a { slots = filter (stays_guarded home sp) a.slots }

-- .. if sp rose to it
abbrev pub release_raised : ℕ × ℕ → ℕ → ℕ → Activation → Activation
release_raised home old new a = record a { slots = staying_words home old new a.slots }

abbrev pub with_slots : List ℕ → Activation → Activation
with_slots more a = record a { slots = more ++ a.slots }

-- ---- cleanups in progress

-- a cleanup in progress, and its place: the number of activations outside the one in which it was entered
pub record InProgress : Type 0 where
  pub cleanup : Cleanup
  pub place : ℕ

-- .. without the places, as the lists of exceptions have them
abbrev pub cleanups_in : List InProgress → List Cleanup
cleanups_in [] = []
cleanups_in (p ∷ more) = p.cleanup ∷ cleanups_in more

-- the place of the innermost cleanup
abbrev pub first_place : List InProgress → Option ℕ
first_place [] = None
first_place (p ∷ more) = Some p.place

-- ---- the state

-- A state. It has registers; the exceptions by slot, the caught stack, the cleanups in progress with their places (innermost first), and
-- the number of uncaught exceptions; the segments of the memory and its running stack; the events so far; and the activations, innermost
-- first. Besides slots there may be guarded words beyond the running stack, which belong to no activation here.
pub record Recorded : Type 0 where
  pub regs : Regs
  pub entries : List Entry
  pub caught : List ℕ
  pub cleanups : List InProgress
  pub uncaught : ℕ
  pub segments : List Segment
  pub home : ℕ × ℕ
  pub events : Trace
  pub first : Activation
  pub outer : List Activation
  pub beyond : List ℕ

-- the exceptions as lists
abbrev pub lists_of : Recorded → Lists
lists_of s = record { entries = s.entries; caught = s.caught; cleanups = cleanups_in s.cleanups; uncaught = s.uncaught }

abbrev pub reg_in : Recorded → ℕ → ℕ
reg_in s k = slice_index s.regs.r k

-- the memory as instructions see it: the slots of all activations and the words beyond are guarded
abbrev pub memory_of : Recorded → Memory
memory_of s = record { segments = s.segments; guards = insert_all (guarded_words s.beyond (s.first ∷ s.outer)) []; home = s.home }

-- ---- the words of the pool

-- The words that stand for the lists: a slot's state, and its count. A slot that is out of use has a state word that names no state.
abbrev pub state_word : Entry → ℕ
state_word Free = FREE
state_word OutOfUse = ENDED + 1
state_word (Live r) = code r.state

abbrev pub count_word : ℤ → ℕ
count_word (pos n) = n
count_word (negsuc n) = 2 ^ 32 - (n + 1)

abbrev pub words_in : Lists → Pool
words_in l s k =
    if k == STATE then state_word (entry l s) else (if k == COUNT then count_word (count_in (entry l s)) else 0)

abbrev pub head_of : List ℕ → ℕ
head_of [] = 0
head_of (s ∷ more) = block s

-- the heads of the chains that lists are
abbrev pub heads : Lists → Globals
heads l = record { caught = head_of l.caught; cleanup = head_of (slots l.cleanups); uncaught = l.uncaught }

-- with these words in the pool
abbrev pub with_words : List Write → Recorded → Recorded
with_words writes s = record s { segments = (set_slot_words writes (memory_of s)).segments }

-- with the exceptions of other lists; the cleanups in progress stay
abbrev pub with_exceptions : Lists → Recorded → Recorded
with_exceptions l s = record s { entries = l.entries; caught = l.caught; uncaught = l.uncaught }

-- .. and with the words that belong to them. A call on lists is made on their words too, and what it writes stays in the pool. Nobody reads
-- the words of headers and chains that are written so. Of the words that programs can't use, only those of barriers are read, by the
-- runtime; programs read word 2 of a barrier too.
abbrev pub with_lists : Lists → List Write → Recorded → Recorded
with_lists l writes s = with_exceptions l (with_words writes s)

-- the same state without activations: guarded words in place of slots, and chains in place of lists
abbrev pub bytes_of : Recorded → State
bytes_of s = record { regs = s.regs; globals = heads (lists_of s); memory = memory_of s; events = s.events }

-- ---- the frames of a throw

abbrev pub ends_at : Option ℕ → ℕ → Bool
ends_at None outer_frames = false
ends_at (Some n) outer_frames = n == outer_frames

-- frames go on outwards if the codes have a recipe; codes without one refuse, whatever the reason
abbrev pub if_recipe : Result Recipe RecipeFault → Frames → Frames
if_recipe (Ok done) further = further
if_recipe (Err why) further = end_of_frames CannotUnwind

-- the frame of an activation at a site, with its registers, and those outside it
abbrev pub activation_frames : Frames → ℕ → List ℕ → Option CoveringEntry → Frames
activation_frames further site r None = end_of_frames CannotUnwind
activation_frames further site r (Some c) = frame_and_outer (frame_of site r c) (if_recipe (recipe (split_codes c.codes)) further)

-- the frames outside an activation, as it recorded its caller; there are none after the activation of the innermost cleanup in progress
abbrev pub outer_frames : Image → Option ℕ → Caller → List Activation → Frames
outer_frames image place c [] = if ends_at place 0 then end_of_frames LeavesCleanup else end_of_frames NoHandler
outer_frames image place c (a ∷ more) =
    if ends_at place (length (a ∷ more)) then end_of_frames LeavesCleanup
    else activation_frames (outer_frames image place a.caller more) (site_of (registers_of c)) (registers_of c) (entry_contents_at image (site_of (registers_of c)))

-- the frames from an activation at a site outwards
abbrev pub frames_at : Image → Option ℕ → ℕ → List ℕ → Activation → List Activation → Frames
frames_at image place site r a outer = activation_frames (outer_frames image place a.caller outer) site r (entry_contents_at image site)

-- ---- the start

abbrev pub no_caller : Caller
no_caller = record { back = NO_CALLER; sp = STACK_END; saved = 0 ∷ 0 ∷ 0 ∷ 0 ∷ 0 ∷ 0 ∷ 0 ∷ 0 ∷ [] }

-- one activation, of the function at the entry, which nobody called
abbrev pub recorded_start : Program → Recorded
recorded_start p = record {
  regs = (image_start p.image).regs;
  entries = empty_lists.entries;
  caught = [];
  cleanups = [];
  uncaught = 0;
  segments = (image_start p.image).memory.segments;
  home = (image_start p.image).memory.home;
  events = no_events;
  first = record { function = p.image.entry; caller = no_caller; slots = [] };
  outer = [];
  beyond = [];
}
