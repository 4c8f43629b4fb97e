-- The state after phase 2 enters a landing pad (IHI 0038, "Phase 2 unwinding"; docs/rules/machine.md, "Landing").
use Rattle.std.specs.Prelude.{ℕ, List, [], ◌∷◌, slice_index}
use Rattle.eh_bus.specs.Memory.{Memory, without_guards_below}
use Rattle.eh_cxa.specs.Words.{word, set_slot_words, block_slot, Done}
use Rattle.eh_cxa.specs.Throw.{land_of}
use Rattle.eh_cxa.specs.Cleanup.{begin_cleanup_of}
use Rattle.eh_cxa.specs.declared.globals.CleanupWords.{CleanupWords}
use Rattle.eh_phase.specs.declared.phase2.Entered.{Entered}
use Rattle.eh_phase.specs.declared.phase2.Entered.TheVariants as enters
use Rattle.eh_trace.specs.declared.event.Event.{Event}
use Rattle.eh_trace.specs.declared.event.EventKind.{EventKind}
use Rattle.eh_trace.specs.declared.event.EventKind.TheVariants as kind
use Rattle.eh_trace.specs.Trace.{push_event}
use Rattle.thumb_core.specs.Registers.{even}
use Rattle.thumb_core.specs.declared.regs.TheConstants.{SP}
use Rattle.thumb_core.specs.declared.regs.Regs.{Regs}
use Rattle.thumb_core.specs.declared.ends.Cause.TheVariants as cause
use Rattle.eh_gates.specs.declared.state.Turned.TheVariants.{Went}
use Rattle.eh_gates.specs.State.{State, Outcome, terminate_outcome, log_event}

-- ---- registers

-- sp and r4 to r11 are those of the frame that is entered, r0 is given, all other registers are 0, pc is the pad with bit 0 clear, and
-- the flags are unchanged
abbrev pub landing_registers : Regs → List ℕ → ℕ → ℕ → Regs
landing_registers regs r pad first = record regs {
  r = first ∷ 0 ∷ 0 ∷ 0 ∷ slice_index r 4 ∷ slice_index r 5 ∷ slice_index r 6 ∷ slice_index r 7 ∷ slice_index r 8 ∷ slice_index r 9
      ∷ slice_index r 10 ∷ slice_index r 11 ∷ 0 ∷ slice_index r SP ∷ 0 ∷ [];
  pc = even pad;
}

-- ---- the event of a pad that is entered: of a catch with the object that its handler is given

abbrev pub zeros16 : List ℕ
zeros16 = 0 ∷ 0 ∷ 0 ∷ 0 ∷ 0 ∷ 0 ∷ 0 ∷ 0 ∷ 0 ∷ 0 ∷ 0 ∷ 0 ∷ 0 ∷ 0 ∷ 0 ∷ 0 ∷ []

abbrev pub pad_event : EventKind → ℕ → ℕ → ℕ → Event
pad_event what pad sp object = record { kind = what; a = pad; b = sp; c = object; bytes = zeros16; count = 0 }

-- ---- landings of the exception of a control block

-- the guarded words below the sp of the frame with these registers are released
abbrev pub at_pad : State → List ℕ → ℕ → ℕ → State
at_pad s r pad first = record s { regs = landing_registers s.regs r pad first; memory = without_guards_below s.memory (slice_index r SP) }

-- what is recorded of a cleanup in progress: where phase 2 goes on, the sp with which it was entered, and its site
abbrev pub words_of : List ℕ → ℕ → ℕ → CleanupWords
words_of r next site = record { next = next; sp = slice_index r SP; site = site }

abbrev pub in_progress : State → Done (Unit {0}) → State
in_progress s d = record s { globals = d.globals; memory = set_slot_words d.writes s.memory }

-- enters a cleanup, which becomes the innermost in progress
abbrev pub enter_cleanup : State → ℕ → List ℕ → ℕ → CleanupWords → State
enter_cleanup s block r pad w =
    log_event (at_pad (in_progress s (begin_cleanup_of s.globals block w)) r pad 0) (pad_event kind.Cleanup pad (slice_index r SP) 0)

-- the exception landed
abbrev pub land_exception : State → ℕ → State
land_exception s block = record s { memory = set_slot_words (land_of (word s.memory) (block_slot block)) s.memory }

-- its handler
abbrev pub enter_handler : State → ℕ → List ℕ → ℕ → Event → State
enter_handler s block r pad e = log_event (at_pad (land_exception s block) r pad block) e

-- enters what phase 2 found; the handler of a catch is given an object
abbrev pub enter_landing : State → ℕ → ℕ → Entered → Outcome
enter_landing s block object (enters.Cleanup vrs pad next site) = (Went, enter_cleanup s block vrs.r pad (words_of vrs.r next site))
enter_landing s block object (enters.Catch vrs pad) =
    (Went, enter_handler s block vrs.r pad (pad_event kind.Catch pad (slice_index vrs.r SP) object))
enter_landing s block object (enters.Spec vrs pad) =
    (Went, enter_handler s block vrs.r pad (pad_event kind.Unexpected pad (slice_index vrs.r SP) 0))
enter_landing s block object enters.Unexpected = terminate_outcome cause.Unexpected s
enter_landing s block object (enters.Terminate why) = terminate_outcome why s
