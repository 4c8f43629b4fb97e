-- The state of a machine that unwinds, and what its gates need of a program (docs/rules/machine.md).
use Rattle.std.specs.Prelude.{ℕ, List, slice_index}
use Rattle.eh_types.specs.elf_image.Image.{Image}
use Rattle.eh_bus.specs.Memory.{Memory}
use Rattle.eh_types.specs.Graph.{Row}
use Rattle.eh_cxa.specs.declared.globals.Globals.{Globals}
use Rattle.eh_trace.specs.declared.event.Event.{Event}
use Rattle.eh_trace.specs.Trace.{Trace, push_event}
use Rattle.thumb_core.specs.declared.regs.Regs.{Regs}
use Rattle.thumb_core.specs.declared.ends.TrapKind.{TrapKind}
use Rattle.thumb_core.specs.declared.ends.Cause.{Cause}
use Rattle.thumb_core.specs.declared.ends.End.TheVariants as the_end
use Rattle.eh_gates.specs.declared.state.Core.{Core}
use Rattle.eh_gates.specs.declared.state.Turned.{Turned}
use Rattle.eh_gates.specs.declared.state.Turned.TheVariants.{Went, Ended}

-- registers, what the runtime keeps of exceptions outside the pool, memory, and the events so far
pub record State : Type 0 where
  pub regs : Regs
  pub globals : Globals
  pub memory : Memory
  pub events : Trace

abbrev pub state_of : Core → Memory → Trace → State
state_of core memory events = record { regs = core.regs; globals = core.globals; memory = memory; events = events }

-- what a throw needs of a program: its image, whose index is accepted, and its types
pub record Tables : Type 0 where
  pub image : Image
  pub types : List Row

abbrev pub tables_of : Image → List Row → Tables
tables_of image types = record { image = image; types = types }

-- ---- what a gate does

-- whether the run goes on, and the state that is left in either case
abbrev pub Outcome : Type 0
Outcome = Turned × State

-- an end in a state, which it leaves
abbrev pub trap_outcome : TrapKind → ℕ → State → Outcome
trap_outcome kind value s = (Ended (the_end.Trap kind value s.regs.pc), s)

abbrev pub terminate_outcome : Cause → State → Outcome
terminate_outcome cause s = (Ended (the_end.Terminate cause), s)

-- one event more
abbrev pub log_event : State → Event → State
log_event s e = record s { events = push_event s.events e }

-- the registers after a gate's instruction, where the next one is at `next`
abbrev pub at_next : ℕ → Regs → Regs
at_next next regs = record regs { pc = next }

abbrev pub reg : State → ℕ → ℕ
reg s k = slice_index s.regs.r k
