-- Both machines, with what GNU code expects at a landing pad (docs/rules/gnu-tables.md). The event is the machine's; if it goes on and enters a
-- landing pad, the pad is given what its code expects.
use Rattle.std.specs.Prelude.{ℕ, List, Some}
use Rattle.run_events.specs.Runs.{Event, Goes, Ends, Machine}
use Rattle.eh_cxa.specs.Lists.{entry}
use Rattle.eh_cxa.specs.Throw.{object_and_type}
use Rattle.eh_cxa.specs.Words.{word, set_slot_words}
use Rattle.eh_gates.specs.State.{State}
use Rattle.eh_types.specs.Graph.{Row}
use Rattle.run_gates.specs.Ends.{is_fault}
use Rattle.thumb_core.specs.declared.ends.End.{End}
use Rattle.thumb_core.specs.declared.ends.End.TheVariants as the_end
use Rattle.sim_machines.specs.ActivationMachine.{type_in, recorded_event, recorded_may_fail}
use Rattle.sim_machines.specs.Activations.{Recorded, memory_of, heads, lists_of, with_words}
use Rattle.sim_machines.specs.Machine.{machine_event, may_fail}
use Rattle.sim_machines.specs.Program.{Program}
use Rattle.gnu_machine.specs.Handed.{PadView, PadArguments, totals_of, landing_after, pad_arguments}

-- changes the state after an event that goes on; an event that ends the run is unchanged
abbrev pub map_goes : {S E : Type 0} → (S → S) → Event S E → Event S E
map_goes change (Goes t text left) = Goes (change t) text left
map_goes change (Ends end t) = Ends end t

-- ---- over bytes: the type of a slot's exception is a word of its header

abbrev pub state_view : State → PadView
state_view t = record {
  regs = t.regs;
  segments = t.memory.segments;
  words = word t.memory;
  type_of = λ slot. (object_and_type (word t.memory) (Some slot)).1;
  cleanup = t.globals.cleanup;
}

abbrev pub with_arguments : State → PadArguments → State
with_arguments t h = record t { regs = h.regs; memory = set_slot_words h.writes t.memory }

abbrev pub with_arguments_after : List Row → List (ℕ × ℕ) → State → State → State
with_arguments_after types filters s t = with_arguments t (pad_arguments types filters (state_view t) (landing_after (totals_of s.events) (totals_of t.events)))

unfoldable pub gnu_event : Program → List (ℕ × ℕ) → State → List ℕ → Event State End
gnu_event p filters s input = map_goes (with_arguments_after p.types filters s) (machine_event p s input)

abbrev pub gnu_machine_of : Program → List (ℕ × ℕ) → Machine State End
gnu_machine_of p filters = record { event = gnu_event p filters; spent = the_end.Budget; is_fault = is_fault; may_fail = may_fail p }

-- ---- with recorded activations: the type is in the exception's record

abbrev pub recorded_found_in : Recorded → PadView
recorded_found_in t = record {
  regs = t.regs;
  segments = t.segments;
  words = word (memory_of t);
  type_of = λ slot. type_in (entry (lists_of t) slot);
  cleanup = (heads (lists_of t)).cleanup;
}

abbrev pub recorded_with_arguments : Recorded → PadArguments → Recorded
recorded_with_arguments t h = record (with_words h.writes t) { regs = h.regs }

abbrev pub recorded_with_arguments_after : List Row → List (ℕ × ℕ) → Recorded → Recorded → Recorded
recorded_with_arguments_after types filters s t = recorded_with_arguments t (pad_arguments types filters (recorded_found_in t) (landing_after (totals_of s.events) (totals_of t.events)))

unfoldable pub recorded_gnu_event : Program → List (ℕ × ℕ) → Recorded → List ℕ → Event Recorded End
recorded_gnu_event p filters s input = map_goes (recorded_with_arguments_after p.types filters s) (recorded_event p s input)

abbrev pub recorded_gnu_machine : Program → List (ℕ × ℕ) → Machine Recorded End
recorded_gnu_machine p filters = record { event = recorded_gnu_event p filters; spent = the_end.Budget; is_fault = is_fault; may_fail = recorded_may_fail p }
