-- Forced unwinding: an exception is thrown to a frame given by its number, past all handlers inside that frame
-- (docs/guide/walks-and-threads.md, "Forced unwinding").
use Rattle.std.specs.Prelude.{ℕ, replicate, Option, Some, None, is_some, Result, Ok, Err}
use Rattle.eh_cxa.specs.Allocate.{allocate_of}
use Rattle.eh_cxa.specs.Cleanup.{innermost_of}
use Rattle.eh_cxa.specs.ListCalls.{allocate_list, innermost_in}
use Rattle.eh_cxa.specs.Throw.{Throw, start_throw_of}
use Rattle.eh_cxa.specs.Words.{Done, word, object_slot, set_slot_words}
use Rattle.eh_cxa.specs.declared.globals.CxaFault.{CxaFault}
use Rattle.eh_match.specs.declared.rules.Match.TheVariants.{Object}
use Rattle.eh_phase.specs.Calls.{stack_of}
use Rattle.eh_phase.specs.Frames.{frames_of}
use Rattle.eh_phase.specs.declared.phase1.Barrier.{Barrier}
use Rattle.eh_trace.specs.declared.event.Event.{Event}
use Rattle.eh_trace.specs.declared.event.EventKind.TheVariants as event
use Rattle.eh_trace.specs.declared.event.TheConstants.{MAX_BYTES}
use Rattle.eh_types.specs.Graph.{row_of}
use Rattle.eh_gates.specs.State.{State, Tables, log_event}
use Rattle.eh_gates.specs.Throwing.{throw_to}
use Rattle.thumb_core.specs.Registers.{all_of}
use Rattle.sim_machines.specs.Activations.{Recorded, memory_of, lists_of, cleanups_in, frames_at}
use Rattle.sim_machines.specs.ActivationMachine.{with_new, flight_of, in_flight}
use Rattle.sim_machines.specs.ActivationMachine as acts
use Rattle.sim_machines.specs.Program.{Program, program_tables}
use Rattle.eh_walk.specs.Sites.{site_state}
use Rattle.eh_walk.specs.Stops.{stop_at}
use Rattle.eh_walk.specs.declared.forcing.Forcing.{Forcing}
use Rattle.eh_walk.specs.declared.stopping.ForceFault.{ForceFault}
use Rattle.eh_walk.specs.declared.stopping.ForceFault.TheVariants.{NotSite, PoolFull}
use Rattle.eh_walk.specs.declared.stopping.StopFrame.{StopFrame}

-- ---- what is thrown: an object without bytes and without a destructor, of a type

abbrev pub forced_throw : ℕ → Throw
forced_throw type = record { ty = type; destructor = 0 }

abbrev pub forced_event : ℕ → ℕ → Event
forced_event object type = record { kind = event.Throw; a = object; b = type; c = 0; bytes = replicate MAX_BYTES 0; count = 0 }

-- the stop is its barrier
abbrev pub stop_barrier : ℕ → StopFrame → Barrier
stop_barrier object stop = record { sp = stop.sp; desc = stop.desc; site = stop.site; hit = Object object }

-- ---- over bytes: whether it was refused, and the new state

abbrev pub ForceResult : Type 0
ForceResult = Result (Unit {0}) ForceFault × State

abbrev pub with_new_words : State → State
with_new_words b = record b { memory = set_slot_words (allocate_of (word b.memory) 0).writes b.memory }

abbrev pub flight_words : ℕ → Throw → State → Done (Result ℕ CxaFault)
flight_words object t b = start_throw_of (word b.memory) b.globals (object_slot object) t

abbrev pub in_flight_words : ℕ → Throw → State → State
in_flight_words object t b = record b { globals = (flight_words object t b).globals; memory = set_slot_words (flight_words object t b).writes b.memory }

-- the exception flies to its barrier; if it can't be thrown nothing changes, but a new one always can
abbrev pub flies : Tables → ℕ → Barrier → Result ℕ CxaFault → State → State
flies g site b (Ok block) s = (throw_to g s site block b).1
flies g site b (Err why) s = s

abbrev pub forced_flight : Program → Forcing → ℕ → State → State
forced_flight p f object b =
    flies (program_tables p) f.site (stop_barrier object f.stop) (flight_words object (forced_throw f.ty) b).answer (in_flight_words object (forced_throw f.ty) b)

-- makes a new exception, adds the event of its throw, and lets it fly; without a free slot nothing is done
abbrev pub fly_allocated : Program → Forcing → State → Result ℕ CxaFault → ForceResult
fly_allocated p f b (Ok object) = (Ok tt, forced_flight p f object (log_event (with_new_words b) (forced_event object f.ty)))
fly_allocated p f b (Err why) = (Err PoolFull, b)

abbrev pub allocate_and_fly : Program → Forcing → State → ForceResult
allocate_and_fly p f b = fly_allocated p f b (allocate_of (word b.memory) 0).answer

abbrev pub force_to_stop : Program → ℕ → ℕ → State → Result StopFrame ForceFault → ForceResult
force_to_stop p site type b (Ok stop) = allocate_and_fly p (record { site = site; ty = type; stop = stop }) b
force_to_stop p site type b (Err why) = (Err why, b)

-- the frames are those of a walk from the site
abbrev pub force_from_site : Program → ℕ → ℕ → State → Option ℕ → ForceResult
force_from_site p number type b (Some site) =
    force_to_stop p site type b
    (stop_at (innermost_of (word b.memory) b.globals) (is_some (row_of p.types type)) number (frames_of p.image (stack_of b.memory) None site (all_of b.regs)).frames)
force_from_site p number type b None = (Err NotSite, b)

unfoldable pub force_outcome : Program → ℕ → ℕ → State → ForceResult
force_outcome p number type b = force_from_site p number type b (site_state p b.regs b.memory)

-- ---- with recorded activations

abbrev pub RecordedForced : Type 0
RecordedForced = Result (Unit {0}) ForceFault × Recorded

abbrev pub recorded_flies : Tables → ℕ → Barrier → Result ℕ CxaFault → Recorded → Recorded
recorded_flies g site b (Ok block) s = (acts.throw_to g site block b s).1
recorded_flies g site b (Err why) s = s

abbrev pub recorded_forced_flight : Program → Forcing → ℕ → Recorded → Recorded
recorded_forced_flight p f object s =
    recorded_flies (program_tables p) f.site (stop_barrier object f.stop) (flight_of object (forced_throw f.ty) s).answer (in_flight object (forced_throw f.ty) s)

abbrev pub recorded_fly_allocated : Program → Forcing → Recorded → Result ℕ CxaFault → RecordedForced
recorded_fly_allocated p f s (Ok object) = (Ok tt, recorded_forced_flight p f object (acts.log_event (with_new 0 s) (forced_event object f.ty)))
recorded_fly_allocated p f s (Err why) = (Err PoolFull, s)

abbrev pub recorded_allocate_and_fly : Program → Forcing → Recorded → RecordedForced
recorded_allocate_and_fly p f s = recorded_fly_allocated p f s (allocate_list (lists_of s) 0).answer

abbrev pub recorded_force_to_stop : Program → ℕ → ℕ → Recorded → Result StopFrame ForceFault → RecordedForced
recorded_force_to_stop p site type s (Ok stop) = recorded_allocate_and_fly p (record { site = site; ty = type; stop = stop }) s
recorded_force_to_stop p site type s (Err why) = (Err why, s)

-- the frames are those of the activations: the first one's own, and for each other what the one inside it recorded at its call
abbrev pub recorded_force_from_site : Program → ℕ → ℕ → Recorded → Option ℕ → RecordedForced
recorded_force_from_site p number type s (Some site) =
    recorded_force_to_stop p site type s
    (stop_at (innermost_in (cleanups_in s.cleanups)) (is_some (row_of p.types type)) number (frames_at p.image None site (all_of s.regs) s.first s.outer).frames)
recorded_force_from_site p number type s None = (Err NotSite, s)

unfoldable pub recorded_force_outcome : Program → ℕ → ℕ → Recorded → RecordedForced
recorded_force_outcome p number type s = recorded_force_from_site p number type s (site_state p s.regs (memory_of s))
