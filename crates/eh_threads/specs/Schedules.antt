-- Runs of threads by a schedule (docs/guide/walks-and-threads.md, "Ends and runs").
use Rattle.std.specs.Prelude.{ℕ, ◌+◌, ◌-◌, nat_lt, List, [], length, Option, Some, None, slice_get, if◌then◌else◌}
use Rattle.run_events.specs.Runs.{Event, Goes, Ends, Ran, run}
use Rattle.thumb_core.specs.declared.ends.End.{End}
use Rattle.thumb_core.specs.declared.ends.End.TheVariants.{Exit, Budget}
use Rattle.sim_machines.specs.Program.{Program}
use Rattle.thread_schedule.specs.Schedules.{is_digit}
use Rattle.thread_schedule.specs.declared.schedule.TheConstants.{FIRST_DIGIT}
use Rattle.eh_threads.specs.Threads.{exit_number_of_all}
use Rattle.eh_threads.specs.Elements.{Joint, element}

-- the thread whose digit a byte of a schedule is
abbrev pub thread_of : ℕ → Option ℕ
thread_of byte = if is_digit byte then Some (byte - FIRST_DIGIT) else None

abbrev pub thread_in : Option ℕ → Option ℕ
thread_in None = None
thread_in (Some byte) = thread_of byte

abbrev pub thread_at : List ℕ → ℕ → Option ℕ
thread_at schedule at = thread_in (slice_get schedule at)

-- after the last element comes the first again
abbrev pub place_after : List ℕ → ℕ → ℕ
place_after schedule at = if nat_lt (at + 1) (length schedule) then at + 1 else 0

-- the threads, and the index of the next element
pub record SchedulePoint : Type 0 where
  pub joint : Joint
  pub at : ℕ

abbrev pub event_at_place : ℕ → Event Joint End → Event SchedulePoint End
event_at_place at (Goes w text left) = Goes (record { joint = w; at = at }) text left
event_at_place at (Ends end w) = Ends end (record { joint = w; at = at })

unfoldable pub next_element : Program → List ℕ → SchedulePoint → List ℕ → Event SchedulePoint End
next_element p schedule s input = event_at_place (place_after schedule s.at) (element p (thread_at schedule s.at) s.joint input)

-- a run begins with the first element
abbrev pub at_first : Joint → SchedulePoint
at_first w = record { joint = w; at = 0 }

abbrev pub unless_all_over : Option ℕ → ℕ → SchedulePoint → List ℕ → Ran SchedulePoint End → Ran SchedulePoint End
unless_all_over None n s input ran = ran
unless_all_over (Some number) n s input ran = record { text = []; end = Exit number; state = s; left = input; spare = n }

-- a run of at most n elements; it is over earlier if all threads have ended
unfoldable pub schedule_run : Program → List ℕ → ℕ → Joint → List ℕ → Ran SchedulePoint End
schedule_run p schedule n w input =
    unless_all_over (exit_number_of_all w.threads) n (at_first w) input (run (next_element p schedule) Budget n (at_first w) input)
