-- Whole runs of threads, over bytes and with recorded activations.
use Rattle.std.proofs.Common.{◌≡◌, ℕ, List, Option, Some, None, refl, ap, subst, ◌∙◌}
use Rattle.run_events.specs.Runs.{Event, Goes, Ends, Ran, run}
use Rattle.run_events.specs.Laws.{SameRan}
use Rattle.frame_check.specs.Accepts.{Accepted}
use Rattle.thumb_core.specs.declared.ends.End.{End}
use Rattle.thumb_core.specs.declared.ends.End.TheVariants.{Budget}
use Rattle.eh_trace.specs.Trace.{Trace}
use Rattle.sim_machines.specs.Checked.{program_of}
use Rattle.sim_relation.specs.Stands.{IsProgram}
use Rattle.sim_runs.specs.Turned.{AreBytes}
use Rattle.sim_runs.proofs.RunsOn.{AlikeOn, same_on}
use Rattle.eh_threads.specs.Threads.{exit_number_of_all}
use Rattle.eh_threads.specs.Elements.{Joint, element}
use Rattle.eh_threads.specs.Schedules as bytes_schedules
use Rattle.eh_threads.specs.Schedules.{SchedulePoint, thread_at, place_after, schedule_run}
use Rattle.thread_laws.specs.RecordedThreads.{RecordedThreads, RecordedPlace, recorded_element, event_at_place, next_element, at_first, unless_all_over, recorded_schedule_run, Observation, bytes_observation, recorded_observation}
use Rattle.thread_laws.specs.Standing.{ThreadsStand}
use Rattle.thread_laws.specs.Laws.{PlacesStand, RunsStand}
use Rattle.thread_laws.proofs.Alike.{EventLaws, Same, StartsSame, elements_same}
use Rattle.thread_laws.proofs.Starting.{starts_same}

module _ (laws : EventLaws) (x : Accepted) (is : IsProgram x) (starts : StartsSame x) (schedule : List ℕ) where
  abbrev SamePlace : Event SchedulePoint End → Event RecordedPlace End → Type 0
  SamePlace e d = AlikeOn SchedulePoint RecordedPlace End AreBytes (PlacesStand x) e d

  placed_same : (at : ℕ) (e : Event Joint End) (d : Event RecordedThreads End) → Same x e d → SamePlace (bytes_schedules.event_at_place at e) (event_at_place at d)
  placed_same at (Goes w text left) (Goes v said rest) a = (record { threads = a.0; at = refl }, a.1, a.2, a.3)
  placed_same at (Ends end w) (Ends why v) a = (a.0, record { threads = a.1; at = refl })
  placed_same at (Goes w text left) (Ends why v) a = absurd a
  placed_same at (Ends end w) (Goes v said rest) a = absurd a

  next_same : (s : SchedulePoint) (t : RecordedPlace) (input : List ℕ) → AreBytes input → PlacesStand x s t → SamePlace (bytes_schedules.next_element (program_of x) schedule s input) (next_element (program_of x) schedule t input)
  unfolding next_element bytes_schedules.next_element
  next_same s t input fits r =
      subst (λ (at : ℕ). SamePlace (bytes_schedules.event_at_place (place_after schedule s.at) (element (program_of x) (thread_at schedule s.at) s.joint input))
      (event_at_place (place_after schedule at) (recorded_element (program_of x) (thread_at schedule at) t.threads input))) r.at
      (placed_same (place_after schedule s.at) _ _ (elements_same laws x is starts s.joint t.threads r.threads input fits (thread_at schedule s.at)))

  runs_from : (n : ℕ) (w : Joint) (v : RecordedThreads) (input : List ℕ) → AreBytes input → ThreadsStand x w v
      → SameRan (PlacesStand x) (schedule_run (program_of x) schedule n w input) (recorded_schedule_run (program_of x) schedule n v input)
  unfolding schedule_run recorded_schedule_run
  runs_from n w v input fits r =
      subst (λ (o : Option ℕ). SameRan (PlacesStand x)
      (bytes_schedules.unless_all_over (exit_number_of_all w.threads) n (bytes_schedules.at_first w) input (run (bytes_schedules.next_element (program_of x) schedule) Budget n (bytes_schedules.at_first w) input))
      (unless_all_over o n (at_first v) input (run (next_element (program_of x) schedule) Budget n (at_first v) input))) (ap exit_number_of_all r.threads)
      (go (exit_number_of_all w.threads))
    where
      begin : PlacesStand x (bytes_schedules.at_first w) (at_first v)
      begin = record { threads = r; at = refl }

      go : (o : Option ℕ) → SameRan (PlacesStand x)
          (bytes_schedules.unless_all_over o n (bytes_schedules.at_first w) input (run (bytes_schedules.next_element (program_of x) schedule) Budget n (bytes_schedules.at_first w) input))
          (unless_all_over o n (at_first v) input (run (next_element (program_of x) schedule) Budget n (at_first v) input))
      go None =
          let w = (same_on SchedulePoint RecordedPlace End AreBytes (PlacesStand x) (bytes_schedules.next_element (program_of x) schedule) (next_element (program_of x) schedule) Budget next_same n
          (bytes_schedules.at_first w) (at_first v) input fits begin).same in
          record { text = w.text; end = w.end; left = w.left; spare = w.spare; state = w.state }
      go (Some number) = record { text = refl; end = refl; left = refl; spare = refl; state = begin }

pub told_same : (x : Accepted) (b : Ran SchedulePoint End) (s : Ran RecordedPlace End) → SameRan (PlacesStand x) b s → bytes_observation b ≡ recorded_observation s
told_same x b s w =
    let one : List ℕ → Observation = λ t. (t, b.state.joint.events, b.state.joint.tags, b.end, b.left) in
    let two : Trace → Observation = λ e. (s.text, e, b.state.joint.tags, b.end, b.left) in
    let three : List ℕ → Observation = λ t. (s.text, s.state.threads.events, t, b.end, b.left) in
    let four : End → Observation = λ e. (s.text, s.state.threads.events, s.state.threads.tags, e, b.left) in
    let five : List ℕ → Observation = λ l. (s.text, s.state.threads.events, s.state.threads.tags, s.end, l) in
    ap one w.text ∙ ap two w.state.threads.events ∙ ap three w.state.threads.tags ∙ ap four w.end ∙ ap five w.left

pub runs_stand : EventLaws → RunsStand
runs_stand laws x schedule n w v input is fits r = runs_from laws x is (starts_same laws.states x is) schedule n w v input fits r
