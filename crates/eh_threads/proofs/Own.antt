-- An event of a thread, and that of the machine with recorded activations.
use Rattle.std.proofs.Common.{◌≡◌, ℕ, List, Some, None, refl, ap, subst, ◌∙◌}
use Rattle.run_events.specs.Runs.{Event, Goes, Ends}
use Rattle.thumb_core.specs.declared.ends.End.{End}
use Rattle.eh_gates.specs.State.{State}
use Rattle.sim_machines.specs.Machine.{machine_event}
use Rattle.sim_machines.specs.Checked.{program_of}
use Rattle.sim_machines.specs.Activations.{Recorded, bytes_of}
use Rattle.sim_machines.specs.ActivationLaws.{Matches}
use Rattle.eh_machine.specs.sim_relation.Stands.{OnEvent}
use Rattle.eh_machine.proofs.sim_runs.OneEvent.{turns}
use Rattle.eh_threads.specs.Threads.{with_thread_number, put_thread}
use Rattle.eh_threads.specs.Elements.{switch_to, core_in, with_event}
use Rattle.eh_threads.specs.Laws.{EventFollows, OwnEventsFollow}
use Rattle.eh_threads.proofs.Elements.{element_by}

pub own_events_follow : OwnEventsFollow
own_events_follow x thread w core s t input text left is fits runs r e =
    let both = turns x s input is r.keeps fits in
    follows (machine_event (program_of x) (bytes_of s) input) refl
    (subst (λ (d : Event Recorded End). Matches (machine_event (program_of x) (bytes_of s) input) d) e both.same)
    (subst (λ (d : Event Recorded End). OnEvent x d) e both.keeps)
  where
    follows : (v : Event State End) → machine_event (program_of x) (bytes_of s) input ≡ v → Matches v (Goes t text left) → OnEvent x (Goes t text left)
        → EventFollows x thread w t input text left
    follows (Goes b said rest) q m keeps = record {
      bytes = b;
      goes = element_by (program_of x) (Some thread) w thread core input (Goes b said rest) (ap (with_thread_number thread) runs)
          (ap (λ (o : State). machine_event (program_of x) o input) r.same ∙ q)
          ∙ ap (λ (u : List ℕ). Goes (with_event thread b (put_thread w.threads thread (core_in b) None) (switch_to thread w)) u rest) m.1
          ∙ ap (λ (u : List ℕ). Goes (with_event thread b (put_thread w.threads thread (core_in b) None) (switch_to thread w)) text u) m.2;
      stands = record { same = m.0; keeps = keeps };
    }
    follows (Ends end b) q m keeps = absurd m
